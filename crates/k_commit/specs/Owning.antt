-- How a process knows its own objects.
use Rattle.std.specs.Prelude.{◌≡◌, ◌+◌, ◌==◌, ℕ, Option, Some}
use Rattle.k_types.specs.declared.names.Heap.{Heap}
use Rattle.k_types.specs.declared.names.Name.{Name}
use Rattle.k_types.specs.Names.{heap_eq}
use Rattle.k_types.specs.Owners.{user}

-- an object of that name is the process's own exactly where it lies in the process's segment
abbrev pub IsOwnBySegment : (ℕ → Heap) → ℕ → Option Name → Type 0
IsOwnBySegment own p value = (n : Name) → value ≡ Some n → heap_eq (user p) (own n.seg.0) ≡ (n.seg.0 == p + 1)
