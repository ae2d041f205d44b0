-- The pins of a process's registers.
use Rattle.std.specs.Prelude.{◌≡◌, ◌≢◌, ℕ, ◌+◌, ◌≤◌, ◌==◌, List, Option, if◌then◌else◌}
use Rattle.k_types.specs.declared.names.Name.{Name}
use Rattle.k_types.specs.Agree.{BookValue}
use Rattle.k_types.specs.Cells.{pins_of}
use Rattle.k_types.specs.Counted.{counted}

-- an object that lies outside the segment is pinned at least as often as these registers hold it
abbrev pub ArePinned : ℕ → List (Option Name) → BookValue → Type 0
ArePinned own registers book = (n : Name) → n.seg.0 ≢ own → pins_of registers n ≤ counted book.pins n

-- the pins of what these registers hold outside the segment are gone, each as often as it is held
abbrev pub HasLetGo : ℕ → List (Option Name) → BookValue → BookValue → Type 0
HasLetGo own registers before after =
    (n : Name) → counted after.pins n + (if n.seg.0 == own then 0 else pins_of registers n) ≡ counted before.pins n
