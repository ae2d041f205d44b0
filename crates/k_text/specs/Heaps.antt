-- The heaps of a trace by the segments with which they begin.
use Rattle.std.specs.Prelude.{ℕ, ◌-◌, ◌==◌, nat_le, if◌then◌else◌}
use Rattle.k_types.specs.declared.names.Heap.{Heap}
use Rattle.k_types.specs.declared.names.Heap.TheVariants.{Kernel}
use Rattle.k_types.specs.Owners.{user, shared}
use Rattle.k_types.specs.Trace.{Trace, process_count}

-- the heap that begins with the segment
abbrev pub heap_at : Trace → ℕ → Heap
heap_at trace seg =
    if seg == 0 then Kernel
    else if nat_le seg (process_count trace) then user (seg - 1)
    else shared (seg - 1 - process_count trace)
