use Rattle.std.proofs.Common.{◌≡◌}
use Rattle.k_guests.specs.Growing.{changed_first, heap_with_objects}
use Rattle.k_guests.proofs.segments.narrow_heaps.Given as goal

abbrev pub invariant-loop-i : goal.invariant-loop-i
invariant-loop-i l = l.shared.items ≡ changed_first (heap_with_objects l.objects) l.i l.fn.shared.items
