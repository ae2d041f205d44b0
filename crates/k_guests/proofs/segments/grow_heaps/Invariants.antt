use Rattle.std.proofs.Common.{◌≡◌}
use Rattle.k_guests.specs.Growing.{HeapFitsIn, OfFirst, changed_first, heap_with_objects}
use Rattle.k_guests.proofs.segments.grow_heaps.Given as goal

abbrev pub invariant-loop-i : goal.invariant-loop-i
invariant-loop-i l = record {
  shared_are : l.shared.items ≡ changed_first (heap_with_objects l.objects) l.i l.fn.shared.items;
  fit : OfFirst (HeapFitsIn l.old) l.i l.fn.shared.items;
}
