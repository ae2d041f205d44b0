use Rattle.std.proofs.Common.{◌≡◌}
use Rattle.k_guests.specs.Growing.{FitsIn, OfFirst, changed_first, guest_with_objects}
use Rattle.k_guests.proofs.segments.grow_guests.Given as goal

abbrev pub invariant-loop-i : goal.invariant-loop-i
invariant-loop-i l = record {
  guests_are : l.guests.items ≡ changed_first (guest_with_objects l.objects) l.i l.fn.guests.items;
  fit : OfFirst (FitsIn l.old) l.i l.fn.guests.items;
}
