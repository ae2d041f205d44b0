use Rattle.std.proofs.Common.{◌≡◌}
use Rattle.k_guests.specs.Growing.{changed_first, guest_with_objects}
use Rattle.k_guests.proofs.segments.narrow_guests.Given as goal

abbrev pub invariant-loop-i : goal.invariant-loop-i
invariant-loop-i l = l.guests.items ≡ changed_first (guest_with_objects l.objects) l.i l.fn.guests.items
