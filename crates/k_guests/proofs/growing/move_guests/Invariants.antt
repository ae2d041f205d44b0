use Rattle.std.proofs.Common.{◌≡◌, ◌+◌, length}
use Rattle.k_guests.specs.Growing.{IsGuestRoom, OfEach, changed_first, guest_with_tables}
use Rattle.k_guests.proofs.growing.move_guests.Given as goal

abbrev pub invariant-loop-i : goal.invariant-loop-i
invariant-loop-i l = record {
  guests_are : l.guests.items ≡ changed_first (guest_with_tables l.rooms.exits l.rooms.tail) l.i l.fn.guests.items;
  count : length l.larger.items + l.i ≡ length l.fn.guests.items;
  each : OfEach (IsGuestRoom l.rooms) l.larger.items;
}
