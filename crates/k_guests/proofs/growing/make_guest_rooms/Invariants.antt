use Rattle.std.proofs.Common.{◌≡◌, length}
use Rattle.k_guests.specs.Growing.{IsGuestRoom, OfEach}
use Rattle.k_guests.proofs.growing.make_guest_rooms.Given as goal

abbrev pub invariant-loop : goal.invariant-loop
invariant-loop l = record {
  count : length l.made.items ≡ l.counter;
  each : OfEach (IsGuestRoom l.rooms) l.made.items;
}
