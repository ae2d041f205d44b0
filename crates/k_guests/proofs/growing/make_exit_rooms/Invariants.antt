use Rattle.std.proofs.Common.{◌≡◌, replicate}
use Rattle.k_guests.proofs.growing.make_exit_rooms.Given as goal

abbrev pub invariant-loop : goal.invariant-loop
invariant-loop l = l.made.items ≡ replicate l.counter l.exits
