use Rattle.std.proofs.Common.{◌≡◌, ◌++◌, take}
use Rattle.k_opening.proofs.reporting.add_shared.Given as goal

abbrev pub invariant-loop-room : goal.invariant-loop-room
invariant-loop-room l = l.rooms ≡ l.fn.rooms ++ take l.room-index l.exits
