use Rattle.std.proofs.Common.{take}
use Rattle.k_print.proofs.Tested.{AreTested}
use Rattle.k_print.proofs.testing.tested.Given as goal

abbrev pub invariant-loop-event : goal.invariant-loop-event
invariant-loop-event l = AreTested (take l.event-index l.events) l.done
