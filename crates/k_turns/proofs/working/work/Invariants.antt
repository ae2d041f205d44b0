use Rattle.k_turns.specs.Values.{IsFree}
use Rattle.k_turns.proofs.working.work.Given as goal

abbrev pub invariant-loop : goal.invariant-loop
invariant-loop g l = IsFree l.turns l.pass
