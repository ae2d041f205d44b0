use Rattle.std.proofs.Common.{length}
use Rattle.k_check.proofs.LinesRead.{IsReading}
use Rattle.k_check.proofs.lines.read_events.Given as goal

abbrev pub invariant-loop-rest : goal.invariant-loop-rest
invariant-loop-rest l = IsReading l.initial.walk.trace l.report l.walk l.rest l.number

abbrev pub decreases-loop-rest : goal.decreases-loop-rest
decreases-loop-rest l = length l.rest
