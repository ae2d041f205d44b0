use Rattle.k_own.proofs.Dropped.{IsDropping}
use Rattle.k_own.proofs.charges.drop_shares.Given as goal

abbrev pub invariant-loop-s : goal.invariant-loop-s
invariant-loop-s l = IsDropping l.pid.0 l.fn.book l.book l.s l.bytes
