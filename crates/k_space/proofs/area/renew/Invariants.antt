use Rattle.std.proofs.Common.{◌≡◌, length}
use Rattle.k_space.proofs.Hinted.{AreSetBelow}
use Rattle.k_space.proofs.area.renew.Given as goal

abbrev pub invariant-loop-i : goal.invariant-loop-i
invariant-loop-i l = record {
  len : length l.hints ≡ length l.fn.hints;
  found : AreSetBelow l.fn.segments l.hints l.i;
}
