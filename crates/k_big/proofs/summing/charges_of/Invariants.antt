use Rattle.std.proofs.Common.{◌≡◌}
use Rattle.k_types.specs.Numbers.{numbers_below}
use Rattle.k_types.specs.Owners.{charge_of}
use Rattle.k_types.specs.Totals.{total}
use Rattle.k_big.proofs.summing.charges_of.Given as goal

abbrev pub invariant-loop-pid : goal.invariant-loop-pid
invariant-loop-pid g l = l.sum ≡ total (charge_of (g.V.View.trace l.view) (g.V.View.state l.view)) (numbers_below l.pid)
