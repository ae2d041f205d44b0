use Rattle.std.proofs.Common.{◌≡◌, ◌==◌, length}
use Rattle.std.specs.Prelude.{filter}
use Rattle.k_types.specs.Totals.{total}
use Rattle.k_types.specs.Numbers.{numbers_below}
use Rattle.k_types.specs.Owners.{charge_of}
use Rattle.k_types.specs.Trace.{limit_of}
use Rattle.k_state.specs.Sums.{AreSums}
use Rattle.k_state.proofs.lists.PlainLists.directs.Given as goal

abbrev pub invariant-loop-p : goal.invariant-loop-p
invariant-loop-p l = record {
  sized : length l.sums ≡ 128;
  sums : AreSums l.sums (λ m. total (charge_of l.self.setup l.self.state) (filter (λ p. limit_of l.self.setup p == m) (numbers_below l.p))) (length l.self.setup.limits);
}
