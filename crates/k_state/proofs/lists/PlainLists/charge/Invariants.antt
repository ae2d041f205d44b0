use Rattle.std.proofs.Common.{◌≡◌, ◌+◌, ◌==◌, ◌-◌, ◌^◌, ◌≤◌, drop, min, filter}
use Rattle.k_types.specs.Totals.{total}
use Rattle.k_types.specs.Owners.{bytes_of, charge_of, shared}
use Rattle.k_state.proofs.lists.PlainLists.charge.Given as goal

abbrev pub invariant-loop-share : goal.invariant-loop-share
invariant-loop-share l = record {
  small : l.sum ≤ 2 ^ 64 - 1;
  sum : min (l.sum + total (λ e. bytes_of l.self.setup l.self.state (shared e.heap)) (filter (λ e. e.process == l.pid.0) (drop l.share-index l.share-items))) (2 ^ 64 - 1)
      ≡ min (charge_of l.self.setup l.self.state l.pid.0) (2 ^ 64 - 1);
}
