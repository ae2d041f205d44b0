use Rattle.std.proofs.Common.{◌≡◌, ◌+◌, ◌-◌, length}
use Rattle.k_types.specs.Limits.{direct_by, limits_in}
use Rattle.k_types.specs.Owners.{charge_of}
use Rattle.k_state.specs.Sums.{AreSums}
use Rattle.k_state.proofs.Uses.{uses_left}
use Rattle.k_state.proofs.lists.PlainLists.uses.Given as goal

abbrev pub invariant-loop-i : goal.invariant-loop-i
invariant-loop-i l = record {
  sized : length l.sums ≡ 128;
  sums : AreSums l.sums
      (λ m. direct_by l.self.setup (charge_of l.self.setup l.self.state) m
      + uses_left (limits_in l.self.setup l.self.state) (direct_by l.self.setup (charge_of l.self.setup l.self.state)) (length (limits_in l.self.setup l.self.state)) m (length (limits_in l.self.setup l.self.state) - l.i))
      (length l.self.setup.limits);
}
