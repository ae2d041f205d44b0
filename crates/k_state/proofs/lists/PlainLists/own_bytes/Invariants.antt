use Rattle.std.proofs.Common.{◌≡◌, ◌≤◌, ℕ, [], get_or, length}
use Rattle.k_types.specs.Owners.{bytes_of, charge_by}
use Rattle.k_state.specs.Sums.{AreSums}
use Rattle.k_state.proofs.lists.PlainLists.own_bytes.Given as goal

abbrev pub invariant-loop-p : goal.invariant-loop-p
invariant-loop-p l = record {
  sized : length l.sums ≡ 64;
  done : AreSums l.sums (charge_by (bytes_of l.self.setup l.self.state) l.self.state.ended []) l.p;
  rest : (k : ℕ) → l.p ≤ k → get_or l.sums k 0 ≡ 0;
}
