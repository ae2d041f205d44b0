use Rattle.std.proofs.Common.{◌≡◌, length}
use Rattle.k_types.specs.Owners.{bytes_of, shared}
use Rattle.k_state.specs.Sums.{AreSums}
use Rattle.k_state.proofs.lists.PlainLists.shared_bytes.Given as goal

abbrev pub invariant-loop-s : goal.invariant-loop-s
invariant-loop-s l = record {
  sized : length l.sums ≡ 64;
  done : AreSums l.sums (λ s. bytes_of l.self.setup l.self.state (shared s)) l.s;
}
