use Rattle.std.proofs.Common.{◌≡◌, length, take}
use Rattle.k_types.specs.Owners.{bytes_of, charge_by}
use Rattle.k_types.specs.Trace.{process_count}
use Rattle.k_state.specs.Sums.{AreSums}
use Rattle.k_state.proofs.lists.PlainLists.charges.Given as goal

abbrev pub invariant-loop-share : goal.invariant-loop-share
invariant-loop-share l = record {
  sized : length l.sums ≡ 64;
  sums : AreSums l.sums (charge_by (bytes_of l.self.setup l.self.state) l.self.state.ended (take l.share-index l.share-items)) (process_count l.self.setup);
}
