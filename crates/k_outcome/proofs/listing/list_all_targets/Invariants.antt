use Rattle.std.proofs.Common.{◌≡◌, []}
use Rattle.k_types.specs.Trace.{segment_count, trace_of}
use Rattle.k_outcome.proofs.Filled.{AreFilledTo}
use Rattle.k_outcome.proofs.listing.list_all_targets.Given as goal

abbrev pub invariant-loop-seg : goal.invariant-loop-seg
invariant-loop-seg l = record {
  all : l.count ≡ segment_count (trace_of l.setup [] []);
  filled : AreFilledTo (trace_of l.setup [] []) l.cells l.targets.items l.seg;
}
