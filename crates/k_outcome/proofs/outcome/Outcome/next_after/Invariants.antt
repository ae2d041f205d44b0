use Rattle.std.proofs.Common.{◌≡◌}
use Rattle.k_types.specs.Trace.{segment_count}
use Rattle.k_outcome.specs.Ends.{last_state}
use Rattle.k_outcome.proofs.Walked.{HasCome}
use Rattle.k_outcome.proofs.outcome.Outcome.next_after.Given as goal

abbrev pub invariant-loop-seg : goal.invariant-loop-seg
invariant-loop-seg l = record {
  all : l.segments ≡ segment_count l.self.setup;
  come : HasCome (last_state l.self).objects l.fn.after l.seg l.passed;
}
