use Rattle.k_trace.specs.Meaning.{meaning_of}
use Rattle.k_big.proofs.Filed.{filed_charges, filed_root}
use Rattle.k_text_tests.proofs.big_tests.check_summary.Goals as goal

pub summary-requires : goal.summary-requires
summary-requires g c = record {
  limits = filed_root (meaning_of c.in_ok-trace.trace).trace c.in_ok-end.end c.in_ok-trace.ensures.rules.has_root c.in_ok-end.ensures;
  charges = filed_charges (meaning_of c.in_ok-trace.trace).trace c.in_ok-end.end c.in_ok-trace.ensures.rules.rules c.in_ok-end.ensures;
}
