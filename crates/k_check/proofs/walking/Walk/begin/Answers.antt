use Rattle.k_trace.specs.Meaning.{meaning_of}
use Rattle.k_solo.proofs.Lines.{setup_rules}
use Rattle.k_check.proofs.Walks.{begins}
use Rattle.k_check.proofs.walking.Walk.begin.Goals as goal

pub opening-requires : goal.opening-requires
opening-requires c = setup_rules (meaning_of c.args.trace.now).trace c.requires.rules

pub invariant_of-result : goal.invariant_of-result
invariant_of-result c = rw c.new.ensures.items (begins (meaning_of c.args.trace.now) c.in_ok-state.state c.requires c.in_ok-state.ensures)
