use Rattle.k_laws.proofs.Laws.{parts_determine_the_state-uses, parts_determine_the_state-all}
use Rattle.k_laws.proofs.parts.parts_determine_the_state.Goals as goal

pub returns-clause-uses : goal.returns-clause-uses
returns-clause-uses c = parts_determine_the_state-uses

pub returns-clause-all : goal.returns-clause-all
returns-clause-all c = parts_determine_the_state-all
