use Rattle.k_laws.proofs.SquaresLaws.{steps_show_in_the_parts-cells, steps_show_in_the_parts-book}
use Rattle.k_laws.proofs.steps.steps_show_in_the_parts.Goals as goal

pub returns-clause-cells : goal.returns-clause-cells
returns-clause-cells c = steps_show_in_the_parts-cells

pub returns-clause-book : goal.returns-clause-book
returns-clause-book c = steps_show_in_the_parts-book
