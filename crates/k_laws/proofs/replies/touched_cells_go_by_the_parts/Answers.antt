use Rattle.k_laws.proofs.LocalityLaws.{touched_cells_go_by_the_parts-touched, touched_cells_go_by_the_parts-turned}
use Rattle.k_laws.proofs.replies.touched_cells_go_by_the_parts.Goals as goal

pub returns-clause-touched : goal.returns-clause-touched
returns-clause-touched c = touched_cells_go_by_the_parts-touched

pub returns-clause-turned : goal.returns-clause-turned
returns-clause-turned c = touched_cells_go_by_the_parts-turned
