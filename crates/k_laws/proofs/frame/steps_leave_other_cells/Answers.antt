use Rattle.k_laws.proofs.FrameLaws.{steps_leave_other_cells-part, steps_leave_other_cells-count, steps_leave_other_cells-touched, steps_leave_other_cells-untouched}
use Rattle.k_laws.proofs.frame.steps_leave_other_cells.Goals as goal

pub returns-clause-part : goal.returns-clause-part
returns-clause-part c = steps_leave_other_cells-part

pub returns-clause-count : goal.returns-clause-count
returns-clause-count c = steps_leave_other_cells-count

pub returns-clause-touched : goal.returns-clause-touched
returns-clause-touched c = steps_leave_other_cells-touched

pub returns-clause-untouched : goal.returns-clause-untouched
returns-clause-untouched c = steps_leave_other_cells-untouched
