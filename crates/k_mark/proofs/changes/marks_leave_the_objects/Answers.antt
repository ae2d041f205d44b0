use Rattle.k_mark.proofs.Changed.{grayed_area, blackened_area, unmarked_area, same_area}
use Rattle.k_mark.proofs.changes.marks_leave_the_objects.Goals as goal

pub returns-clause-grayed : goal.returns-clause-grayed
returns-clause-grayed c = grayed_area

pub returns-clause-blackened : goal.returns-clause-blackened
returns-clause-blackened c = blackened_area

pub returns-clause-unmarked : goal.returns-clause-unmarked
returns-clause-unmarked c = unmarked_area

pub returns-clause-same : goal.returns-clause-same
returns-clause-same c = same_area
