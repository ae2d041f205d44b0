use Rattle.k_mark.proofs.Looked.{row_placed, row_changed, row_joined, row_unmarked, row_swept}
use Rattle.k_mark.proofs.names.names_find_what_changes_left.Goals as goal

pub returns-clause-placed : goal.returns-clause-placed
returns-clause-placed c = row_placed

pub returns-clause-changed : goal.returns-clause-changed
returns-clause-changed c = row_changed

pub returns-clause-joined : goal.returns-clause-joined
returns-clause-joined c = row_joined

pub returns-clause-unmarked : goal.returns-clause-unmarked
returns-clause-unmarked c = row_unmarked

pub returns-clause-swept : goal.returns-clause-swept
returns-clause-swept c = row_swept
