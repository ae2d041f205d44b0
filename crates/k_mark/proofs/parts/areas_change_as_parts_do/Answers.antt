use Rattle.k_mark.proofs.OfParts.{created_part, written_part, marked_part, taken_part, empty_part}
use Rattle.k_mark.proofs.parts.areas_change_as_parts_do.Goals as goal

pub returns-clause-created : goal.returns-clause-created
returns-clause-created c = created_part

pub returns-clause-written : goal.returns-clause-written
returns-clause-written c = written_part

pub returns-clause-marked : goal.returns-clause-marked
returns-clause-marked c = marked_part

pub returns-clause-taken_in : goal.returns-clause-taken_in
returns-clause-taken_in c = taken_part

pub returns-clause-given_away : goal.returns-clause-given_away
returns-clause-given_away c = empty_part
