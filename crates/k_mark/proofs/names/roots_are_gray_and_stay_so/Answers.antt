use Rattle.k_mark.proofs.Looked.{none_marked, gray_one, black_same, gray_placed, gray_written, gray_joined, gray_swept, black_placed, black_written}
use Rattle.k_mark.proofs.names.roots_are_gray_and_stay_so.Goals as goal

pub returns-clause-none : goal.returns-clause-none
returns-clause-none c = none_marked

pub returns-clause-one : goal.returns-clause-one
returns-clause-one c = gray_one

pub returns-clause-black : goal.returns-clause-black
returns-clause-black c = black_same

pub returns-clause-placed : goal.returns-clause-placed
returns-clause-placed c = gray_placed

pub returns-clause-written : goal.returns-clause-written
returns-clause-written c = gray_written

pub returns-clause-joined : goal.returns-clause-joined
returns-clause-joined c = gray_joined

pub returns-clause-swept : goal.returns-clause-swept
returns-clause-swept c = gray_swept

pub returns-clause-placed_black : goal.returns-clause-placed_black
returns-clause-placed_black c = black_placed

pub returns-clause-written_black : goal.returns-clause-written_black
returns-clause-written_black c = black_written
