use Rattle.k_mark.proofs.Joined.{joined_area, left_area, parted_area, none_area, alone_area}
use Rattle.k_mark.proofs.changes.segments_join_and_leave.Goals as goal

pub returns-clause-joined : goal.returns-clause-joined
returns-clause-joined c = joined_area

pub returns-clause-left : goal.returns-clause-left
returns-clause-left c = left_area

pub returns-clause-parted : goal.returns-clause-parted
returns-clause-parted c = parted_area

pub returns-clause-none : goal.returns-clause-none
returns-clause-none c = none_area

pub returns-clause-alone : goal.returns-clause-alone
returns-clause-alone c = alone_area
