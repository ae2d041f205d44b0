use Rattle.k_mark.proofs.Sums.{segments_most, segments_fewer}
use Rattle.k_mark.proofs.changes.segments_are_fewer_than_numbers.Goals as goal

pub returns-clause-most : goal.returns-clause-most
returns-clause-most c = segments_most

pub returns-clause-fewer : goal.returns-clause-fewer
returns-clause-fewer c = segments_fewer
