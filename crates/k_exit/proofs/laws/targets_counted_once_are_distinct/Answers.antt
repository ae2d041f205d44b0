use Rattle.k_exit.proofs.Takes.{targets_once}
use Rattle.k_exit.proofs.laws.targets_counted_once_are_distinct.Goals as goal

pub returns-clause-counts : goal.returns-clause-counts
returns-clause-counts c = targets_once
