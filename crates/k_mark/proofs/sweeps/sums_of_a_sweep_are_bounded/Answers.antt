use Rattle.k_mark.proofs.Bounded.{one_most, one_bytes_most, small_bytes}
use Rattle.k_mark.proofs.Sums.{dead_most, dead_bytes_most}
use Rattle.k_mark.proofs.sweeps.sums_of_a_sweep_are_bounded.Goals as goal

pub returns-clause-one : goal.returns-clause-one
returns-clause-one c = one_most

pub returns-clause-one_bytes : goal.returns-clause-one_bytes
returns-clause-one_bytes c = one_bytes_most

pub returns-clause-all : goal.returns-clause-all
returns-clause-all c = dead_most

pub returns-clause-all_bytes : goal.returns-clause-all_bytes
returns-clause-all_bytes c = dead_bytes_most

pub returns-clause-bytes : goal.returns-clause-bytes
returns-clause-bytes c = small_bytes
