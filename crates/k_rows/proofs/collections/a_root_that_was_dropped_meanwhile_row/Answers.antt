use Rattle.k_rows.proofs.ARootThatWasDroppedMeanwhile.{worked}
use Rattle.k_rows.proofs.collections.a_root_that_was_dropped_meanwhile_row.Goals as goal

pub returns : goal.returns
returns c = worked
