use Rattle.k_rows.proofs.TheRootKeepsItsMaximum.{worked}
use Rattle.k_rows.proofs.governing.the_root_keeps_its_maximum_row.Goals as goal

pub returns : goal.returns
returns c = worked
