use Rattle.k_text.proofs.Reports.{the_root_keeps_its_maximum_is}
use Rattle.k_text.proofs.worked.the_root_keeps_its_maximum_row.Goals as goal

pub returns : goal.returns
returns c = the_root_keeps_its_maximum_is
