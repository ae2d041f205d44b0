use Rattle.k_text.proofs.Reports.{exits_of_each_kind_is}
use Rattle.k_text.proofs.worked.exits_of_each_kind_row.Goals as goal

pub returns : goal.returns
returns c = exits_of_each_kind_is
