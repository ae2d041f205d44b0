use Rattle.k_text.proofs.Reports.{ceiling_is}
use Rattle.k_text.proofs.worked.ceiling_row.Goals as goal

pub returns : goal.returns
returns c = ceiling_is
