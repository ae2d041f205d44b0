use Rattle.k_text.proofs.Reports.{maxima_change_is}
use Rattle.k_text.proofs.worked.maxima_change_row.Goals as goal

pub returns : goal.returns
returns c = maxima_change_is
