use Rattle.k_text.proofs.Reports.{every_sharer_pays_is}
use Rattle.k_text.proofs.worked.every_sharer_pays_row.Goals as goal

pub returns : goal.returns
returns c = every_sharer_pays_is
