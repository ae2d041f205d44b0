use Rattle.k_reports.proofs.Spelled.{all_spelled}
use Rattle.k_reports.proofs.laws.histories_can_be_spelled.Goals as goal

pub returns : goal.returns
returns c = all_spelled
