use Rattle.k_history.proofs.Readings.{other_lines_are_none}
use Rattle.k_history.proofs.worked.other_lines_are_none.Goals as goal

pub returns : goal.returns
returns c = other_lines_are_none
