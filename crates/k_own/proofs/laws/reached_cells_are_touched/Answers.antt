use Rattle.k_own.proofs.Told.{reached_is_touched}
use Rattle.k_own.proofs.laws.reached_cells_are_touched.Goals as goal

pub returns : goal.returns
returns c = reached_is_touched
