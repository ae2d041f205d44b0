use Rattle.k_rows.proofs.ImpossibleEvents.{closing_twice_is_not}
use Rattle.k_rows.proofs.impossible.closing_twice_is_impossible.Goals as goal

pub returns : goal.returns
returns c = closing_twice_is_not
