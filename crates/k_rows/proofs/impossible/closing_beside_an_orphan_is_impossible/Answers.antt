use Rattle.k_rows.proofs.ImpossibleEvents.{closing_beside_an_orphan_is_not}
use Rattle.k_rows.proofs.impossible.closing_beside_an_orphan_is_impossible.Goals as goal

pub returns : goal.returns
returns c = closing_beside_an_orphan_is_not
