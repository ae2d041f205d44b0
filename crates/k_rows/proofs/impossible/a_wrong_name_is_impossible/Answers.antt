use Rattle.k_rows.proofs.ImpossibleEvents.{a_wrong_name_is_not}
use Rattle.k_rows.proofs.impossible.a_wrong_name_is_impossible.Goals as goal

pub returns : goal.returns
returns c = a_wrong_name_is_not
