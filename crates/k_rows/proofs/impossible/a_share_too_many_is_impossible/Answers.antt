use Rattle.k_rows.proofs.ImpossibleEvents.{a_share_too_many_is_not}
use Rattle.k_rows.proofs.impossible.a_share_too_many_is_impossible.Goals as goal

pub returns : goal.returns
returns c = a_share_too_many_is_not
