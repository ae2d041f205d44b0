use Rattle.k_rows.proofs.ImpossibleEvents.{one_object_too_many_is_not}
use Rattle.k_rows.proofs.impossible.one_object_too_many_is_impossible.Goals as goal

pub returns : goal.returns
returns c = one_object_too_many_is_not
