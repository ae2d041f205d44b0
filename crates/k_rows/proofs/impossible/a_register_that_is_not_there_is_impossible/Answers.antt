use Rattle.k_rows.proofs.ImpossibleEvents.{a_register_that_is_not_there_is_not}
use Rattle.k_rows.proofs.impossible.a_register_that_is_not_there_is_impossible.Goals as goal

pub returns : goal.returns
returns c = a_register_that_is_not_there_is_not
