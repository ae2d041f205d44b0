use Rattle.k_rows.proofs.ImpossibleEvents.{an_exit_item_too_many_is_not}
use Rattle.k_rows.proofs.impossible.an_exit_item_too_many_is_impossible.Goals as goal

pub returns : goal.returns
returns c = an_exit_item_too_many_is_not
