use Rattle.k_rows.proofs.ImpossibleEvents.{closing_before_all_have_ended_is_not}
use Rattle.k_rows.proofs.impossible.closing_before_all_have_ended_is_impossible.Goals as goal

pub returns : goal.returns
returns c = closing_before_all_have_ended_is_not
