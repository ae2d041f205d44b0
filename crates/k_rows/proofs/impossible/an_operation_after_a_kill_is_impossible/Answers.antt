use Rattle.k_rows.proofs.ImpossibleEvents.{an_operation_after_a_kill_is_not}
use Rattle.k_rows.proofs.impossible.an_operation_after_a_kill_is_impossible.Goals as goal

pub returns : goal.returns
returns c = an_operation_after_a_kill_is_not
