use Rattle.k_rows.proofs.ImpossibleEvents.{a_kill_while_the_kernel_is_scanned_is_not}
use Rattle.k_rows.proofs.impossible.a_kill_while_the_kernel_is_scanned_is_impossible.Goals as goal

pub returns : goal.returns
returns c = a_kill_while_the_kernel_is_scanned_is_not
