use Rattle.k_rows.proofs.ImpossibleEvents.{closing_a_scanned_kernel_is_not}
use Rattle.k_rows.proofs.impossible.closing_a_scanned_kernel_is_impossible.Goals as goal

pub returns : goal.returns
returns c = closing_a_scanned_kernel_is_not
