use Rattle.k_rows.proofs.ImpossibleEvents.{absorbing_into_a_scanned_kernel_is_not}
use Rattle.k_rows.proofs.impossible.absorbing_into_a_scanned_kernel_is_impossible.Goals as goal

pub returns : goal.returns
returns c = absorbing_into_a_scanned_kernel_is_not
