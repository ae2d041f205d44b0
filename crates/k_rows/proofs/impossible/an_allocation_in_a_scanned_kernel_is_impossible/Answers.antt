use Rattle.k_rows.proofs.ImpossibleEvents.{an_allocation_in_a_scanned_kernel_is_not}
use Rattle.k_rows.proofs.impossible.an_allocation_in_a_scanned_kernel_is_impossible.Goals as goal

pub returns : goal.returns
returns c = an_allocation_in_a_scanned_kernel_is_not
