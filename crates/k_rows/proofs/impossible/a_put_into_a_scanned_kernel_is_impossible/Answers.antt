use Rattle.k_rows.proofs.ImpossibleEvents.{a_put_into_a_scanned_kernel_is_not}
use Rattle.k_rows.proofs.impossible.a_put_into_a_scanned_kernel_is_impossible.Goals as goal

pub returns : goal.returns
returns c = a_put_into_a_scanned_kernel_is_not
