use Rattle.k_rows.proofs.ImpossibleEvents.{a_put_on_a_scanned_heap_is_not}
use Rattle.k_rows.proofs.impossible.a_put_on_a_scanned_heap_is_impossible.Goals as goal

pub returns : goal.returns
returns c = a_put_on_a_scanned_heap_is_not
