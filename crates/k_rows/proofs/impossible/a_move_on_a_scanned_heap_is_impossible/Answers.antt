use Rattle.k_rows.proofs.ImpossibleEvents.{a_move_on_a_scanned_heap_is_not}
use Rattle.k_rows.proofs.impossible.a_move_on_a_scanned_heap_is_impossible.Goals as goal

pub returns : goal.returns
returns c = a_move_on_a_scanned_heap_is_not
