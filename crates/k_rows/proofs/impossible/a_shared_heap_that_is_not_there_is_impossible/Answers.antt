use Rattle.k_rows.proofs.ImpossibleEvents.{a_shared_heap_that_is_not_there_is_not}
use Rattle.k_rows.proofs.impossible.a_shared_heap_that_is_not_there_is_impossible.Goals as goal

pub returns : goal.returns
returns c = a_shared_heap_that_is_not_there_is_not
