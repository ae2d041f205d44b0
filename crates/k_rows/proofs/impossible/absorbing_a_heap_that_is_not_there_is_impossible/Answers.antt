use Rattle.k_rows.proofs.ImpossibleEvents.{absorbing_a_heap_that_is_not_there_is_not}
use Rattle.k_rows.proofs.impossible.absorbing_a_heap_that_is_not_there_is_impossible.Goals as goal

pub returns : goal.returns
returns c = absorbing_a_heap_that_is_not_there_is_not
