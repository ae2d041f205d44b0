use Rattle.k_rows.proofs.ImpossibleEvents.{absorbing_a_shared_heap_in_use_is_not}
use Rattle.k_rows.proofs.impossible.absorbing_a_shared_heap_in_use_is_impossible.Goals as goal

pub returns : goal.returns
returns c = absorbing_a_shared_heap_in_use_is_not
