use Rattle.k_rows.proofs.ImpossibleEvents.{a_second_collection_of_a_heap_is_not}
use Rattle.k_rows.proofs.impossible.a_second_collection_of_a_heap_is_impossible.Goals as goal

pub returns : goal.returns
returns c = a_second_collection_of_a_heap_is_not
