use Rattle.k_rows.proofs.ImpossibleEvents.{an_end_without_a_collection_is_not}
use Rattle.k_rows.proofs.impossible.an_end_without_a_collection_is_impossible.Goals as goal

pub returns : goal.returns
returns c = an_end_without_a_collection_is_not
