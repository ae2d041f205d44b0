use Rattle.k_laws.proofs.Laws.{a_collection_reaches_within_its_heap}
use Rattle.k_laws.proofs.meaning.a_collection_reaches_within_its_heap.Goals as goal

pub returns : goal.returns
returns c = a_collection_reaches_within_its_heap
