use Rattle.k_laws.proofs.Laws.{collections_free_nothing_live}
use Rattle.k_laws.proofs.collections.collections_free_nothing_live.Goals as goal

pub returns : goal.returns
returns c = collections_free_nothing_live
