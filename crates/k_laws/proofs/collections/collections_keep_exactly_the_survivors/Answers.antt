use Rattle.k_laws.proofs.Laws.{collections_keep_exactly_the_survivors}
use Rattle.k_laws.proofs.collections.collections_keep_exactly_the_survivors.Goals as goal

pub returns : goal.returns
returns c = collections_keep_exactly_the_survivors
