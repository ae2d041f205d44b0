use Rattle.std.proofs.Common.{refl}
use Rattle.k_laws.specs.k_types.Reach.{closure}
use Rattle.k_mark.proofs.third_node.third_node_is_freed.Goals as goal

pub returns-clause-reached : goal.returns-clause-reached
unfolding closure
returns-clause-reached c = refl
