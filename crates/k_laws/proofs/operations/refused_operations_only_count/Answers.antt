use Rattle.k_laws.proofs.KeptLaws.{refused_operations_only_count}
use Rattle.k_laws.proofs.operations.refused_operations_only_count.Goals as goal

pub returns : goal.returns
returns c = refused_operations_only_count
