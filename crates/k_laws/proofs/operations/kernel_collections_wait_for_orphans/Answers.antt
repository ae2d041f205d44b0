use Rattle.k_laws.proofs.KeptLaws.{kernel_collections_wait_for_orphans-operation, kernel_collections_wait_for_orphans-closing}
use Rattle.k_laws.proofs.operations.kernel_collections_wait_for_orphans.Goals as goal

pub returns-clause-operation : goal.returns-clause-operation
returns-clause-operation c = kernel_collections_wait_for_orphans-operation

pub returns-clause-closing : goal.returns-clause-closing
returns-clause-closing c = kernel_collections_wait_for_orphans-closing
