use Rattle.k_laws.proofs.BoundsLaws.{histories_count_by_process-stores, histories_count_by_process-operations, histories_count_by_process-allocations}
use Rattle.k_laws.proofs.processes.histories_count_by_process.Goals as goal

pub returns-clause-stores : goal.returns-clause-stores
returns-clause-stores c = histories_count_by_process-stores

pub returns-clause-operations : goal.returns-clause-operations
returns-clause-operations c = histories_count_by_process-operations

pub returns-clause-allocations : goal.returns-clause-allocations
returns-clause-allocations c = histories_count_by_process-allocations
