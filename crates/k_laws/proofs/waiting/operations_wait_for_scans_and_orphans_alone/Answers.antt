use Rattle.k_laws.proofs.OrderLaws.{operations_wait_for_scans_and_orphans_alone}
use Rattle.k_laws.proofs.waiting.operations_wait_for_scans_and_orphans_alone.Goals as goal

pub returns : goal.returns
returns c = operations_wait_for_scans_and_orphans_alone
