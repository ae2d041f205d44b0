use Rattle.k_rows.proofs.ReachedThroughThreeHeaps.{worked, live}
use Rattle.k_rows.proofs.liveness.reached_through_three_heaps_row.Goals as goal

pub returns-clause-worked : goal.returns-clause-worked
returns-clause-worked c = worked

pub returns-clause-live : goal.returns-clause-live
returns-clause-live c = live
