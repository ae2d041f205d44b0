use Rattle.k_mark.proofs.Changed.{swept_objects}
use Rattle.k_mark.proofs.Sums.{dead_counted, dead_weighed}
use Rattle.k_mark.proofs.changes.sweeping_leaves_the_marked_objects.Goals as goal

pub returns-clause-objects : goal.returns-clause-objects
returns-clause-objects c = swept_objects

pub returns-clause-dead : goal.returns-clause-dead
returns-clause-dead c = dead_counted

pub returns-clause-bytes : goal.returns-clause-bytes
returns-clause-bytes c = dead_weighed
