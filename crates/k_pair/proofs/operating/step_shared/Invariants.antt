use Rattle.k_commit.specs.Others.{of_shared}
use Rattle.k_pair.specs.Operating.{as_they_are}
use Rattle.k_pair.proofs.operating.step_shared.Given as goal

abbrev pub ghost-meet_heap : goal.ghost-meet_heap
ghost-meet_heap g a = g.trace

abbrev pub ghost-meet_shared : goal.ghost-meet_shared
ghost-meet_shared g a = g.trace

abbrev pub ghosts-operate_with_shared : goal.ghosts-operate_with_shared
ghosts-operate_with_shared g a = record { before = as_they_are g.trace a.cell.now (of_shared a.shared.now) a.book.now }
