use Rattle.k_commit.specs.Others.{of_kernel}
use Rattle.k_pair.specs.Operating.{as_they_are}
use Rattle.k_pair.proofs.operating.step_kernel.Given as goal

abbrev pub ghost-meet_heap : goal.ghost-meet_heap
ghost-meet_heap g a = g.trace

abbrev pub ghost-meet_kernel : goal.ghost-meet_kernel
ghost-meet_kernel g a = g.trace

abbrev pub ghosts-operate_with_kernel : goal.ghosts-operate_with_kernel
ghosts-operate_with_kernel g a = record { before = as_they_are g.trace a.cell.now (of_kernel a.kernel.now) a.book.now }
