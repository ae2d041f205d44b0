use Rattle.k_locks.proofs.locked.LockedProcess.done_before_next.Given as goal

abbrev pub ghost-next : goal.ghost-next
ghost-next g a = g.W.WorldName.world
