use Rattle.k_locks.proofs.locked.LockedProcess.next.Given as goal

abbrev pub ghost-next : goal.ghost-next
ghost-next g a = g.W.WorldName.world
