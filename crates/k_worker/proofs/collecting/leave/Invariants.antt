use Rattle.k_worker.proofs.collecting.leave.Given as goal

abbrev pub ghost-absorb_orphan : goal.ghost-absorb_orphan
ghost-absorb_orphan g a = g.W.WorldName.world

abbrev pub ghost-show : goal.ghost-show
ghost-show g a = record { trace = g.W.WorldName.world.trace; watched = g.W.WorldName.watched }
