use Rattle.k_operate.proofs.collecting.do_collect.Given as goal

abbrev pub ghost-begin_collection : goal.ghost-begin_collection
ghost-begin_collection g a = g.world'

abbrev pub ghost-mark_collection : goal.ghost-mark_collection
ghost-mark_collection g a = g.world'

abbrev pub ghost-sweep_collection : goal.ghost-sweep_collection
ghost-sweep_collection g a = g.world'

abbrev pub ghost-end_collection : goal.ghost-end_collection
ghost-end_collection g a = g.world'
