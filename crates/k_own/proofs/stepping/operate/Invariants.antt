use Rattle.k_own.proofs.stepping.operate.Given as goal

abbrev pub ghost-new : goal.ghost-new
ghost-new g a = g.before

abbrev pub ghost-store : goal.ghost-store
ghost-store g a = g.before

abbrev pub ghost-load : goal.ghost-load
ghost-load g a = g.before

abbrev pub ghost-move_reference : goal.ghost-move_reference
ghost-move_reference g a = g.before

abbrev pub ghost-clear : goal.ghost-clear
ghost-clear g a = g.before

abbrev pub ghost-dir : goal.ghost-dir
ghost-dir g a = g.before

abbrev pub ghost-refuse : goal.ghost-refuse
ghost-refuse g a = g.before

abbrev pub ghost-spare : goal.ghost-spare
ghost-spare g a = g.before

abbrev pub ghost-resize : goal.ghost-resize
ghost-resize g a = g.before
