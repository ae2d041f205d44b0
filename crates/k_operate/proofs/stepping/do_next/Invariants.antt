use Rattle.k_operate.proofs.stepping.do_next.Given as goal

abbrev pub ghost-do_inside : goal.ghost-do_inside
ghost-do_inside g a = g.world'

abbrev pub ghost-publish_all : goal.ghost-publish_all
ghost-publish_all g a = g.world'

abbrev pub ghost-do_collect : goal.ghost-do_collect
ghost-do_collect g a = g.world'

abbrev pub ghost-do_collect_kernel : goal.ghost-do_collect_kernel
ghost-do_collect_kernel g a = g.world'

abbrev pub ghost-do_exit : goal.ghost-do_exit
ghost-do_exit g a = g.world'

abbrev pub ghost-do_by_step : goal.ghost-do_by_step
ghost-do_by_step g a = g.world'
