use Rattle.k_pair.proofs.attaching.attach.Given as goal

abbrev pub ghost-join : goal.ghost-join
ghost-join g a = g.S.StepName.before.own.trace

abbrev pub ghost-set_register : goal.ghost-set_register
ghost-set_register g a = g.S.StepName.before.own
