use Rattle.k_own.proofs.stepping.step_own.Given as goal

abbrev pub ghost-meet_heap : goal.ghost-meet_heap
ghost-meet_heap g a = g.trace

abbrev pub ghost-operate : goal.ghost-operate
ghost-operate g a = record { trace = g.trace; cell = a.cell.now; book = a.book.now }
