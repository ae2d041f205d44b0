use Rattle.k_top_tests.proofs.calling.Given.answer_gathered.Given as goal

abbrev pub ghosts-gathered_call : goal.ghosts-gathered_call
ghosts-gathered_call g a = record { name = a.out.ghost_name }
