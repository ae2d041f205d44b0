use Rattle.k_text_tests.proofs.gather_tests.hand_on_twice.Given as goal

abbrev pub ghosts-hand_on_twice_named : goal.ghosts-hand_on_twice_named
ghosts-hand_on_twice_named g a = record { name = a.out.ghost_name }
