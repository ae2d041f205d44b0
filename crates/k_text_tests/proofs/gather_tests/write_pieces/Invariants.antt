use Rattle.k_text_tests.proofs.gather_tests.write_pieces.Given as goal

abbrev pub ghosts-write_named : goal.ghosts-write_named
ghosts-write_named g a = record { name = a.out.ghost_name }
