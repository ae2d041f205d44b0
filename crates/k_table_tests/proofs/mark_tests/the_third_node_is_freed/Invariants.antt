use Rattle.k_table_tests.proofs.mark_tests.the_third_node_is_freed.Given as goal

abbrev pub ghosts-mark_on : goal.ghosts-mark_on
ghosts-mark_on g a = record { name = a.blank.name; parts = a.blank.parts }
