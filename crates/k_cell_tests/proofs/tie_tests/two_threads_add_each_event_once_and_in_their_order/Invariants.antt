use Rattle.k_cell_tests.proofs.tie_tests.two_threads_add_each_event_once_and_in_their_order.Given as goal

abbrev pub ghosts-add_to_a_table : goal.ghosts-add_to_a_table
ghosts-add_to_a_table g a = record { table = a.tie }
