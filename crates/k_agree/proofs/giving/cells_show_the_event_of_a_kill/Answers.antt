use Rattle.k_agree.proofs.GivenInJournal.{killer_shows, killed_cell_shows, killed_kernel_shows}
use Rattle.k_agree.proofs.giving.cells_show_the_event_of_a_kill.Goals as goal

pub returns-clause-own : goal.returns-clause-own
returns-clause-own c = killer_shows

pub returns-clause-target : goal.returns-clause-target
returns-clause-target c = killed_cell_shows

pub returns-clause-kernel : goal.returns-clause-kernel
returns-clause-kernel c = killed_kernel_shows
