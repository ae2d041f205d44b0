use Rattle.k_tie.proofs.journal.JournalSeat.append_all.Given as goal

abbrev pub ghosts-append_as : goal.ghosts-append_as
ghosts-append_as a = record { events = a.events.now }
