use Rattle.k_mark.proofs.marking.mark_uncounted.Given as goal

abbrev pub ghosts-mark_on : goal.ghosts-mark_on
ghosts-mark_on a = record { name = a.blank.name; parts = a.blank.parts }
