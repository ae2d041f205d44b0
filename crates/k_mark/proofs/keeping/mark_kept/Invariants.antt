use Rattle.k_mark.proofs.keeping.mark_kept.Given as goal

abbrev pub ghosts-mark_kept_on : goal.ghosts-mark_kept_on
ghosts-mark_kept_on a = record { name = a.blank.name; parts = a.blank.parts }
