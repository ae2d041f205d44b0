use Rattle.std.specs.Prelude.{Some}
use Rattle.k_parts.specs.Splitting.{home_of}
use Rattle.four_guests.proofs.driving.driven.Given as goal

abbrev pub ghosts-drive : goal.ghosts-drive
ghosts-drive g a = record { home = Some (home_of a.host 1) }
