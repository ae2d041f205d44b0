use Rattle.std.proofs.Common.{None}
use Rattle.k_run.specs.Opened.{world_in}
use Rattle.k_runs.proofs.unrun.end_of.Given as goal

abbrev pub ghosts-end_opened : goal.ghosts-end_opened
ghosts-end_opened g a = record { world = world_in a.still.cells; watched = None }
