use Rattle.std.proofs.Common.{Some}
use Rattle.k_run.specs.Opened.{world_in}
use Rattle.k_top.proofs.watched.watch_trace.Given as goal

abbrev pub ghosts-watch_still : goal.ghosts-watch_still
ghosts-watch_still g a = record { world = world_in a.still.cells; watched = Some a.watch.pen.cell }
