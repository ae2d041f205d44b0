use Rattle.std.proofs.Common.{None, Option, sym, subst}
use Rattle.atomic_table.specs.Seated.{TableId}
use Rattle.k_locks.specs.k_watch.Shown.{IsShown}
use Rattle.k_opening.proofs.opening.open.Goals as goal

pub open_with-requires-clause-shown : goal.open_with-requires-clause-shown
open_with-requires-clause-shown g c = subst (λ (w : Option TableId). IsShown w g.W.WorldName.world.trace c.args.still.cells.heaps.book.journal.list None) (sym c.requires.alone) tt
