use Rattle.std.proofs.Common.{Some, Option, sym, subst}
use Rattle.atomic_table.specs.Seated.{TableId}
use Rattle.k_locks.specs.k_watch.Shown.{IsShown}
use Rattle.k_locks.proofs.ShownOn.{first_shown}
use Rattle.k_opening.proofs.opening.open_watched.Goals as goal

pub open_with-requires-clause-shown : goal.open_with-requires-clause-shown
open_with-requires-clause-shown g c =
    subst (λ (w : Option TableId). IsShown w g.W.WorldName.world.trace c.args.still.cells.heaps.book.journal.list (Some c.args.pen)) (sym c.requires.watched)
    (first_shown g.W.WorldName.world.trace c.args.still.cells.heaps.book c.args.pen c.requires.stands.rest.book.stands c.requires.made)
