-- A run before its first event.
use Rattle.k_trace.specs.Named.{NamedTrace}
use Rattle.k_still.specs.Opening.{IsOpened}
use Rattle.k_outcome.specs.Listed.{AreRoomsFor}
use Rattle.k_opening.specs.declared.still.Still.{Still}

-- all cells and the book stand as before the first event of the trace, and there is room for what a report of any run of it lists
pub record IsOpenedStill (named : NamedTrace) (still : Still) : Type 0 where
  pub cells : IsOpened named still.cells
  pub rooms : AreRoomsFor named.trace still.rooms
