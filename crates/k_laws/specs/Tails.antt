-- A tail of local events, after a longer list of events than it was done after.
use Rattle.std.specs.Prelude.{◌≡◌, ℕ, IsFalse, List, ◌++◌}
use Rattle.k_types.specs.declared.event.Event.{Event}
use Rattle.k_types.specs.Names.{heap_eq}
use Rattle.k_types.specs.Trace.{Trace}
use Rattle.k_types.specs.Owners.{user}
use Rattle.k_types.specs.Cells.{Cell, part, book_part}
use Rattle.k_types.specs.Local.{AreLocal}
use Rattle.k_types.specs.Steps.{IsLegalHistory, state_after}

-- the process's tail, done after the events known, does the same after the rest too: it is legal and local there, leaves its
-- cell's part as after the events known, and the book's part and that of every other cell as they were
pub record TailFollows (trace : Trace) (p : ℕ) (known rest tail : List Event) : Type 0 where
  pub legal : IsLegalHistory trace ((known ++ rest) ++ tail)
  pub local : AreLocal trace p (state_after trace (known ++ rest)) tail
  pub cell : part trace (state_after trace ((known ++ rest) ++ tail)) (user p) ≡ part trace (state_after trace (known ++ tail)) (user p)
  pub book : book_part trace (state_after trace ((known ++ rest) ++ tail)) ≡ book_part trace (state_after trace (known ++ rest))
  pub others : (c : Cell) → IsFalse (heap_eq (user p) c) →
      part trace (state_after trace ((known ++ rest) ++ tail)) c ≡ part trace (state_after trace (known ++ rest)) c
