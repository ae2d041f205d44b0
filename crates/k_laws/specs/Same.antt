-- Two states in which an event finds the same.
use Rattle.std.specs.Prelude.{◌≡◌, IsTrue}
use Rattle.k_types.specs.declared.event.Event.{Event}
use Rattle.k_types.specs.Trace.{Trace}
use Rattle.k_types.specs.State.{State}
use Rattle.k_types.specs.Cells.{Cell, touches, part, book_part}

-- each cell that the event touches in the first state has the same part in both, and the book has the same part
pub record SameToEvent (trace : Trace) (st su : State) (event : Event) : Type 0 where
  pub cells : (c : Cell) → IsTrue (touches trace st event c) → part trace st c ≡ part trace su c
  pub book : book_part trace st ≡ book_part trace su
