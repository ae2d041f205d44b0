-- What is said of the functions of parts.
use Rattle.std.specs.Prelude.{◌≡◌, ◌<◌, ℕ, IsTrue, IsFalse}
use Rattle.std.specs.List.{list_any}
use Rattle.k_types.specs.declared.op.Op.{Op}
use Rattle.k_types.specs.declared.event.Event.{Event}
use Rattle.k_types.specs.Names.{heap_eq, among}
use Rattle.k_types.specs.Trace.{Trace, process_count}
use Rattle.k_types.specs.State.{State}
use Rattle.k_types.specs.Replies.{reply_to}
use Rattle.k_types.specs.Effects.{step}
use Rattle.k_types.specs.Cells.{Cell, CellPart, BookPart, part, book_part, touches}
use Rattle.k_types.specs.Steps.{IsPossible, in_range}
use Rattle.k_types.specs.Sound.{IsSound}
use Rattle.k_laws.specs.Same.{SameToEvent}
use Rattle.k_laws.specs.CellAfter.{cell_after}
use Rattle.k_laws.specs.BookAfter.{book_after}
use Rattle.k_laws.specs.Answers.{IsAnswered, reply_in}
use Rattle.k_laws.specs.Touches.{touched_in}

-- after the event each cell has the part that the parts before it give
abbrev pub CellsFollow : Trace → State → Event → Type 0
CellsFollow trace st event = (c : Cell) → part trace (step trace st event) c ≡ cell_after trace (book_part trace st) (part trace st) event c

-- after the event the book has the part that the parts before it give
abbrev pub BookFollows : Trace → State → Event → Type 0
BookFollows trace st event = book_part trace (step trace st event) ≡ book_after trace (book_part trace st) (part trace st) event

-- an operation of a living process that names what the trace declares is answered what the parts give
abbrev pub ReplyFollows : Trace → State → ℕ → Op → Type 0
ReplyFollows trace st p op =
    p < process_count trace → IsFalse (among p st.ended) → IsTrue (in_range trace op) →
    reply_to trace st p op ≡ reply_in trace (book_part trace st) (part trace st) p op

-- the cells that the event touches by the first parts have the same part in both
abbrev pub AgreeWhereTouched : Trace → BookPart → (Cell → CellPart) → (Cell → CellPart) → Event → Type 0
AgreeWhereTouched trace book parts others event = (c : Cell) → IsTrue (list_any (λ k. heap_eq k c) (touched_in trace book parts event)) → parts c ≡ others c

-- the functions of parts give the same of both: each touched cell's part after the event, and, where it is answered what the
-- parts give, the book's
pub record GiveTheSame (trace : Trace) (book : BookPart) (parts others : Cell → CellPart) (event : Event) : Type 0 where
  pub for_cells : (c : Cell) → IsTrue (list_any (λ k. heap_eq k c) (touched_in trace book parts event)) →
      cell_after trace book parts event c ≡ cell_after trace book others event c
  pub for_book : IsAnswered trace book parts event → book_after trace book parts event ≡ book_after trace book others event

-- the event is possible in the first of two sound states, and finds the same in the second
pub record FindsTheSame (trace : Trace) (st su : State) (event : Event) : Type 0 where
  pub sound : IsSound trace st
  pub sound_too : IsSound trace su
  pub possible : IsPossible trace st event
  pub same : SameToEvent trace st su event

-- the event leaves each cell that it touches the same part in both states
abbrev pub LeavesSameCells : Trace → State → State → Event → Type 0
LeavesSameCells trace st su event =
    (c : Cell) → IsTrue (touches trace st event c) → part trace (step trace st event) c ≡ part trace (step trace su event) c

-- the event leaves the book the same part in both states
abbrev pub LeavesSameBook : Trace → State → State → Event → Type 0
LeavesSameBook trace st su event = book_part trace (step trace st event) ≡ book_part trace (step trace su event)
