-- What an operation adds to the journal, and to what its process has not published.
use Rattle.std.specs.Prelude.{◌≡◌, ℕ, ◌++◌, List, [], ◌∷◌, Option, Some, None, if◌then◌else◌}
use Rattle.k_types.specs.declared.event.Event.{Event}
use Rattle.k_types.specs.declared.event.Event.TheVariants.{Done, Ended}
use Rattle.k_types.specs.declared.event.Reply.{Reply}
use Rattle.k_types.specs.declared.names.Heap.{Heap}
use Rattle.k_types.specs.declared.names.Pid.{Pid}
use Rattle.k_types.specs.declared.op.Op.{Op}
use Rattle.k_types.specs.FileOrder.{absorptions, heap_begun}
use Rattle.k_types.specs.Steps.{state_after, waits_for_orphans}
use Rattle.k_types.specs.Trace.{Trace}
use Rattle.k_process.specs.k_book.Books.{BookRecord}
use Rattle.k_process.specs.declared.process.Process.{Process}

-- what the journal has, and then what the process has not published
abbrev pub known_to : Process → BookRecord → List Event
known_to p b = b.journal.list ++ p.cell.value.tail

-- new is the operation's own event, with some reply
pub record AddsOne (pid : Pid) (op : Op) (old new : List Event) : Type 0 where
  pub said : Reply
  pub new_is : new ≡ old ++ Done pid op said ∷ []

-- new is the end of a collection of the heap, with some numbers
pub record AddsEnd (heap : Heap) (old new : List Event) : Type 0 where
  pub objects : ℕ
  pub bytes : ℕ
  pub exits : ℕ
  pub shares : ℕ
  pub new_is : new ≡ old ++ Ended heap objects bytes exits shares ∷ []

-- the events are the end of the heap's collection, if there is a heap
abbrev pub AreEnds : Option Heap → List Event → Type 0
AreEnds None events = events ≡ []
AreEnds (Some heap) events = AddsEnd heap [] events

-- the absorptions for which the operation waits
abbrev pub awaited : Trace → List Event → Op → List Event
awaited trace known op = if waits_for_orphans op then absorptions trace (state_after trace known) else []

-- new are the absorptions for which the operation waits, its own event, and the end of the collection that it begins
pub record AddsOperation (trace : Trace) (pid : Pid) (op : Op) (old new : List Event) : Type 0 where
  pub said : Reply
  pub ends : List Event
  pub are_ends : AreEnds (heap_begun pid.0 op) ends
  pub new_is : new ≡ old ++ (awaited trace old op ++ Done pid op said ∷ ends)
