-- What a step has changed when it commits.
use Rattle.std.specs.Prelude.{◌≡◌, ◌<◌, ℕ, IsFalse, IsTrue, List, Option, Some, [], drop}
use Rattle.k_types.specs.declared.event.Reply.{Reply}
use Rattle.k_types.specs.declared.names.CellPhase.TheVariants.{Idle}
use Rattle.k_types.specs.declared.names.Name.{Name}
use Rattle.k_types.specs.declared.op.Op.{Op}
use Rattle.k_types.specs.declared.op.Op.TheVariants.{New, KNew, SNew, Store, Load, Move, Clear, Dir, Put, Get, Collect, KCollect, Share, Freeze, Attach, Exit, Kill, Resize}
use Rattle.k_types.specs.Agree.{book_shown_by}
use Rattle.k_types.specs.Steps.{in_range, waits_for_orphans}
use Rattle.k_types.specs.Trace.{segment_count}
use Rattle.k_space.specs.Objects.{BodyValue}
use Rattle.k_book.specs.Books.{BookRecord}
use Rattle.k_book.specs.k_laws.BookChanges.{owner_in, with_pin_moved}
use Rattle.k_laws.specs.PartUpdates.{held_in, with_done}
use Rattle.k_heap.specs.Heaps.{HeapRecord, with_register_in}
use Rattle.k_agree.specs.Moves.{GivesAlone, GivesBoth, KeepsOwners}
use Rattle.k_agree.specs.Shown.{idle_part}
use Rattle.k_commit.specs.Met.{Before, BeforeWith, HaveMet, HaveMetWith}
use Rattle.k_commit.specs.Others.{OtherValue, with_value}
use Rattle.k_commit.specs.Rooms.{HasEventRoom}

-- the bodies that are left after the operation: each allocation, refused or not, takes one
abbrev pub bodies_after : Op → List BodyValue → List BodyValue
bodies_after (New r ty) bodies = drop 1 bodies
bodies_after (KNew r ty) bodies = drop 1 bodies
bodies_after (SNew r s ty) bodies = drop 1 bodies
bodies_after (Store base i value) bodies = bodies
bodies_after (Load r base i) bodies = bodies
bodies_after (Move r from) bodies = bodies
bodies_after (Clear r) bodies = bodies
bodies_after (Dir r) bodies = bodies
bodies_after (Put base i number) bodies = bodies
bodies_after (Get base i) bodies = bodies
bodies_after Collect bodies = bodies
bodies_after KCollect bodies = bodies
bodies_after (Share s) bodies = bodies
bodies_after (Freeze s root) bodies = bodies
bodies_after (Attach r s) bodies = bodies
bodies_after Exit bodies = bodies
bodies_after (Kill q) bodies = bodies
bodies_after (Resize m max) bodies = bodies

-- the operation may be the next event: it names what the trace declares, waits for no orphan, and the journal has room
pub record MayCommit (before : Before) (op : Op) : Type 0 where
  pub in_range : IsTrue (in_range before.trace op)
  pub waits : IsFalse (waits_for_orphans op)
  pub room : HasEventRoom before.book

-- of the process's cell the value and the bodies have changed, and of the book the value. Nothing is unpublished, no collection is
-- open, and who owns the segments is as before
pub record ChangesValues (before : Before) (cell : HeapRecord) (book : BookRecord) (op : Op) : Type 0 where
  pub cell_is : cell ≡ record before.cell { value = cell.value; bodies = bodies_after op before.cell.bodies }
  pub book_is : book ≡ record before.book { value = book.value }
  pub settled : cell.value.tail ≡ []
  pub idle : cell.value.collection ≡ Idle
  pub owners : KeepsOwners before.trace before.book.value book.value

-- cell and book had met, and have changed as the operation in the own cell asks, but for the count of operations done
pub record HasChanged (before : Before) (cell : HeapRecord) (book : BookRecord) (op : Op) (said : Reply) : Type 0 where
  pub have_met : HaveMet before
  pub may : MayCommit before op
  pub values : ChangesValues before cell book op
  pub gives : GivesAlone before.trace before.cell.pid op said (idle_part before.cell.value) (with_done (idle_part cell.value))
      (book_shown_by before.book.value) (book_shown_by book.value)

-- the same for an operation that touches one more cell, of which the value has changed
pub record HasChangedWith (before : BeforeWith) (cell : HeapRecord) (other : OtherValue) (book : BookRecord) (op : Op) (said : Reply) : Type 0 where
  pub have_met : HaveMetWith before
  pub may : MayCommit before.own op
  pub values : ChangesValues before.own cell book op
  pub other_is : other ≡ with_value other.held.value before.other
  pub other_settled : other.held.value.tail ≡ []
  pub other_idle : other.held.value.collection ≡ Idle
  pub gives : GivesBoth before.own.trace before.own.cell.pid op said before.other.cell (idle_part before.own.cell.value) (with_done (idle_part cell.value))
      (idle_part before.other.held.value) (idle_part other.held.value) (book_shown_by before.own.book.value) (book_shown_by book.value)

-- cell and book had met; the process, its registers, the pins, the room for pins and the owners are as they were then; and the value is null or
-- lies in a segment of the trace
pub record CanSetRegister (before : Before) (cell : HeapRecord) (book : BookRecord) (r : ℕ) (value : Option Name) : Type 0 where
  pub have_met : HaveMet before
  pub pid : cell.pid ≡ before.cell.pid
  pub process : cell.value.process ≡ before.cell.value.process
  pub pins : book.value.pins ≡ before.book.value.pins
  pub pin_room : book.pin_room ≡ before.book.pin_room
  pub owners : KeepsOwners before.trace before.book.value book.value
  pub register : r < 16
  pub there : (n : Name) → value ≡ Some n → n.seg.0 < segment_count before.trace

-- the register holds the value, and the pin of what it held is let go for that of the value
pub record HasSetRegister (before : Before) (old_cell cell : HeapRecord) (old_book book : BookRecord) (r : ℕ) (value : Option Name) : Type 0 where
  pub cell_is : cell ≡ record old_cell { value = with_register_in r value old_cell.value }
  pub book_is : book ≡ record old_book { value = record old_book.value { pins = book.value.pins } }
  pub moved : book_shown_by book.value
      ≡ with_pin_moved (owner_in before.trace (book_shown_by before.book.value)) before.cell.pid.0 (held_in before.cell.value.process r) value (book_shown_by old_book.value)
