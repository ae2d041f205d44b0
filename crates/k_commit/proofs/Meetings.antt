-- Conditions and answers over a meeting.
use Rattle.std.proofs.Common.{◌≡◌, ◌<◌, ◌^◌, ℕ, List, [], sym, subst}
use Rattle.k_types.specs.declared.event.Event.{Event}
use Rattle.k_types.specs.declared.names.TypeId.{TypeId}
use Rattle.k_types.specs.declared.op.Op.{Op}
use Rattle.k_types.specs.declared.op.Op.TheVariants.{New, KNew, SNew, Store}
use Rattle.k_types.specs.Agree.{CellValue}
use Rattle.k_types.specs.Cells.{Cell}
use Rattle.k_types.specs.Trace.{Trace}
use Rattle.k_tie.specs.Values.{NoteValue}
use Rattle.k_book.specs.k_agree.Meeting.{Fits}
use Rattle.k_book.proofs.Meetings.{meeting}
use Rattle.k_space.specs.Objects.{BodyValue}
use Rattle.k_book.specs.Books.{BookRecord}
use Rattle.k_heap.specs.Holdings.{HoldingsValue}
use Rattle.k_heap.specs.Heaps.{HeapRecord}
use Rattle.k_commit.specs.Beside.{HasSteppedWith}
use Rattle.k_commit.specs.Met.{CanMeet, FitsTheBook, HaveMet, HaveMetWith, HeapHasMet, OtherHasMet}
use Rattle.k_commit.specs.Others.{OtherValue}
use Rattle.k_commit.specs.Rooms.{HasRoomFor, HasRoomForNew, HasTableRoom}
use Rattle.k_commit.specs.Standing.{BookStands, HeapStands, OtherStands}
use Rattle.k_commit.specs.Stepped.{HasStepped}

-- a cell whose note fits the journal of the book
pub told_by : (trace : Trace) (cell : Cell) (note : NoteValue) (value : CellValue) (b : BookRecord) → CanMeet trace cell note value b → Fits b.journal note → b.event_room < 2 ^ 55 →
    FitsTheBook trace cell note value b
told_by trace cell note value b can fits few = record {
  fits = fits;
  shows = meeting trace b.journal b.value cell note value can.agrees can.book_agrees fits;
  few = few;
}

module _ (trace : Trace) (c cell : HeapRecord) (b book : BookRecord) (heap_met : HeapHasMet trace c cell b book) where
  pub heap_has_met : BookStands trace b → HeapStands trace c b → HaveMet (record { trace = trace; cell = cell; book = book })
  heap_has_met book_stands heap_stands =
      subst (λ (k : BookRecord). HaveMet (record { trace = trace; cell = cell; book = k })) (sym heap_met.book_is)
      (subst (λ (w : HeapRecord). HaveMet (record { trace = trace; cell = w; book = b })) (sym heap_met.cell_is)
      (record {
        book = book_stands;
        heap = record {
          agrees = heap_met.told.shows.agrees;
          table = heap_stands.table;
          settled = heap_stands.settled;
          idle = heap_stands.idle;
          lives = heap_stands.lives;
        };
        after = record { met = heap_met.told.shows.met; shows = heap_met.told.shows.shows heap_stands.settled };
        few = heap_met.told.few;
      }))

  -- the second cell, whose note is of the table still
  of_table : (note : NoteValue) → note.table ≡ b.journal.table → note.table ≡ book.journal.table
  of_table note is = subst (λ (k : BookRecord). note.table ≡ k.journal.table) (sym heap_met.book_is) is

  -- the other cell has met it too
  pub other_has_met : (o other : OtherValue) (last : BookRecord) → BookStands trace b → HeapStands trace c b → OtherStands trace o b → o.held.value.tail ≡ [] →
      OtherHasMet trace o other book last → HaveMetWith (record { own = record { trace = trace; cell = cell; book = last }; other = other })
  other_has_met o other last book_stands heap_stands stands settled met =
      subst (λ (l : BookRecord). HaveMetWith (record { own = record { trace = trace; cell = cell; book = l }; other = other })) (sym met.book_is)
      (subst (λ (x : OtherValue). HaveMetWith (record { own = record { trace = trace; cell = cell; book = book }; other = x })) (sym met.other_is)
      (record {
        own = heap_has_met book_stands heap_stands;
        other = record { agrees = met.told.shows.agrees; table = of_table o.held.note stands.table; segment = stands.segment; idle = stands.idle };
        settled = settled;
        after = record { met = met.told.shows.met; shows = met.told.shows.shows settled };
      }))

-- room does not depend on the note
module _ (trace : Trace) (bodies : List BodyValue) (heap : HoldingsValue) (note : NoteValue) (seg : ℕ) (b : BookRecord) where
  abbrev noted : HoldingsValue
  noted = record heap { note = note }

  new_noted : (ty : TypeId) → HasRoomForNew trace ty bodies heap seg → HasRoomForNew trace ty bodies noted seg
  new_noted ty room = record {
    body = room.body;
    serial = λ given there. let left = room.serial given there in record { given = left.given; room = left.room; there = left.there; can_give = left.can_give; left = left.left };
  }

  tables_noted : (op : Op) → HasTableRoom trace bodies heap seg b op → HasTableRoom trace bodies noted seg b op
  tables_noted (New r ty) room = new_noted ty room
  tables_noted (KNew r ty) room = new_noted ty room
  tables_noted (SNew r s ty) room = new_noted ty room
  tables_noted (Store base i value) room = record { exits = room.exits; entries = room.entries }
  tables_noted _ room = room

  pub room_noted : (op : Op) → HasRoomFor trace bodies heap seg b op → HasRoomFor trace bodies noted seg b op
  room_noted op room = record { events = room.events; tables = tables_noted op room.tables }

-- what was stepped from a cell with another note was stepped from it
from_note : (trace : Trace) (op : Op) (c w : HeapRecord) (note : NoteValue) (b l : BookRecord) (event : Event) →
    HasStepped trace op (record c { note = note }) w b l event → HasStepped trace op c w b l event
from_note trace op c w note b l event h = record {
  said = h.said;
  event_is = h.event_is;
  possible = h.possible;
  lawful = h.lawful;
  journal = h.journal;
  same_table = h.same_table;
  table = h.table;
  cell_is = h.cell_is;
  book_is = h.book_is;
  settled = h.settled;
  idle = h.idle;
  done = h.done;
  met = h.met;
  agrees = h.agrees;
  book_agrees = h.book_agrees;
}

module _ (trace : Trace) (op : Op) (c cell w : HeapRecord) (b book l : BookRecord) (event : Event) (heap_met : HeapHasMet trace c cell b book) where
  pub heap_stepped : HasStepped trace op cell w book l event → HasStepped trace op c w b l event
  heap_stepped h =
      from_note trace op c w _ b l event
      (subst (λ (x : HeapRecord). HasStepped trace op x w b l event) heap_met.cell_is
      (subst (λ (k : BookRecord). HasStepped trace op cell w k l event) heap_met.book_is h))

  pub other_stepped : (o other x : OtherValue) (last : BookRecord) → OtherHasMet trace o other book last →
      HasSteppedWith trace op cell w other x last l event → HasSteppedWith trace op c w o x b l event
  other_stepped o other x last met h = record {
    beside = record {
      own = heap_stepped (subst (λ (m : BookRecord). HasStepped trace op cell w m l event) met.book_is h.beside.own);
      others = h.beside.others;
    };
    fits = subst (λ (m : BookRecord). Fits m.journal o.held.note) heap_met.book_is met.told.fits;
    other_is = subst (λ (y : OtherValue). x ≡ record y { held = record y.held { note = x.held.note; value = x.held.value } }) met.other_is h.other_is;
  }
