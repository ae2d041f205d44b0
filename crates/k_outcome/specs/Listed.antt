-- What is listed beside the cells, once a run is over.
use Rattle.std.specs.Prelude.{◌≡◌, ℕ, ◌<◌, ◌≤◌, ◌+◌, ◌^◌, IsFalse, IsTrue, List, [], length, Option, Some, None, map, replicate, slice_get, slice_index_or, slice_set, vec_capacity}
use Rattle.std.specs.Global.{Vec}
use Rattle.std.specs.List.{AllByRecursion}
use Rattle.k_types.specs.declared.event.Event.{Event}
use Rattle.k_types.specs.declared.event.Event.TheVariants.{Absorbed, Closing, Done, Ended}
use Rattle.k_types.specs.declared.event.Reply.{Reply}
use Rattle.k_types.specs.declared.event.Reply.TheVariants.{Done as DoneReply, Loaded, Made, Refused, Value}
use Rattle.k_types.specs.declared.names.Heap.{Heap}
use Rattle.k_types.specs.declared.names.Heap.TheVariants.{Kernel, Shared, User}
use Rattle.k_types.specs.declared.names.Name.{Name}
use Rattle.k_types.specs.Known.{IsKnownEvent}
use Rattle.k_types.specs.State.{Object, has}
use Rattle.k_types.specs.Steps.{IsLegalHistory}
use Rattle.k_types.specs.Trace.{IsHeap, Trace, operations_of, segment_count, segment_of}
use Rattle.k_types.specs.Distinct.{AreDistinctNames}
use Rattle.k_laws.specs.Counts.{stores_in}
use Rattle.k_agree.specs.Rooms.{exit_room}
use Rattle.k_process.specs.Rooms.{shared_exit_room}
use Rattle.k_text.specs.Shown.{in_order}
use Rattle.k_process.specs.Over.{OutcomeValue}
use Rattle.k_text.specs.Heaps.{heap_at}
use Rattle.k_outcome.specs.Cells.{IsThere, cell_at}
use Rattle.k_outcome.specs.Ends.{EndValue, EndsRun, IsEnd, last_state}

-- the object that the reply says was made
abbrev pub made_in_reply : Reply → Option Name
made_in_reply DoneReply = None
made_in_reply (Made n) = Some n
made_in_reply (Loaded r) = None
made_in_reply (Value number) = None
made_in_reply (Refused fault) = None

-- the object that the event says was made
abbrev pub made_by : Event → Option Name
made_by (Done pid op said) = made_in_reply said
made_by (Ended h objects bytes exits shares) = None
made_by (Absorbed s) = None
made_by Closing = None

-- the serials given, with one more in the segment of the object
abbrev pub with_given : Option Name → List ℕ → List ℕ
with_given None made = made
with_given (Some n) made = slice_set made n.seg.0 (slice_index_or made n.seg.0 0 + 1)

-- the journal is a legal history of the trace that is not long, so many of its last events can be read, which are all, and there is a
-- zero for each segment
pub record CanCount (trace : Trace) (made : List ℕ) (journal : List Event) (kept : ℕ) : Type 0 where
  pub legal : IsLegalHistory trace journal
  pub known : AllByRecursion (IsKnownEvent trace) journal
  pub zeros : made ≡ replicate (segment_count trace) 0
  pub few : length journal < 2 ^ 31
  pub all : length journal ≤ kept

-- how many exit items the heap can come to have in a run of the trace
abbrev pub most_exits : Trace → Heap → ℕ
most_exits trace Kernel = exit_room trace
most_exits trace (User p) = stores_in (operations_of trace p.0)
most_exits trace (Shared s) = shared_exit_room trace s.0

-- there is a row for each segment, and the row of each heap has room for all exit items that it can come to have
pub record AreRoomsFor (trace : Trace) (rooms : List ℕ) : Type 0 where
  pub sized : length rooms ≡ segment_count trace
  pub each : (h : Heap) → IsHeap trace h → most_exits trace h ≤ slice_index_or rooms (segment_of trace h) 0

-- the run of the trace is over, and there is room for the exit items of its heaps
pub record CanEnd (trace : Trace) (setup : Trace) (o : OutcomeValue) (rooms : List ℕ) : Type 0 where
  pub over : EndsRun trace setup o
  pub room : AreRoomsFor trace rooms

-- there is a row for each segment, and where no exit item of the heap that begins with it stands twice, room for their targets
pub record HaveRoom (setup : Trace) (o : OutcomeValue) (rooms : List ℕ) : Type 0 where
  pub sized : length rooms ≡ segment_count setup
  pub each : (seg : ℕ) → seg < segment_count setup → AreDistinctNames (cell_at o (heap_at setup seg)).exits →
      length (cell_at o (heap_at setup seg)).exits ≤ slice_index_or rooms seg 0

-- nothing stands in any row
abbrev pub AreEmpty : List (Vec Name) → Type 0
AreEmpty rows = (k : ℕ) (row : Vec Name) → slice_get rows k ≡ Some row → row.items ≡ []

-- the segments are few, and each heap of the setup has a cell, and an empty row with room for the targets of its exit items
pub record CanList (setup : Trace) (o : OutcomeValue) (rows : List (Vec Name)) : Type 0 where
  pub few : segment_count setup ≤ 129
  pub there : (h : Heap) → IsHeap setup h → IsThere o h
  pub empty : AreEmpty rows
  pub room : HaveRoom setup o (map (λ row. vec_capacity row) rows)

-- the targets of the exit items of each heap in order, by the segments with which the heaps begin
pub record AreTargets (setup : Trace) (o : OutcomeValue) (targets : List (List Name)) : Type 0 where
  pub sized : length targets ≡ segment_count setup
  pub each : (seg : ℕ) → seg < segment_count setup → slice_index_or targets seg [] ≡ in_order (cell_at o (heap_at setup seg)).exits

-- the run is over; the serials that each segment has given, and the targets of the exit items, are those of the state and the cells
pub record IsListed (e : EndValue) (made : List ℕ) (targets : List (List Name)) : Type 0 where
  pub end : IsEnd e
  pub given : made ≡ (last_state e).made
  pub ordered : AreTargets e.setup e.cells targets

-- the object of that serial in the segment
abbrev pub name_at : ℕ → ℕ → Name
name_at seg serial = record { seg = record { 0 = seg }; serial = record { 0 = serial } }

-- where a walk over the objects begins that go on after that name, or with the first of all
abbrev pub start_of : Option Name → Name
start_of None = name_at 0 0
start_of (Some n) = n

-- no object of the segment has a serial above that one and up to this one
abbrev pub HasNoneBetween : List Object → ℕ → ℕ → ℕ → Type 0
HasNoneBetween objects seg after last =
    (serial : ℕ) → after < serial → serial ≤ last → IsFalse (has objects (name_at seg serial))

-- no object of the segment has a serial above that one
abbrev pub HasNoneAfter : List Object → ℕ → ℕ → Type 0
HasNoneAfter objects seg after = (serial : ℕ) → after < serial → IsFalse (has objects (name_at seg serial))

-- the object is the first of the segment with a serial above that one
pub record IsNextIn (objects : List Object) (seg after : ℕ) (n : Name) : Type 0 where
  pub there : IsTrue (has objects n)
  pub same_seg : n.seg.0 ≡ seg
  pub later : after < n.serial.0
  pub first : (serial : ℕ) → after < serial → serial < n.serial.0 → IsFalse (has objects (name_at seg serial))
