-- What one event more leaves of what the locks ask.
use Rattle.std.proofs.Common.{◌≡◌, ◌<◌, ◌+◌, ◌-◌, ◌^◌, ◌≤◌, ℕ, ◌++◌, refl, sym, ap, ap₂, ◌∙◌, subst, List, [], ◌∷◌, append-nil, drop, length, cond, eq-eqb, arith, ◌≢◌, true, false, Option, None, is_some, set}
use Rattle.std.proofs.lemmas.List.{get_or-set_other, length-append}
use Rattle.std.proofs.Math.Seq.{drop-append_seam}
use Rattle.atomic_table.specs.Seated.{TableId}
use Rattle.k_types.specs.declared.event.Event.{Event}
use Rattle.k_types.specs.declared.event.Event.TheVariants.{Done, Ended}
use Rattle.k_types.specs.declared.event.Reply.{Reply}
use Rattle.k_types.specs.declared.names.CellPhase.{CellPhase}
use Rattle.k_types.specs.declared.names.CellPhase.TheVariants.{Idle, Marked}
use Rattle.k_types.specs.declared.names.Heap.{Heap}
use Rattle.k_types.specs.declared.names.Heap.TheVariants.{User}
use Rattle.k_types.specs.declared.names.Pid.{Pid}
use Rattle.k_types.specs.declared.op.Op.{Op}
use Rattle.k_types.specs.Agree.{AreMarks, CellValue}
use Rattle.k_types.specs.Cells.{Cell}
use Rattle.k_types.specs.Following.{FollowsOwn, FollowsTrace, is_closing}
use Rattle.k_types.specs.State.{is_scanned, scan_of}
use Rattle.k_types.specs.Steps.{IsPossible, done_by, state_after}
use Rattle.k_types.specs.Trace.{Trace, operations_of, process_count}
use Rattle.k_laws.proofs.ByProcess.{follows_own}
use Rattle.k_laws.proofs.Dones.{done_count}
use Rattle.k_laws.proofs.KnownCounted.{all_ordered}
use Rattle.k_laws.specs.PartUpdates.{done_in}
use Rattle.k_laws.proofs.Histories.{done_append}
use Rattle.k_tie.specs.Values.{NoteValue}
use Rattle.k_agree.specs.Agreement.{Agrees}
use Rattle.k_agree.specs.Meeting.{Fits}
use Rattle.k_agree.specs.Rooms.{AreFirst, IsInTurn, IsNext, event_room, exit_room}
use Rattle.k_agree.proofs.AtTheEnd.{maxima_counted}
use Rattle.k_agree.proofs.Meetings.{meeting}
use Rattle.k_agree.proofs.WithinRooms.{fits_rooms, follows_after, room_after}
use Rattle.k_process.specs.Bodies.{bodies_of}
use Rattle.k_process.specs.k_book.Books.{BookRecord, pin_room_of}
use Rattle.k_process.specs.k_heap.Heaps.{HeapRecord}
use Rattle.k_process.specs.Standing.{BookStands}
use Rattle.k_collect.specs.Begun.{HasAppended}
use Rattle.k_process.specs.Keeping.{BookKeeps, CanGive, HasHeapRooms, HeapKeeps, operations_left}
use Rattle.k_process.proofs.CanDo.{done_of}
use Rattle.k_process.proofs.Kept.{drop_more}

module _ (trace : Trace) (b l : BookRecord) (event : Event) (k : BookStands trace b) (s : HasAppended trace b l event) where
  -- the book stands after any event
  pub stands_on : BookStands trace l
  stands_on = record {
    keeps = k.keeps;
    of_trace = record {
      rows = ap (λ (x : BookRecord). x.rows) s.book_is ∙ k.of_trace.rows;
      procs = ap (λ (x : BookRecord). x.procs) s.book_is ∙ k.of_trace.procs;
      ceiling = ap (λ (x : BookRecord). x.ceiling) s.book_is ∙ k.of_trace.ceiling;
      maxima = maxima_counted trace l.journal l.value s.agrees;
    };
    agrees = s.agrees;
    pins = subst (λ n. pin_room_of (process_count trace) ≤ n) (sym (ap (λ (x : BookRecord). x.pin_room) s.book_is)) k.pins;
  }

-- the book keeps what its lock asks after an event in turn that is not the closing
pub book_keeps_on : (trace : Trace) (tie : TableId) (b l : BookRecord) (event : Event) → BookKeeps trace tie b → HasAppended trace b l event → IsInTurn trace b.journal.list event → is_closing event ≡ false → BookKeeps trace tie l
book_keeps_on trace tie b l event k s turn goes_on = record {
  stands = stands_on trace b l event k.stands s;
  table = s.same_table ∙ k.table;
  follows = subst (FollowsTrace trace) (sym s.journal) (follows_after trace b.journal.list event k.follows turn goes_on);
  events = subst (λ n. event_room trace ≤ n) (sym (ap (λ (x : BookRecord). x.event_room) s.book_is)) k.events;
  kept = subst (λ n. event_room trace ≤ n) (sym (ap (λ (x : BookRecord). x.kept) s.book_is)) k.kept;
  entries = subst (λ n. exit_room trace ≤ n) (sym (ap (λ (x : BookRecord). x.entry_room) s.book_is)) k.entries;
}

module _ (trace : Trace) (tie : TableId) (c w : HeapRecord) (b l : BookRecord) (op : Op) (said : Reply) (rest : List Op) (h : HeapKeeps trace tie c) (k : BookKeeps trace tie b)
    (left : operations_left trace c ≡ op ∷ rest) (agrees : Agrees trace (User w.pid) w.note w.value) (same : w.pid ≡ c.pid) (list : w.note.list ≡ l.journal.list) (none : w.value.tail ≡ [])
    (journal : l.journal.list ≡ b.journal.list ++ Done c.pid op said ∷ []) (done : done_in w.value.process ≡ done_in c.value.process + 1) where
  done_before : length (done_by c.pid.0 b.journal.list) ≡ done_in c.value.process
  done_before =
      let after = done_of trace (User w.pid) w.note w.value agrees c.pid (ap (λ (p : Pid). User p) same) in
      let count = done_count trace c.pid.0 (w.note.list ++ w.value.tail) agrees.legal in
      let whole : w.note.list ++ w.value.tail ≡ b.journal.list ++ Done c.pid op said ∷ [] = ap₂ (λ xs ys. xs ++ ys) list none ∙ append-nil l.journal.list ∙ journal in
      let more : done_by c.pid.0 (w.note.list ++ w.value.tail) ≡ done_by c.pid.0 b.journal.list ++ op ∷ [] =
      ap (done_by c.pid.0) whole ∙ done_append c.pid.0 b.journal.list (Done c.pid op said ∷ []) ∙ ap (λ t. done_by c.pid.0 b.journal.list ++ cond t (op ∷ []) []) (eq-eqb c.pid.0 c.pid.0 refl) in
      let length_same = ap length more in
      let one = length-append (done_by c.pid.0 b.journal.list) (op ∷ []) in
      omega (arith, after, count, length_same, one, done)

  -- the operation that counts as done was the next one by the journal
  pub in_turn : IsNext trace c.pid.0 b.journal.list op
  in_turn =
      let front = k.follows.operations c.pid.0 h.agrees.there in
      let behind : front.0 ≡ op ∷ rest =
      sym (drop-append_seam (done_by c.pid.0 b.journal.list) front.0) ∙ ap (drop (length (done_by c.pid.0 b.journal.list))) front.1
      ∙ ap (λ n. drop n (operations_of trace c.pid.0)) done_before ∙ left in
      (rest, sym front.1 ∙ ap (λ r. done_by c.pid.0 b.journal.list ++ r) behind)

-- the other operations are left once one more counts as done
pub left_by_done : (trace : Trace) (c w : HeapRecord) (op : Op) (rest : List Op) → operations_left trace c ≡ op ∷ rest → w.pid ≡ c.pid → done_in w.value.process ≡ done_in c.value.process + 1 → operations_left trace w ≡ rest
left_by_done trace c w op rest left same done =
    ap₂ (λ n (p : Pid). drop n (operations_of trace p.0)) done same ∙ drop_more (done_in c.value.process) (operations_of trace c.pid.0) op rest left

-- a cell that has met the journal keeps what its lock asks
pub heap_keeps_by : (trace : Trace) (tie : TableId) (w : HeapRecord) (l : BookRecord) → BookKeeps trace tie l → Agrees trace (User w.pid) w.note w.value → w.note.table ≡ l.journal.table → w.value.collection ≡ Idle →
    w.note.list ≡ l.journal.list → w.value.tail ≡ [] → w.bodies ≡ bodies_of trace.types (operations_left trace w) → HasHeapRooms trace w → HeapKeeps trace tie w
heap_keeps_by trace tie w l k agrees table idle list none bodies rooms = record {
  rules = k.stands.keeps;
  agrees = agrees;
  table = table ∙ k.table;
  idle = idle;
  follows = subst (FollowsOwn trace w.pid.0) (sym (ap₂ (λ xs ys. xs ++ ys) list none ∙ append-nil l.journal.list))
      (follows_own trace w.pid.0 l.journal.list k.stands.agrees.legal (k.follows.operations w.pid.0 agrees.there));
  bodies = bodies;
  rooms = rooms;
}

-- a journal that has first operations of the trace has few events
pub journal_short : (trace : Trace) (b : BookRecord) → BookStands trace b → AreFirst trace b.journal.list → length b.journal.list < 2 ^ 32 - 1
journal_short trace b k first =
    let fits = fits_rooms trace b.journal.list k.keeps k.agrees.legal first in
    let events = fits.events in
    let all = all_ordered trace k.keeps.operations in
    let ordered = k.keeps.operations.room in
    let heaps = k.keeps.shared in
    omega (arith, events, all, ordered, heaps)

-- an event in turn has room, if it is possible
pub room_for : (trace : Trace) (b : BookRecord) (event : Event) → BookStands trace b → AreFirst trace b.journal.list → event_room trace ≤ b.event_room → IsPossible trace (state_after trace b.journal.list) event →
    IsInTurn trace b.journal.list event → length b.journal.list < b.event_room
room_for trace b event k first enough possible turn =
    let room = room_after trace b.journal.list event k.keeps k.agrees.legal first possible turn in
    let longer = length-append b.journal.list (event ∷ []) in
    let most = room.rooms.events in
    omega (arith, longer, enough, most)

-- so has the end of a collection that is open
pub room_for_end : (trace : Trace) (b : BookRecord) (heap : Heap) → BookStands trace b → AreFirst trace b.journal.list → event_room trace ≤ b.event_room → is_scanned (state_after trace b.journal.list).scans heap ≡ true →
    length b.journal.list < b.event_room
room_for_end trace b heap k first enough scans =
    room_for trace b (Ended heap _ _ _ _) k first enough (record { scanned = scans; objects_gone = refl; bytes_gone = refl; exits_gone = refl; shares_gone = refl }) tt

-- the collection of a cell that is marked is open once its note fits the journal
pub open_once_met : (trace : Trace) (b : BookRecord) (cell : Cell) (note : NoteValue) (v : CellValue) → BookStands trace b → Agrees trace cell note v → v.tail ≡ [] → v.collection ≡ Marked → Fits b.journal note →
    is_scanned (state_after trace b.journal.list).scans cell ≡ true
open_once_met trace b cell note v k a none phase fits =
    let shows = (meeting trace b.journal b.value cell note v a k.agrees fits).shows none in
    let marks = subst (λ (p : CellPhase). AreMarks p (scan_of (state_after trace b.journal.list).scans cell) v) phase shows.marks in
    ap is_some marks.1

-- what comes in another segment leaves the serials of the first
pub gives_else : (trace : Trace) (rooms : List (Option ℕ)) (seg : ℕ) (room : Option ℕ) → seg ≢ 0 → CanGive trace rooms 0 → CanGive trace (set rooms seg room) 0
gives_else trace rooms seg room other can = record { room = can.room; there = get_or-set_other rooms seg 0 room None (λ e. other (sym e)) ∙ can.there; enough = can.enough }
