-- What holds over a trace, held over its setup.
use Rattle.std.proofs.Common.{◌≡◌, ℕ, ◌^◌, ◌<◌, ◌≤◌, get_or, replicate, refl, sym, ap, ◌∙◌, subst, List, [], length, Some, slice_get, arith}
use Rattle.k_types.specs.declared.event.Event.{Event}
use Rattle.k_types.specs.declared.names.Heap.{Heap}
use Rattle.k_types.specs.declared.names.Heap.TheVariants.{Kernel, Shared, User}
use Rattle.k_types.specs.declared.names.Pid.{Pid}
use Rattle.k_types.specs.declared.names.SharedId.{SharedId}
use Rattle.k_types.specs.Agree.{BookValue, CellValue}
use Rattle.k_types.specs.Cells.{book_part, part}
use Rattle.k_types.specs.State.{State, opening, ExitItem}
use Rattle.k_types.specs.Steps.{IsLegalHistory, state_after}
use Rattle.k_types.specs.Trace.{IsHeap, Trace, segment_count}
use Rattle.k_types.specs.TraceRules.{KeepsRules}
use Rattle.k_types.specs.Names.{heap_eq}
use Rattle.k_laws.specs.Counts.{exit_count}
use Rattle.k_laws.proofs.Counting.{count_low}
use Rattle.k_laws.proofs.SoundSteps.{legal_sound}
use Rattle.k_laws.proofs.KnownCounted.{all_ordered}
use Rattle.k_laws.proofs.KnownLaws.{events_are_known}
use Rattle.k_agree.specs.Agreement.{BookShows, Shows}
use Rattle.k_agree.specs.Rooms.{AreFirst}
use Rattle.k_agree.proofs.WithinRooms.{fits_rooms}
use Rattle.k_heap.specs.Heaps.{HeapRecord}
use Rattle.k_shared.specs.SharedHeaps.{SharedRecord}
use Rattle.k_process.proofs.CanDo.{exits_many}
use Rattle.k_process.proofs.RoomLeft.{shared_room}
use Rattle.k_trace.specs.Named.{DeclaredNames}
use Rattle.k_text.specs.Report.{report_text, text_over}
use Rattle.k_text.proofs.Setups.{setup_alone}
use Rattle.k_laws.specs.Setups.{setup_of}
use Rattle.k_text.specs.Heaps.{heap_at}
use Rattle.k_laws.proofs.SetupLines.{setup_rules}
use Rattle.k_laws.proofs.Unread.{legal_unread, run_unread}
use Rattle.k_process.specs.Over.{OutcomeValue}
use Rattle.k_outcome.specs.Cells.{IsThere, cell_at, process_value, shared_value}
use Rattle.k_outcome.specs.Ends.{EndsRun, IsEnd}
use Rattle.k_outcome.specs.Listed.{AreRoomsFor, CanCount, HaveRoom, most_exits}
use Rattle.k_outcome.proofs.Places.{begins_heap, begun_by}

-- the state after a history goes by the setup alone
pub same_state : (trace : Trace) (history : List Event) → state_after trace history ≡ state_after (setup_of trace) history
same_state trace history = run_unread trace (opening trace) history

-- what is shown over the setup has the report of the trace
pub report_over_setup : (names : DeclaredNames) (trace : Trace) (history : List Event) →
    text_over names (setup_of trace) history (state_after (setup_of trace) history) ≡ report_text names trace history
report_over_setup names trace history =
    setup_alone names trace [] [] history (state_after (setup_of trace) history) ∙ ap (text_over names trace history) (sym (same_state trace history))

shows_unread : (trace : Trace) (st : State) (h : Heap) (value : CellValue) → Shows trace st h value → Shows (setup_of trace) st h value
unfolding part
shows_unread trace st h value s = record { part = s.part; marks = s.marks }

book_unread : (trace : Trace) (st : State) (value : BookValue) → BookShows trace st value → BookShows (setup_of trace) st value
unfolding book_part
book_unread trace st value s = record { part = s.part; homes = s.homes }

-- a journal with the first operations of the trace is not long
not_long : (trace : Trace) (history : List Event) → KeepsRules trace → IsLegalHistory trace history → AreFirst trace history → length history < 2 ^ 31
not_long trace history rules legal first =
    omega (arith, (fits_rooms trace history rules legal first).events, all_ordered trace rules.operations, rules.operations.room, rules.shared)

-- of a run that is over all events can be read
all_kept : (trace setup : Trace) (o : OutcomeValue) → EndsRun trace setup o → length o.book.journal.list ≤ o.book.kept
all_kept trace setup o r =
    let fits = (fits_rooms trace o.book.journal.list r.rules r.outcome.legal r.outcome.complete.in_order).events in
    let kept = r.kept in
    omega (arith, fits, kept)

module _ (trace : Trace) (o : OutcomeValue) (r : EndsRun trace (setup_of trace) o) where
  abbrev history : List Event
  history = o.book.journal.list

  abbrev last : State
  last = state_after (setup_of trace) history

  there : (h : Heap) → IsHeap (setup_of trace) h → IsThere o h
  there Kernel known = tt
  there (User p) known = subst (λ n. p.0 < n) (sym r.processes) known
  there (Shared s) known = subst (λ n. s.0 < n) (sym r.shared) known

  at_setup : (h : Heap) (value : CellValue) → Shows trace (state_after trace history) h value → Shows (setup_of trace) last h value
  at_setup h value shows = shows_unread trace last h value (subst (λ (st : State). Shows trace st h value) (same_state trace history) shows)

  process_shows : (p : Pid) (c : HeapRecord) → slice_get o.processes p.0 ≡ Some c → c.pid.0 ≡ p.0 → Shows trace (state_after trace history) (User c.pid) c.value → Shows (setup_of trace) last (User p) (cell_at o (User p))
  process_shows p c at placed shows =
      let same : c.pid ≡ p = ap (λ n. record { 0 = n }) placed in
      subst (λ (v : CellValue). Shows (setup_of trace) last (User p) v) (sym (ap process_value at))
      (at_setup (User p) c.value (subst (λ (q : Pid). Shows trace (state_after trace history) (User q) c.value) same shows))

  heap_shows : (s : SharedId) (c : SharedRecord) → slice_get o.shared s.0 ≡ Some c → c.id.0 ≡ s.0 → Shows trace (state_after trace history) (Shared c.id) c.value → Shows (setup_of trace) last (Shared s) (cell_at o (Shared s))
  heap_shows s c at placed shows =
      let same : c.id ≡ s = ap (λ n. record { 0 = n }) placed in
      subst (λ (v : CellValue). Shows (setup_of trace) last (Shared s) v) (sym (ap shared_value at))
      (at_setup (Shared s) c.value (subst (λ (q : SharedId). Shows trace (state_after trace history) (Shared q) c.value) same shows))

  shown : (h : Heap) → IsHeap (setup_of trace) h → Shows (setup_of trace) last h (cell_at o h)
  shown Kernel known = at_setup Kernel o.kernel.value r.outcome.kernel
  shown (User p) known = let there = r.outcome.processes p.0 known in process_shows p there.0 there.1 there.2 there.3
  shown (Shared s) known = let there = r.outcome.shared s.0 known in heap_shows s there.0 there.1 there.2 there.3

  pub is_end_of_setup : (names : DeclaredNames) → IsEnd (record { names = names; setup = setup_of trace; cells = o })
  is_end_of_setup names = record {
    rules = setup_rules trace r.rules;
    legal = legal_unread trace (opening trace) history r.outcome.legal;
    few = not_long trace history r.rules r.outcome.legal r.outcome.complete.in_order;
    kept = all_kept trace (setup_of trace) o r;
    there = there;
    shows = shown;
    book = book_unread trace last o.book.value (subst (λ (st : State). BookShows trace st o.book.value) (same_state trace history) r.outcome.book);
    of_setup = record { rows = r.of_trace.rows; procs = r.of_trace.procs; ceiling = r.of_trace.ceiling; maxima = r.of_trace.maxima };
  }

  -- a heap has at most the exit items that it can come to have
  exits_few : (h : Heap) → IsHeap trace h → exit_count (state_after trace history).exits h ≤ most_exits trace h
  exits_few Kernel known =
      omega (arith, count_low (λ (x : ExitItem). heap_eq x.heap Kernel) (state_after trace history).exits, (fits_rooms trace history r.rules r.outcome.legal r.outcome.complete.in_order).exits)
  exits_few (User p) known = (fits_rooms trace history r.rules r.outcome.legal r.outcome.complete.in_order).own_exits p.0 known
  exits_few (Shared s) known = omega (arith, shared_room trace history s.0 r.rules.limits r.outcome.legal r.outcome.complete.in_order)

  pub rooms_of_setup : (rooms : List ℕ) → AreRoomsFor trace rooms → HaveRoom (setup_of trace) o rooms
  rooms_of_setup rooms have = record {
    sized = have.sized;
    each = λ seg known distinct.
        let h = heap_at (setup_of trace) seg in
        let is : IsHeap trace h = begins_heap (setup_of trace) seg known in
        let sound = legal_sound (setup_of trace) history (setup_rules trace r.rules).limits (legal_unread trace (opening trace) history r.outcome.legal) in
        let many = exits_many (setup_of trace) last h (cell_at o h) sound (shown h is) distinct in
        let same = ap (λ (st : State). exit_count st.exits h) (same_state trace history) in
        let enough = have.each h is in
        omega (arith, many, same, exits_few h is, enough, ap (λ (k : ℕ). get_or rooms k 0) (begun_by (setup_of trace) seg known));
  }

-- rooms for a trace are enough at the end of its run
pub rooms_enough : (trace setup : Trace) (o : OutcomeValue) (rooms : List ℕ) → EndsRun trace setup o → AreRoomsFor trace rooms → HaveRoom setup o rooms
rooms_enough trace setup o rooms r have =
    subst (λ (s : Trace). HaveRoom s o rooms) (sym r.same_setup)
    (rooms_of_setup trace o (record { rules = r.rules; same_setup = refl; outcome = r.outcome; of_trace = r.of_trace; kept = r.kept; processes = r.processes; shared = r.shared }) rooms have)

-- the events of the run can be counted over its trace
pub counts : (trace setup : Trace) (o : OutcomeValue) (made : List ℕ) → EndsRun trace setup o → made ≡ replicate (segment_count trace) 0 → CanCount trace made o.book.journal.list o.book.kept
counts trace setup o made r zeros = record {
  legal = r.outcome.legal;
  known = events_are_known trace o.book.journal.list r.rules.limits r.outcome.legal;
  zeros = zeros;
  few = not_long trace o.book.journal.list r.rules r.outcome.legal r.outcome.complete.in_order;
  all = all_kept trace setup o r;
}

-- a run that is over has an end
pub is_end : (names : DeclaredNames) (trace setup : Trace) (o : OutcomeValue) → EndsRun trace setup o → IsEnd (record { names = names; setup = setup; cells = o })
is_end names trace setup o r =
    subst (λ (s : Trace). IsEnd (record { names = names; setup = s; cells = o })) (sym r.same_setup)
    (is_end_of_setup trace o (record { rules = r.rules; same_setup = refl; outcome = r.outcome; of_trace = r.of_trace; kept = r.kept; processes = r.processes; shared = r.shared }) names)
