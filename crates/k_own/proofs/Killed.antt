-- The end of a process by another: what it asks of the pieces, and what it leaves once the event is appended.
use Rattle.std.proofs.Common.{◌≡◌, ◌-◌, ◌^◌, ◌<◌, not, Bool, true, false, cond, refl, sym, ap, ◌∙◌, subst, List, [], ◌∷◌, length, get_or, set, Some, None, IsFalse, IsTrue, ne_eqb}
use Rattle.std.specs.List.{list_all}
use Rattle.std.proofs.lemmas.Bool.{and_from, and_parts, lt-ltb, not-true}
use Rattle.k_types.specs.declared.event.Event.{Event}
use Rattle.k_types.specs.declared.event.Fault.TheVariants.{ProcNotBelow}
use Rattle.k_types.specs.declared.event.Reply.TheVariants.{Done as DoneReply}
use Rattle.k_types.specs.declared.names.Heap.TheVariants.{Kernel, User}
use Rattle.k_types.specs.declared.names.Pid.{Pid}
use Rattle.k_types.specs.declared.op.Op.{Op}
use Rattle.k_types.specs.declared.op.Op.TheVariants.{Kill}
use Rattle.k_types.specs.Agree.{CellValue, book_shown_by}
use Rattle.k_types.specs.Cells.{BookPart, ProcessPart, ShownPart, cells_touched, other_cells, part}
use Rattle.k_types.specs.Effects.{after_end_of}
use Rattle.k_types.specs.Limits.{is_above}
use Rattle.k_types.specs.Names.{among, heap_eq}
use Rattle.k_types.specs.Replies.{answer, ends_other, fault_where, faults, first_fault, refused_or, reply_to}
use Rattle.k_types.specs.Sound.{IsSound}
use Rattle.k_types.specs.State.{State, is_scanned}
use Rattle.k_types.specs.Steps.{IsPossible, in_range, state_after}
use Rattle.k_types.specs.Trace.{Trace, process_count}
use Rattle.k_types.specs.Updates.{count_done}
use Rattle.k_types.proofs.Ancestors.{above_another}
use Rattle.k_laws.proofs.Histories.{state_next}
use Rattle.k_laws.specs.PartUpdates.{done_in}
use Rattle.k_laws.specs.Termination.{CreditsTheCharge}
use Rattle.k_laws.proofs.Laws.{termination_credits_the_whole_charge-kill, termination_leaves_the_rest-exits, termination_leaves_the_rest-kill, termination_leaves_the_rest-rest}
use Rattle.k_laws.proofs.SoundSteps.{legal_sound}
use Rattle.k_laws.proofs.LawfulLaws.{possible_events_are_lawful}
use Rattle.k_agree.specs.Agreement.{BookShows, Shows}
use Rattle.k_agree.specs.Committing.{CanCommit, IsCommitted, NotedCell, journal_after, note_after, state_to_come}
use Rattle.k_agree.specs.GivingAway.{with_one_done}
use Rattle.k_agree.specs.Meeting.{Fits, met_note}
use Rattle.k_agree.proofs.Commits.{committed}
use Rattle.k_agree.proofs.GivenInJournal.{counted_apart, counted_cell, ended_elsewhere, still_counted_by}
use Rattle.k_agree.proofs.GivenOnTheBook.{counted_shows}
use Rattle.k_agree.proofs.Touched.{as_listed}
use Rattle.k_commit.specs.k_book.Books.{BookRecord}
use Rattle.k_commit.specs.k_cell.Holdings.{HoldingsValue}
use Rattle.k_laws.specs.Touches.{ends_other_in, other_cells_in}
use Rattle.k_commit.specs.Beside.{HasSteppedBeside}
use Rattle.k_laws.proofs.CellSquares.{ends_told}
use Rattle.k_commit.specs.Met.{FitsTheBook, HaveMet, HeapHasMet, KernelHasMet}
use Rattle.k_commit.specs.Others.{held_by}
use Rattle.k_commit.proofs.Fitting.{done_small}
use Rattle.k_commit.proofs.Meetings.{heap_has_met}
use Rattle.k_commit.proofs.Setting.{process_known, process_lives}
use Rattle.k_commit.specs.k_heap.Heaps.{HeapRecord, has_ended_in, own_segment}
use Rattle.k_commit.specs.k_agree.Moves.{noted}
use Rattle.k_commit.proofs.Idle.{unscanned}
use Rattle.k_own.specs.Ending.{state_with}
use Rattle.k_own.specs.Exiting.{HasGivenUp, HasRoomToExit, HaveMetToExit}
use Rattle.k_own.specs.Killing.{CanKill, HasKilled, kill_of}
use Rattle.k_laws.proofs.Untouched.{one_counted}

-- a kill that touches two cells ends its target
ends_if : (ends : Bool) (q : Pid) → cond ends (User q ∷ Kernel ∷ []) [] ≡ User q ∷ Kernel ∷ [] → ends ≡ true
ends_if true q e = refl
ends_if false q e = absurd (cc e)

-- the three cells and the book meet
module _ (trace : Trace) (c0 c t0 t : HeapRecord) (k0 k : HoldingsValue) (b0 b1 b2 b : BookRecord) (op : Op) (can : CanKill trace c0 t0 k0 b0 op)
    (one : HeapHasMet trace c0 c b0 b1) (two : HeapHasMet trace t0 t b1 b2) (three : KernelHasMet trace k0 k b2 b) where
  abbrev st : State
  st = state_after trace b0.journal.list

  pub cell_met : c ≡ record c0 { note = met_note b0.journal c0.note }
  cell_met = one.cell_is

  second_book : b2 ≡ b0
  second_book = two.book_is ∙ one.book_is

  pub book_met : b ≡ b0
  book_met = three.book_is ∙ second_book

  pub target_met : t ≡ record t0 { note = met_note b0.journal t0.note }
  target_met = two.cell_is ∙ ap (λ (l : BookRecord). record t0 { note = met_note l.journal t0.note }) one.book_is

  pub kernel_met : k ≡ record k0 { note = met_note b0.journal k0.note }
  kernel_met = (ap held_by three.other_is) ∙ ap (λ (l : BookRecord). record k0 { note = met_note l.journal k0.note }) second_book

  target_told : FitsTheBook trace (User t0.pid) t0.note t0.value b0
  target_told = subst (λ (l : BookRecord). FitsTheBook trace (User t0.pid) t0.note t0.value l) one.book_is two.told

  kernel_told : FitsTheBook trace Kernel k0.note k0.value b0
  kernel_told = subst (λ (l : BookRecord). FitsTheBook trace Kernel k0.note k0.value l) second_book three.told

  pub target_fits : Fits b0.journal t0.note
  target_fits = target_told.fits

  pub kernel_fits : Fits b0.journal k0.note
  kernel_fits = kernel_told.fits

  -- the process that asks
  pub own_met : HaveMet (record { trace = trace; cell = record c0 { note = met_note b0.journal c0.note }; book = b0 })
  own_met =
      subst (λ (l : BookRecord). HaveMet (record { trace = trace; cell = record c0 { note = met_note b0.journal c0.note }; book = l })) one.book_is
      (subst (λ (x : HeapRecord). HaveMet (record { trace = trace; cell = x; book = b1 })) one.cell_is (heap_has_met trace c0 c b0 b1 one can.book_stands can.heap_stands))

  target_shows : Shows trace st (User t0.pid) t0.value
  target_shows = target_told.shows.shows can.target_stands.settled

  -- it ends the target, which lives
  ends_by_book : ends_other_in trace (book_shown_by b0.value) c0.pid.0 t0.pid.0 ≡ true
  unfolding other_cells_in
  ends_by_book =
      ends_if (ends_other_in trace (book_shown_by b0.value) c0.pid.0 t0.pid.0) t0.pid
      (subst (λ (o : Op). other_cells_in trace (book_shown_by b0.value) (Rattle.k_commit.specs.k_agree.Shown.idle_part c0.value) c0.pid.0 o ≡ User t0.pid ∷ Kernel ∷ []) can.asks can.reaches)

  pub ends : IsTrue (ends_other trace st c0.pid.0 t0.pid.0)
  ends =
      ends_told trace st c0.pid.0 t0.pid.0
      ∙ ap (λ (x : BookPart). ends_other_in trace x c0.pid.0 t0.pid.0) (sym can.book_stands.agrees.shows.part)
      ∙ ends_by_book

  parts : IsTrue (is_above trace c0.pid.0 t0.pid.0) × IsTrue (not (among t0.pid.0 st.ended))
  parts = and_parts (is_above trace c0.pid.0 t0.pid.0) (not (among t0.pid.0 st.ended)) ends

  pub target_known : t0.pid.0 < process_count trace
  target_known = can.target_stands.agrees.there

  target_lives : IsFalse (has_ended_in t0.value.process)
  unfolding part
  target_lives = ap (λ (s : ShownPart). has_ended_in s.process) target_shows.part ∙ not-true _ parts.1

  apart : IsFalse (heap_eq (User t0.pid) (User c0.pid))
  apart = ne_eqb t0.pid.0 c0.pid.0 (λ e. above_another trace can.book_stands.keeps.limits c0.pid.0 t0.pid.0 target_known parts.0 (sym e))

  apart_too : IsFalse (heap_eq (User c0.pid) (User t0.pid))
  apart_too = ne_eqb c0.pid.0 t0.pid.0 (above_another trace can.book_stands.keeps.limits c0.pid.0 t0.pid.0 target_known parts.0)

  room_here : HasRoomToExit (record t0 { note = met_note b0.journal t0.note }) (record k0 { note = met_note b0.journal k0.note }) b0
  room_here = let room = can.room one.told.fits target_fits kernel_fits in record { events = room.events; exits = room.exits }

  pub met_here : HaveMetToExit trace (record t0 { note = met_note b0.journal t0.note }) (record k0 { note = met_note b0.journal k0.note }) b0
  met_here = record {
    have_met = record {
      own = record {
        book = can.book_stands;
        heap = record { agrees = target_told.shows.agrees; table = can.target_stands.table; settled = can.target_stands.settled; idle = can.target_stands.idle; lives = target_lives };
        after = record { met = target_told.shows.met; shows = target_shows };
        few = target_told.few;
      };
      other = record { agrees = kernel_told.shows.agrees; table = can.kernel_stands.table; segment = refl; idle = can.kernel_stands.idle };
      settled = can.kernel_stands.agrees.tail;
      after = record { met = kernel_told.shows.met; shows = kernel_told.shows.shows can.kernel_stands.agrees.tail };
    };
    numbers = can.numbers;
    room = room_here;
  }

  -- what the end of the target asks
  pub met_to_end : HaveMetToExit trace t k b
  met_to_end =
      subst (λ (x : HeapRecord). HaveMetToExit trace x k b) (sym target_met)
      (subst (λ (x : HoldingsValue). HaveMetToExit trace (record t0 { note = met_note b0.journal t0.note }) x b) (sym kernel_met)
      (subst (λ (l : BookRecord). HaveMetToExit trace (record t0 { note = met_note b0.journal t0.note }) (record k0 { note = met_note b0.journal k0.note }) l) (sym book_met) met_here))

  pub own_counts : done_in c.value.process < 2 ^ 64 - 1
  own_counts =
      subst (λ (x : HeapRecord). done_in x.value.process < 2 ^ 64 - 1) (sym cell_met)
      (done_small (record { trace = trace; cell = record c0 { note = met_note b0.journal c0.note }; book = b0 }) own_met room_here.events)

  -- the event
  abbrev killing : Event
  killing = kill_of c0.pid t0.pid

  touched : cells_touched trace st killing ≡ User c0.pid ∷ User t0.pid ∷ Kernel ∷ []
  unfolding cells_touched other_cells
  touched = ap (λ b. User c0.pid ∷ cond b (User t0.pid ∷ Kernel ∷ []) []) ends

  answered : DoneReply ≡ reply_to trace st c0.pid.0 (Kill t0.pid)
  unfolding reply_to faults first_fault fault_where answer
  answered = sym (ap (λ b. refused_or (first_fault (fault_where (not b) (ProcNotBelow t0.pid) ∷ [])) DoneReply) parts.0)

  pub possible : IsPossible trace st killing
  unfolding in_range
  possible = record {
    known = process_known (record { trace = trace; cell = record c0 { note = met_note b0.journal c0.note }; book = b0 }) own_met;
    lives = process_lives (record { trace = trace; cell = record c0 { note = met_note b0.journal c0.note }; book = b0 }) own_met;
    in_range = lt-ltb t0.pid.0 (process_count trace) target_known;
    idle =
        ap (list_all (λ k. not (is_scanned st.scans k))) touched
        ∙ and_from _ _ (unscanned trace st (User c0.pid) c0.value (record { shows = own_met.after.shows; idle = can.heap_stands.idle }))
        (and_from _ _ (unscanned trace st (User t0.pid) t0.value (record { shows = target_shows; idle = can.target_stands.idle }))
        (and_from _ _ (unscanned trace st Kernel k0.value (record { shows = met_here.have_met.after.shows; idle = can.kernel_stands.idle })) refl));
    orphans = refl;
    replied = answered;
  }

  -- the target has ended; the operation counts for the process that asked, and is appended
  module _ (t1 : HeapRecord) (k1 : HoldingsValue) (l : BookRecord) (given : HasGivenUp trace (record t0 { note = met_note b0.journal t0.note }) t1 (record k0 { note = met_note b0.journal k0.note }) k1 b0 l) where
    abbrev ended : State
    ended = after_end_of trace t0.pid.0 st

    abbrev counted : CellValue
    counted = with_one_done c0.value

    abbrev three_cells : List NotedCell
    three_cells =
        noted (User c0.pid) (met_note b0.journal c0.note) counted
        ∷ noted (User t0.pid) (met_note b0.journal t0.note) t1.value
        ∷ noted Kernel (met_note b0.journal k0.note) k1.value
        ∷ []

    sound_now : IsSound trace st
    sound_now = legal_sound trace b0.journal.list can.book_stands.keeps.limits can.book_stands.agrees.legal

    comes : count_done c0.pid.0 ended ≡ state_to_come trace b0.journal killing
    comes = sym (termination_leaves_the_rest-kill trace st c0.pid t0.pid DoneReply ends)

    later : state_with trace b0 killing ≡ state_to_come trace b0.journal killing
    later = state_next trace b0.journal.list killing

    inside : c0.pid.0 < length st.done
    inside = rw sound_now.shape.sized.done possible.known

    own_then : Shows trace (count_done c0.pid.0 ended) (User c0.pid) counted
    own_then =
        counted_cell trace ended c0.pid.0 c0.value (still_counted_by trace st t0.pid.0 c0.pid.0 inside)
        (ended_elsewhere trace st (User c0.pid) t0.pid.0 c0.value apart refl own_met.after.shows) can.heap_stands.idle

    target_then : Shows trace (count_done c0.pid.0 ended) (User t0.pid) t1.value
    target_then = counted_apart trace ended (User t0.pid) c0.pid.0 t1.value apart_too given.shows

    kernel_then : Shows trace (count_done c0.pid.0 ended) Kernel k1.value
    kernel_then = counted_apart trace ended Kernel c0.pid.0 k1.value refl given.kernel_shows

    kill_can : CanCommit trace b0.journal killing three_cells l.value
    kill_can =
        let listed = as_listed trace st killing (User c0.pid ∷ User t0.pid ∷ Kernel ∷ []) can.book_stands.keeps.limits possible touched in
        record {
          legal = can.book_stands.agrees.legal;
          totals = can.book_stands.agrees.totals;
          possible = possible;
          exactly = listed.1;
          distinct = listed.0;
          ready = (
            record { met = own_met.after.met; settled = can.heap_stands.settled; shows = subst (λ (su : State). Shows trace su (User c0.pid) counted) comes own_then },
            (
              record { met = met_here.have_met.own.after.met; settled = given.settled; shows = subst (λ (su : State). Shows trace su (User t0.pid) t1.value) comes target_then },
              (record { met = met_here.have_met.after.met; settled = given.kernel_settled; shows = subst (λ (su : State). Shows trace su Kernel k1.value) comes kernel_then }, tt),
            ),
          );
          shows = subst (λ (su : State). BookShows trace su l.value) comes (counted_shows trace ended c0.pid.0 l.value given.book_shows);
        }

    kill_after : IsCommitted trace b0.journal killing three_cells l.value
    kill_after = committed trace b0.journal killing three_cells l.value kill_can

    process_there : (q : ProcessPart) × (c0.value.process ≡ Some q)
    unfolding part
    process_there = (_, ap (λ (s : ShownPart). s.process) own_met.after.shows.part)

    abbrev numbers : List Rattle.std.proofs.Common.ℕ
    numbers = c0.note.cell ∷ t0.note.cell ∷ k0.note.cell ∷ []

    pub killed_here : HasKilled trace c0 (record c0 { note = note_after killing (met_note b0.journal c0.note); value = counted })
        t0 (record t0 { note = note_after killing (met_note b0.journal t0.note); value = t1.value; serial_rooms = set t0.serial_rooms (own_segment t0.pid) None })
        k0 (record k0 { note = note_after killing (met_note b0.journal k0.note); value = k1.value; serial_rooms = set k0.serial_rooms (own_segment t0.pid) (get_or t0.serial_rooms (own_segment t0.pid) None) })
        b0 (record b0 { journal = journal_after killing numbers b0.journal; value = l.value }) (Kill t0.pid) killing
    killed_here = record {
      own = record {
        said = DoneReply;
        event_is = refl;
        possible = possible;
        lawful = possible_events_are_lawful trace b0.journal.list killing can.book_stands.keeps.limits can.book_stands.agrees.legal possible;
        journal = refl;
        same_table = refl;
        table = can.heap_stands.table;
        cell_is = refl;
        book_is = refl;
        settled = can.heap_stands.settled;
        idle = can.heap_stands.idle;
        done = one_counted c0.value.process process_there.0 process_there.1;
        met = kill_after.cells_met.0;
        agrees = kill_after.cells_agree.0;
        book_agrees = kill_after.book_agrees;
      };
      answered = refl;
      ends = record {
        fits = target_fits;
        kernel_fits = kernel_fits;
        table = can.target_stands.table;
        kernel_table = can.kernel_stands.table;
        cell_is = refl;
        kernel_is = refl;
        settled = given.settled;
        idle = given.idle;
        kernel_idle = given.kernel_idle;
        ended = given.ended;
        met = kill_after.cells_met.1.0;
        kernel_met = kill_after.cells_met.1.1.0;
        agrees = kill_after.cells_agree.1.0;
        kernel_agrees = kill_after.cells_agree.1.1.0;
        credits = subst (λ (su : State). CreditsTheCharge trace st t0.pid.0 su) (sym later)
            (termination_credits_the_whole_charge-kill trace st c0.pid t0.pid DoneReply can.book_stands.keeps.limits possible ends);
        counts = later ∙ termination_leaves_the_rest-kill trace st c0.pid t0.pid DoneReply ends;
        leaves = termination_leaves_the_rest-rest trace st t0.pid.0 sound_now target_known;
        exits = λ h n. termination_leaves_the_rest-exits trace st t0.pid.0 h n sound_now;
      };
      same_done = given.done;
    }

  -- the end of the target, from what was met
  pub given_here : (t1 : HeapRecord) (k1 : HoldingsValue) (l : BookRecord) → HasGivenUp trace t t1 k k1 b l →
      HasGivenUp trace (record t0 { note = met_note b0.journal t0.note }) t1 (record k0 { note = met_note b0.journal k0.note }) k1 b0 l
  given_here t1 k1 l given =
      subst (λ (x : HeapRecord). HasGivenUp trace x t1 (record k0 { note = met_note b0.journal k0.note }) k1 b0 l) target_met
      (subst (λ (x : HoldingsValue). HasGivenUp trace t t1 x k1 b0 l) kernel_met
      (subst (λ (x : BookRecord). HasGivenUp trace t t1 k k1 x l) book_met given))

  module _ (t1 : HeapRecord) (k1 : HoldingsValue) (l : BookRecord) (given : HasGivenUp trace t t1 k k1 b l) where
    abbrev g : HasGivenUp trace (record t0 { note = met_note b0.journal t0.note }) t1 (record k0 { note = met_note b0.journal k0.note }) k1 b0 l
    g = given_here t1 k1 l given

    pub tables : (c : HeapRecord) → c ≡ record c0 { note = met_note b0.journal c0.note; value = with_one_done c0.value } →
        (c.note.table ≡ l.journal.table) × (t1.note.table ≡ l.journal.table) × (k1.note.table ≡ l.journal.table)
    tables c is =
        let book : l.journal.table ≡ b0.journal.table = ap (λ (x : BookRecord). x.journal.table) g.book_is in (
          ap (λ (x : HeapRecord). x.note.table) is ∙ can.heap_stands.table ∙ sym book,
          ap (λ (x : HeapRecord). x.note.table) g.cell_is ∙ can.target_stands.table ∙ sym book,
          ap (λ (x : HoldingsValue). x.note.table) g.kernel_is ∙ can.kernel_stands.table ∙ sym book,
        )

    pub lists : (c : HeapRecord) → c ≡ record c0 { note = met_note b0.journal c0.note; value = with_one_done c0.value } →
        (c.note.list ≡ l.journal.list) × (t1.note.list ≡ l.journal.list) × (k1.note.list ≡ l.journal.list)
    lists c is =
        let book : l.journal.list ≡ b0.journal.list = ap (λ (x : BookRecord). x.journal.list) g.book_is in (
          ap (λ (x : HeapRecord). x.note.list) is ∙ sym book,
          ap (λ (x : HeapRecord). x.note.list) g.cell_is ∙ sym book,
          ap (λ (x : HoldingsValue). x.note.list) g.kernel_is ∙ sym book,
        )

    pub room : length l.journal.list < l.event_room
    room = subst (λ (x : BookRecord). length x.journal.list < x.event_room) (sym g.book_is) room_here.events

    -- the whole, by what the append left
    pub kill_ends : (e : Event) (c2 t2 : HeapRecord) (k2 : HoldingsValue) (m : BookRecord) → e ≡ killing →
        c2 ≡ record c0 { note = note_after e (met_note b0.journal c0.note); value = with_one_done c0.value } → t2 ≡ record t1 { note = note_after e t1.note } →
        k2 ≡ record k1 { note = note_after e k1.note } → m ≡ record l { journal = journal_after e (c0.note.cell ∷ t1.note.cell ∷ k1.note.cell ∷ []) l.journal } →
        HasKilled trace c0 c2 t0 t2 k0 k2 b0 m op e
    kill_ends e c2 t2 k2 m is cell_is target_is kernel_is book_is =
        let t_is : t2 ≡ record t0 { note = note_after e (met_note b0.journal t0.note); value = t1.value; serial_rooms = set t0.serial_rooms (own_segment t0.pid) None } =
        target_is ∙ ap (λ (x : HeapRecord). record x { note = note_after e x.note }) g.cell_is in
        let k_is : k2 ≡ record k0 { note = note_after e (met_note b0.journal k0.note); value = k1.value; serial_rooms = set k0.serial_rooms (own_segment t0.pid) (get_or t0.serial_rooms (own_segment t0.pid) None) } =
        kernel_is ∙ ap (λ (x : HoldingsValue). record x { note = note_after e x.note }) g.kernel_is in
        let m_is : m ≡ record b0 { journal = journal_after e (c0.note.cell ∷ t0.note.cell ∷ k0.note.cell ∷ []) b0.journal; value = l.value } =
        book_is
        ∙ ap (λ (x : HeapRecord). record l { journal = journal_after e (c0.note.cell ∷ x.note.cell ∷ k1.note.cell ∷ []) l.journal }) g.cell_is
        ∙ ap (λ (x : HoldingsValue). record l { journal = journal_after e (c0.note.cell ∷ t0.note.cell ∷ x.note.cell ∷ []) l.journal }) g.kernel_is
        ∙ ap (λ (x : BookRecord). record x { journal = journal_after e (c0.note.cell ∷ t0.note.cell ∷ k0.note.cell ∷ []) x.journal }) g.book_is in
        rw (cell_is, t_is, k_is, m_is, can.asks, is) (killed_here t1 k1 l g)

-- a kill that ends its target is a step beside the target's cell and the kernel's
pub kill_beside : (trace : Trace) (op : Op) (c w t u : HeapRecord) (k x : HoldingsValue) (b l : BookRecord) (event : Event) → HasKilled trace c w t u k x b l op event →
    HasSteppedBeside trace op c w (noted (User u.pid) u.note u.value ∷ noted Kernel x.note x.value ∷ []) b l event
kill_beside trace op c w t u k x b l event s = record {
  own = s.own;
  others = (
    record { stands = record { agrees = s.ends.agrees; table = s.ends.table; settled = s.ends.settled; idle = s.ends.idle }; met = s.ends.met },
    (record { stands = record { agrees = s.ends.kernel_agrees; table = s.ends.kernel_table; settled = s.ends.kernel_agrees.tail; idle = s.ends.kernel_idle }; met = s.ends.kernel_met }, tt),
  );
}
