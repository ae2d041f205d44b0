-- An absorption, and the end of a process, once the event is appended.
use Rattle.std.proofs.Common.{◌≡◌, ◌+◌, ◌-◌, ◌^◌, ◌<◌, ◌≤◌, true, refl, sym, ap, ◌∙◌, subst, List, [], ◌∷◌, length, get_or, set, Option, Some, None, option_map, arith}
use Rattle.std.proofs.lemmas.Bool.{false≢true}
use Rattle.k_types.specs.declared.event.Event.{Event}
use Rattle.k_types.specs.declared.event.Event.TheVariants.{Absorbed}
use Rattle.k_types.specs.declared.event.Reply.TheVariants.{Done as DoneReply}
use Rattle.k_types.specs.declared.names.Heap.TheVariants.{Kernel, Shared, User}
use Rattle.k_types.specs.Agree.{CellValue}
use Rattle.k_types.specs.Cells.{ProcessPart, cells_touched, other_cells}
use Rattle.k_types.specs.Effects.{after_end_of}
use Rattle.k_types.specs.Sound.{IsSound}
use Rattle.k_types.specs.State.{State}
use Rattle.k_types.specs.Steps.{state_after}
use Rattle.k_types.specs.Trace.{Trace, process_count, segment_count}
use Rattle.k_types.specs.Updates.{count_done}
use Rattle.k_laws.specs.PartUpdates.{done_in, process_with_done}
use Rattle.k_tie.specs.Values.{NoteValue}
use Rattle.k_laws.proofs.Histories.{state_next}
use Rattle.k_laws.specs.Termination.{CreditsTheCharge}
use Rattle.k_laws.proofs.Laws.{termination_credits_the_whole_charge-exit, termination_leaves_the_rest-exit, termination_leaves_the_rest-exits, termination_leaves_the_rest-rest}
use Rattle.k_laws.proofs.LawfulLaws.{possible_events_are_lawful}
use Rattle.k_agree.specs.Agreement.{BookShows, Shows}
use Rattle.k_agree.specs.Committing.{CanCommit, IsCommitted, NotedCell, journal_after, note_after, state_to_come}
use Rattle.k_agree.specs.GivingAway.{with_one_done}
use Rattle.k_agree.specs.Meeting.{Fits, met_note}
use Rattle.k_agree.proofs.Commits.{committed}
use Rattle.k_agree.proofs.GivenInJournal.{counted_apart, counted_cell, still_counted}
use Rattle.k_agree.proofs.GivenOnTheBook.{counted_shows}
use Rattle.k_agree.proofs.Touched.{as_listed}
use Rattle.k_commit.specs.k_book.Books.{BookRecord}
use Rattle.k_commit.specs.k_cell.Holdings.{HoldingsValue}
use Rattle.k_commit.specs.Met.{FitsTheBook, HeapHasMet, KernelHasMet, SharedHasMet}
use Rattle.k_commit.specs.Others.{held_by, of_kernel, shared_by}
use Rattle.k_commit.proofs.Fitting.{done_small}
use Rattle.k_commit.proofs.Meetings.{other_has_met}
use Rattle.k_commit.specs.k_heap.Heaps.{HeapRecord, has_ended_in, own_segment}
use Rattle.k_commit.specs.k_agree.Moves.{noted}
use Rattle.k_commit.specs.k_shared.SharedHeaps.{SharedRecord}
use Rattle.k_own.specs.Absorbing.{CanAbsorb, HasAbsorbedHeap, HasTakenOver, HaveMetToAbsorb}
use Rattle.k_own.specs.Ending.{state_with}
use Rattle.k_own.specs.Exiting.{CanExit, HasExited, HasGivenUp, HasRoomToExit, HaveMetToExit, exit_of}
use Rattle.k_own.proofs.Leaver.{known, possible as exit_possible, sound}
use Rattle.k_own.proofs.Orphaned.{possible as absorption_possible}

-- the cells that the events touch
touched_by_absorption : (trace : Trace) (st : State) (s : SharedRecord) → cells_touched trace st (Absorbed s.id) ≡ Shared s.id ∷ Kernel ∷ []
unfolding cells_touched
touched_by_absorption trace st s = refl

touched_by_exit : (trace : Trace) (st : State) (c : HeapRecord) → cells_touched trace st (exit_of c.pid) ≡ User c.pid ∷ Kernel ∷ []
unfolding cells_touched other_cells
touched_by_exit trace st c = refl

-- the shared heap's cell, the kernel's and the book meet
module _ (trace : Trace) (s0 s : SharedRecord) (k0 k : HoldingsValue) (b0 b1 b : BookRecord) (can : CanAbsorb trace s0 k0 b0) (one : SharedHasMet trace s0 s b0 b1) (two : KernelHasMet trace k0 k b1 b) where
  told : FitsTheBook trace Kernel k0.note k0.value b0
  told = subst (λ (l : BookRecord). FitsTheBook trace Kernel k0.note k0.value l) one.book_is two.told

  pub shared_met : s ≡ record s0 { note = met_note b0.journal s0.note }
  shared_met = (ap shared_by one.other_is)

  pub kernel_met : k ≡ record k0 { note = met_note b0.journal k0.note }
  kernel_met = (ap held_by two.other_is) ∙ ap (λ (l : BookRecord). record k0 { note = met_note l.journal k0.note }) one.book_is

  pub book_met : b ≡ b0
  book_met = two.book_is ∙ one.book_is

  pub fit_both : Fits b0.journal s0.note × Fits b0.journal k0.note
  fit_both = (one.told.fits, told.fits)

  pub met_here : HaveMetToAbsorb trace (record s0 { note = met_note b0.journal s0.note }) (record k0 { note = met_note b0.journal k0.note }) b0
  met_here = record {
    book_stands = can.book_stands;
    shared_stands = record { agrees = one.told.shows.agrees; table = can.shared_stands.table; segment = can.shared_stands.segment; idle = can.shared_stands.idle };
    kernel_stands = record { agrees = told.shows.agrees; table = can.kernel_stands.table; segment = refl; idle = can.kernel_stands.idle };
    orphan = can.orphan;
    numbers = can.numbers;
    after = record { met = one.told.shows.met; shows = one.told.shows.shows can.shared_stands.agrees.tail };
    kernel_after = record { met = told.shows.met; shows = told.shows.shows can.kernel_stands.agrees.tail };
    events = can.room one.told.fits told.fits;
    few = one.told.few;
  }

  pub met_to_absorb : HaveMetToAbsorb trace s k b
  met_to_absorb =
      subst (λ (l : BookRecord). HaveMetToAbsorb trace s k l) (sym book_met)
      (subst (λ (x : HoldingsValue). HaveMetToAbsorb trace s x b0) (sym kernel_met)
      (subst (λ (x : SharedRecord). HaveMetToAbsorb trace x (record k0 { note = met_note b0.journal k0.note }) b0) (sym shared_met) met_here))

-- the absorption is appended
module _ (trace : Trace) (s0 s1 : SharedRecord) (k0 k1 : HoldingsValue) (b0 l : BookRecord) (ns nk : NoteValue) (met : HaveMetToAbsorb trace (record s0 { note = ns }) (record k0 { note = nk }) b0)
    (taken : HasTakenOver trace (record s0 { note = ns }) s1 (record k0 { note = nk }) k1 b0 l) (fits : Fits b0.journal s0.note) (kernel_fits : Fits b0.journal k0.note) where
  abbrev absorption : Event
  absorption = Absorbed s0.id

  abbrev absorbing : List NotedCell
  absorbing = noted (Shared s0.id) ns s1.value ∷ noted Kernel nk k1.value ∷ []

  next : state_with trace b0 absorption ≡ state_to_come trace b0.journal absorption
  next = state_next trace b0.journal.list absorption

  absorption_can : CanCommit trace b0.journal absorption absorbing l.value
  absorption_can =
      let listed = as_listed trace (state_after trace b0.journal.list) absorption (Shared s0.id ∷ Kernel ∷ []) met.book_stands.keeps.limits (absorption_possible trace (record s0 { note = ns }) (record k0 { note = nk }) b0 met) (touched_by_absorption trace (state_after trace b0.journal.list) s0) in
      record {
        legal = met.book_stands.agrees.legal;
        totals = met.book_stands.agrees.totals;
        possible = absorption_possible trace (record s0 { note = ns }) (record k0 { note = nk }) b0 met;
        exactly = listed.1;
        distinct = listed.0;
        ready = (
          record { met = met.after.met; settled = taken.settled ∙ met.shared_stands.agrees.tail; shows = subst (λ (su : State). Shows trace su (Shared s0.id) s1.value) next taken.shows },
          (
            record { met = met.kernel_after.met; settled = taken.kernel_settled ∙ met.kernel_stands.agrees.tail; shows = subst (λ (su : State). Shows trace su Kernel k1.value) next taken.kernel_shows },
            tt,
          ),
        );
        shows = subst (λ (su : State). BookShows trace su l.value) next taken.book_shows;
      }

  absorption_after : IsCommitted trace b0.journal absorption absorbing l.value
  absorption_after = committed trace b0.journal absorption absorbing l.value absorption_can

  absorbed_here : HasAbsorbedHeap trace s0 (record s0 { note = note_after absorption ns; value = s1.value; serial_rooms = set s0.serial_rooms s0.seg.0 None }) k0
      (record k0 { note = note_after absorption nk; value = k1.value; serial_rooms = set k0.serial_rooms s0.seg.0 (get_or s0.serial_rooms s0.seg.0 None) })
      b0 (record b0 { journal = journal_after absorption (ns.cell ∷ nk.cell ∷ []) b0.journal; value = l.value }) absorption
  absorbed_here = record {
    event_is = refl;
    possible = absorption_can.possible;
    lawful = possible_events_are_lawful trace b0.journal.list absorption met.book_stands.keeps.limits met.book_stands.agrees.legal absorption_can.possible;
    fits = fits;
    kernel_fits = kernel_fits;
    journal = refl;
    same_table = refl;
    table = met.shared_stands.table;
    kernel_table = met.kernel_stands.table;
    shared_is = refl;
    kernel_is = refl;
    book_is = refl;
    phase = taken.phase;
    idle = taken.idle;
    kernel_idle = taken.kernel_idle;
    met = absorption_after.cells_met.0;
    kernel_met = absorption_after.cells_met.1.0;
    agrees = absorption_after.cells_agree.0;
    kernel_agrees = absorption_after.cells_agree.1.0;
    book_agrees = absorption_after.book_agrees;
  }

  pub absorbed_whole : HasAbsorbedHeap trace s0 (record s1 { note = note_after absorption s1.note }) k0 (record k1 { note = note_after absorption k1.note })
      b0 (record l { journal = journal_after absorption (s1.note.cell ∷ k1.note.cell ∷ []) l.journal }) absorption
  absorbed_whole =
      subst (λ (x : SharedRecord). HasAbsorbedHeap trace s0 (record x { note = note_after absorption x.note }) k0 (record k1 { note = note_after absorption k1.note })
      b0 (record l { journal = journal_after absorption (x.note.cell ∷ k1.note.cell ∷ []) l.journal }) absorption) (sym taken.shared_is)
      (subst (λ (x : HoldingsValue). HasAbsorbedHeap trace s0 (record s0 { note = note_after absorption ns; value = s1.value; serial_rooms = set s0.serial_rooms s0.seg.0 None }) k0 (record x { note = note_after absorption x.note })
      b0 (record l { journal = journal_after absorption (ns.cell ∷ x.note.cell ∷ []) l.journal }) absorption) (sym taken.kernel_is)
      (subst (λ (x : BookRecord). HasAbsorbedHeap trace s0 (record s0 { note = note_after absorption ns; value = s1.value; serial_rooms = set s0.serial_rooms s0.seg.0 None }) k0
      (record k0 { note = note_after absorption nk; value = k1.value; serial_rooms = set k0.serial_rooms s0.seg.0 (get_or s0.serial_rooms s0.seg.0 None) })
      b0 (record x { journal = journal_after absorption (ns.cell ∷ nk.cell ∷ []) x.journal }) absorption) (sym taken.book_is) absorbed_here))

-- what the append asks, and the absorption once it is done
module _ (trace : Trace) (s0 s : SharedRecord) (k0 k : HoldingsValue) (b0 b1 b : BookRecord) (can : CanAbsorb trace s0 k0 b0) (one : SharedHasMet trace s0 s b0 b1) (two : KernelHasMet trace k0 k b1 b)
    (s1 : SharedRecord) (k1 : HoldingsValue) (l : BookRecord) (taken : HasTakenOver trace s s1 k k1 b l) where
  here : HaveMetToAbsorb trace s k b
  here = met_to_absorb trace s0 s k0 k b0 b1 b can one two

  pub absorption_tables : (s1.note.table ≡ l.journal.table) × (k1.note.table ≡ l.journal.table)
  absorption_tables = (
    ap (λ (x : SharedRecord). x.note.table) taken.shared_is ∙ here.shared_stands.table ∙ sym (ap (λ (x : BookRecord). x.journal.table) taken.book_is),
    ap (λ (x : HoldingsValue). x.note.table) taken.kernel_is ∙ here.kernel_stands.table ∙ sym (ap (λ (x : BookRecord). x.journal.table) taken.book_is),
  )

  pub absorption_lists : (s1.note.list ≡ l.journal.list) × (k1.note.list ≡ l.journal.list)
  absorption_lists = (
    ap (λ (x : SharedRecord). x.note.list) taken.shared_is ∙ here.after.met.list ∙ sym (ap (λ (x : BookRecord). x.journal.list) taken.book_is),
    ap (λ (x : HoldingsValue). x.note.list) taken.kernel_is ∙ here.kernel_after.met.list ∙ sym (ap (λ (x : BookRecord). x.journal.list) taken.book_is),
  )

  pub absorption_room : length l.journal.list < l.event_room
  absorption_room = subst (λ (x : BookRecord). length x.journal.list < x.event_room) (sym taken.book_is) here.events

  taken_here : HasTakenOver trace (record s0 { note = met_note b0.journal s0.note }) s1 (record k0 { note = met_note b0.journal k0.note }) k1 b0 l
  taken_here =
      subst (λ (x : SharedRecord). HasTakenOver trace x s1 (record k0 { note = met_note b0.journal k0.note }) k1 b0 l) (shared_met trace s0 s k0 k b0 b1 b can one two)
      (subst (λ (x : HoldingsValue). HasTakenOver trace s s1 x k1 b0 l) (kernel_met trace s0 s k0 k b0 b1 b can one two)
      (subst (λ (x : BookRecord). HasTakenOver trace s s1 k k1 x l) (book_met trace s0 s k0 k b0 b1 b can one two) taken))

  pub absorption_ends : (e : Event) (s2 : SharedRecord) (k2 : HoldingsValue) (m : BookRecord) → e ≡ Absorbed s0.id → s2 ≡ record s1 { note = note_after e s1.note } →
      k2 ≡ record k1 { note = note_after e k1.note } → m ≡ record l { journal = journal_after e (s1.note.cell ∷ k1.note.cell ∷ []) l.journal } → HasAbsorbedHeap trace s0 s2 k0 k2 b0 m e
  absorption_ends e s2 k2 m is shared_is kernel_is book_is =
      let fits = fit_both trace s0 s k0 k b0 b1 b can one two in
      subst (λ (x : SharedRecord). HasAbsorbedHeap trace s0 x k0 k2 b0 m e) (sym shared_is)
      (subst (λ (x : HoldingsValue). HasAbsorbedHeap trace s0 (record s1 { note = note_after e s1.note }) k0 x b0 m e) (sym kernel_is)
      (subst (λ (x : BookRecord). HasAbsorbedHeap trace s0 (record s1 { note = note_after e s1.note }) k0 (record k1 { note = note_after e k1.note }) b0 x e) (sym book_is)
      (subst (λ (f : Event). HasAbsorbedHeap trace s0 (record s1 { note = note_after f s1.note }) k0 (record k1 { note = note_after f k1.note })
      b0 (record l { journal = journal_after f (s1.note.cell ∷ k1.note.cell ∷ []) l.journal }) f) (sym is)
      (absorbed_whole trace s0 s1 k0 k1 b0 l (met_note b0.journal s0.note) (met_note b0.journal k0.note) (met_here trace s0 s k0 k b0 b1 b can one two) taken_here fits.0 fits.1))))

-- the process's cell, the kernel's and the book meet
module _ (trace : Trace) (c0 c : HeapRecord) (k0 k : HoldingsValue) (b0 b1 b : BookRecord) (can : CanExit trace c0 k0 b0) (one : HeapHasMet trace c0 c b0 b1) (two : KernelHasMet trace k0 k b1 b) where
  kernel_told : FitsTheBook trace Kernel k0.note k0.value b0
  kernel_told = subst (λ (l : BookRecord). FitsTheBook trace Kernel k0.note k0.value l) one.book_is two.told

  pub heap_met : c ≡ record c0 { note = met_note b0.journal c0.note }
  heap_met = one.cell_is

  pub kernel_met_too : k ≡ record k0 { note = met_note b0.journal k0.note }
  kernel_met_too = (ap held_by two.other_is) ∙ ap (λ (l : BookRecord). record k0 { note = met_note l.journal k0.note }) one.book_is

  pub book_same : b ≡ b0
  book_same = two.book_is ∙ one.book_is

  pub both_fit : Fits b0.journal c0.note × Fits b0.journal k0.note
  both_fit = (one.told.fits, kernel_told.fits)

  pub met_to_exit : HaveMetToExit trace c k b
  met_to_exit = record {
    have_met = other_has_met trace c0 c b0 b1 one (of_kernel k0) (of_kernel k) b can.book_stands can.heap_stands can.kernel_stands can.kernel_stands.agrees.tail two;
    numbers = subst (λ (x : HoldingsValue). segment_count trace ≤ x.bound) (sym kernel_met_too) can.numbers;
    room =
        subst (λ (l : BookRecord). HasRoomToExit c k l) (sym book_same)
        (subst (λ (x : HoldingsValue). HasRoomToExit c x b0) (sym kernel_met_too)
        (subst (λ (x : HeapRecord). HasRoomToExit x (record k0 { note = met_note b0.journal k0.note }) b0) (sym heap_met) room_here));
  }
    where
      room_here : HasRoomToExit (record c0 { note = met_note b0.journal c0.note }) (record k0 { note = met_note b0.journal k0.note }) b0
      room_here = let room = can.room one.told.fits kernel_told.fits in record { events = room.events; exits = room.exits }

-- the exit counts as done
ended_counted : (process : Option ProcessPart) → has_ended_in process ≡ true → has_ended_in (option_map process_with_done process) ≡ true
ended_counted None e = absurd (false≢true e)
ended_counted (Some q) e = e

one_ended : (process : Option ProcessPart) → has_ended_in process ≡ true → done_in (option_map process_with_done process) ≡ done_in process + 1
one_ended None e = absurd (false≢true e)
one_ended (Some q) e = refl

-- and is appended
module _ (trace : Trace) (c0 c1 : HeapRecord) (k0 k1 : HoldingsValue) (b0 l : BookRecord) (nc nk : NoteValue) (met : HaveMetToExit trace (record c0 { note = nc }) (record k0 { note = nk }) b0)
    (given : HasGivenUp trace (record c0 { note = nc }) c1 (record k0 { note = nk }) k1 b0 l) (fits : Fits b0.journal c0.note) (kernel_fits : Fits b0.journal k0.note) where
  abbrev leaving : Event
  leaving = exit_of c0.pid

  abbrev counted : CellValue
  counted = with_one_done c1.value

  abbrev leavers : List NotedCell
  leavers = noted (User c0.pid) nc counted ∷ noted Kernel nk k1.value ∷ []

  abbrev st : State
  st = state_after trace b0.journal.list

  abbrev ended : State
  ended = after_end_of trace c0.pid.0 st

  met_sound : IsSound trace st
  met_sound = sound trace (record c0 { note = nc }) (record k0 { note = nk }) b0 met

  met_known : c0.pid.0 < process_count trace
  met_known = known trace (record c0 { note = nc }) (record k0 { note = nk }) b0 met

  -- the state after the exit
  later : state_with trace b0 leaving ≡ state_to_come trace b0.journal leaving
  later = state_next trace b0.journal.list leaving

  comes : count_done c0.pid.0 ended ≡ state_to_come trace b0.journal leaving
  comes = sym (termination_leaves_the_rest-exit trace st c0.pid DoneReply)

  inside : c0.pid.0 < length st.done
  inside = rw met_sound.shape.sized.done met_known

  exit_can : CanCommit trace b0.journal leaving leavers l.value
  exit_can =
      let possible = exit_possible trace (record c0 { note = nc }) (record k0 { note = nk }) b0 met in
      let listed = as_listed trace st leaving (User c0.pid ∷ Kernel ∷ []) met.have_met.own.book.keeps.limits possible (touched_by_exit trace st c0) in
      record {
        legal = met.have_met.own.book.agrees.legal;
        totals = met.have_met.own.book.agrees.totals;
        possible = possible;
        exactly = listed.1;
        distinct = listed.0;
        ready = (
          record {
            met = met.have_met.own.after.met;
            settled = given.settled;
            shows = subst (λ (su : State). Shows trace su (User c0.pid) counted) comes (counted_cell trace ended c0.pid.0 c1.value (still_counted trace st c0.pid.0 inside) given.shows given.idle);
          },
          (
            record {
              met = met.have_met.after.met;
              settled = given.kernel_settled;
              shows = subst (λ (su : State). Shows trace su Kernel k1.value) comes (counted_apart trace ended Kernel c0.pid.0 k1.value refl given.kernel_shows);
            },
            tt,
          ),
        );
        shows = subst (λ (su : State). BookShows trace su l.value) comes (counted_shows trace ended c0.pid.0 l.value given.book_shows);
      }

  exit_after : IsCommitted trace b0.journal leaving leavers l.value
  exit_after = committed trace b0.journal leaving leavers l.value exit_can

  exited_here : HasExited trace c0 (record c0 { note = note_after leaving nc; value = counted; serial_rooms = set c0.serial_rooms (own_segment c0.pid) None }) k0
      (record k0 { note = note_after leaving nk; value = k1.value; serial_rooms = set k0.serial_rooms (own_segment c0.pid) (get_or c0.serial_rooms (own_segment c0.pid) None) })
      b0 (record b0 { journal = journal_after leaving (nc.cell ∷ nk.cell ∷ []) b0.journal; value = l.value }) leaving
  exited_here = record {
    event_is = refl;
    possible = exit_can.possible;
    lawful = possible_events_are_lawful trace b0.journal.list leaving met.have_met.own.book.keeps.limits met.have_met.own.book.agrees.legal exit_can.possible;
    journal = refl;
    same_table = refl;
    book_is = refl;
    done = one_ended c1.value.process given.ended ∙ ap (λ n. n + 1) given.done;
    book_agrees = exit_after.book_agrees;
    ends = record {
      fits = fits;
      kernel_fits = kernel_fits;
      table = met.have_met.own.heap.table;
      kernel_table = met.have_met.other.table;
      cell_is = refl;
      kernel_is = refl;
      settled = given.settled;
      idle = given.idle;
      kernel_idle = given.kernel_idle;
      ended = ended_counted c1.value.process given.ended;
      met = exit_after.cells_met.0;
      kernel_met = exit_after.cells_met.1.0;
      agrees = exit_after.cells_agree.0;
      kernel_agrees = exit_after.cells_agree.1.0;
      credits = subst (λ (su : State). CreditsTheCharge trace st c0.pid.0 su) (sym later)
          (termination_credits_the_whole_charge-exit trace st c0.pid DoneReply met.have_met.own.book.keeps.limits exit_can.possible);
      counts = later ∙ termination_leaves_the_rest-exit trace st c0.pid DoneReply;
      leaves = termination_leaves_the_rest-rest trace st c0.pid.0 met_sound met_known;
      exits = λ h n. termination_leaves_the_rest-exits trace st c0.pid.0 h n met_sound;
    };
  }

  pub exited_whole : HasExited trace c0 (record c1 { note = note_after leaving c1.note; value = counted }) k0 (record k1 { note = note_after leaving k1.note })
      b0 (record l { journal = journal_after leaving (c1.note.cell ∷ k1.note.cell ∷ []) l.journal }) leaving
  exited_whole =
      subst (λ (x : HeapRecord). HasExited trace c0 (record x { note = note_after leaving x.note; value = with_one_done x.value }) k0 (record k1 { note = note_after leaving k1.note })
      b0 (record l { journal = journal_after leaving (x.note.cell ∷ k1.note.cell ∷ []) l.journal }) leaving) (sym given.cell_is)
      (subst (λ (x : HoldingsValue). HasExited trace c0 (record c0 { note = note_after leaving nc; value = counted; serial_rooms = set c0.serial_rooms (own_segment c0.pid) None }) k0 (record x { note = note_after leaving x.note })
      b0 (record l { journal = journal_after leaving (nc.cell ∷ x.note.cell ∷ []) l.journal }) leaving) (sym given.kernel_is)
      (subst (λ (x : BookRecord). HasExited trace c0 (record c0 { note = note_after leaving nc; value = counted; serial_rooms = set c0.serial_rooms (own_segment c0.pid) None }) k0
      (record k0 { note = note_after leaving nk; value = k1.value; serial_rooms = set k0.serial_rooms (own_segment c0.pid) (get_or c0.serial_rooms (own_segment c0.pid) None) })
      b0 (record x { journal = journal_after leaving (nc.cell ∷ nk.cell ∷ []) x.journal }) leaving) (sym given.book_is) exited_here))

-- what the append asks, and the end of the process once it is done
module _ (trace : Trace) (c0 c : HeapRecord) (k0 k : HoldingsValue) (b0 b1 b : BookRecord) (can : CanExit trace c0 k0 b0) (one : HeapHasMet trace c0 c b0 b1) (two : KernelHasMet trace k0 k b1 b)
    (c1 : HeapRecord) (k1 : HoldingsValue) (l : BookRecord) (given : HasGivenUp trace c c1 k k1 b l) where
  exiting : HaveMetToExit trace c k b
  exiting = met_to_exit trace c0 c k0 k b0 b1 b can one two

  pub exit_tables : (c1.note.table ≡ l.journal.table) × (k1.note.table ≡ l.journal.table)
  exit_tables = (
    ap (λ (x : HeapRecord). x.note.table) given.cell_is ∙ exiting.have_met.own.heap.table ∙ sym (ap (λ (x : BookRecord). x.journal.table) given.book_is),
    ap (λ (x : HoldingsValue). x.note.table) given.kernel_is ∙ exiting.have_met.other.table ∙ sym (ap (λ (x : BookRecord). x.journal.table) given.book_is),
  )

  pub exit_lists : (c1.note.list ≡ l.journal.list) × (k1.note.list ≡ l.journal.list)
  exit_lists = (
    ap (λ (x : HeapRecord). x.note.list) given.cell_is ∙ exiting.have_met.own.after.met.list ∙ sym (ap (λ (x : BookRecord). x.journal.list) given.book_is),
    ap (λ (x : HoldingsValue). x.note.list) given.kernel_is ∙ exiting.have_met.after.met.list ∙ sym (ap (λ (x : BookRecord). x.journal.list) given.book_is),
  )

  pub exit_counts : done_in c1.value.process < 2 ^ 64 - 1
  exit_counts =
      let same = given.done in
      let small = done_small (record { trace = trace; cell = c; book = b }) exiting.have_met.own exiting.room.events in
      omega (arith, same, small)

  pub exit_room : length l.journal.list < l.event_room
  exit_room = subst (λ (x : BookRecord). length x.journal.list < x.event_room) (sym given.book_is) exiting.room.events

  pub pid_kept : c1.pid ≡ c0.pid
  pid_kept = ap (λ (x : HeapRecord). x.pid) given.cell_is ∙ ap (λ (x : HeapRecord). x.pid) (heap_met trace c0 c k0 k b0 b1 b can one two)

  met_there : HaveMetToExit trace (record c0 { note = met_note b0.journal c0.note }) (record k0 { note = met_note b0.journal k0.note }) b0
  met_there =
      subst (λ (x : HeapRecord). HaveMetToExit trace x (record k0 { note = met_note b0.journal k0.note }) b0) (heap_met trace c0 c k0 k b0 b1 b can one two)
      (subst (λ (x : HoldingsValue). HaveMetToExit trace c x b0) (kernel_met_too trace c0 c k0 k b0 b1 b can one two)
      (subst (λ (x : BookRecord). HaveMetToExit trace c k x) (book_same trace c0 c k0 k b0 b1 b can one two) exiting))

  given_here : HasGivenUp trace (record c0 { note = met_note b0.journal c0.note }) c1 (record k0 { note = met_note b0.journal k0.note }) k1 b0 l
  given_here =
      subst (λ (x : HeapRecord). HasGivenUp trace x c1 (record k0 { note = met_note b0.journal k0.note }) k1 b0 l) (heap_met trace c0 c k0 k b0 b1 b can one two)
      (subst (λ (x : HoldingsValue). HasGivenUp trace c c1 x k1 b0 l) (kernel_met_too trace c0 c k0 k b0 b1 b can one two)
      (subst (λ (x : BookRecord). HasGivenUp trace c c1 k k1 x l) (book_same trace c0 c k0 k b0 b1 b can one two) given))

  pub exit_ends : (e : Event) (c2 c3 : HeapRecord) (k2 : HoldingsValue) (m : BookRecord) → e ≡ exit_of c0.pid → c2 ≡ record c1 { value = with_one_done c1.value } → c3 ≡ record c2 { note = note_after e c2.note } →
      k2 ≡ record k1 { note = note_after e k1.note } → m ≡ record l { journal = journal_after e (c2.note.cell ∷ k1.note.cell ∷ []) l.journal } → HasExited trace c0 c3 k0 k2 b0 m e
  exit_ends e c2 c3 k2 m is counts cell_is kernel_is book_is =
      let fits = both_fit trace c0 c k0 k b0 b1 b can one two in
      let counted_is : c3 ≡ record c1 { note = note_after e c1.note; value = with_one_done c1.value } = cell_is ∙ ap (λ (x : HeapRecord). record x { note = note_after e x.note }) counts in
      let noted_is : m ≡ record l { journal = journal_after e (c1.note.cell ∷ k1.note.cell ∷ []) l.journal } =
      book_is ∙ ap (λ (x : HeapRecord). record l { journal = journal_after e (x.note.cell ∷ k1.note.cell ∷ []) l.journal }) counts in
      subst (λ (x : HeapRecord). HasExited trace c0 x k0 k2 b0 m e) (sym counted_is)
      (subst (λ (x : HoldingsValue). HasExited trace c0 (record c1 { note = note_after e c1.note; value = with_one_done c1.value }) k0 x b0 m e) (sym kernel_is)
      (subst (λ (x : BookRecord). HasExited trace c0 (record c1 { note = note_after e c1.note; value = with_one_done c1.value }) k0 (record k1 { note = note_after e k1.note }) b0 x e) (sym noted_is)
      (subst (λ (f : Event). HasExited trace c0 (record c1 { note = note_after f c1.note; value = with_one_done c1.value }) k0 (record k1 { note = note_after f k1.note })
      b0 (record l { journal = journal_after f (c1.note.cell ∷ k1.note.cell ∷ []) l.journal }) f) (sym is)
      (exited_whole trace c0 c1 k0 k1 b0 l (met_note b0.journal c0.note) (met_note b0.journal k0.note) met_there given_here fits.0 fits.1))))
