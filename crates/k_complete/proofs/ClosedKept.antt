-- The last collection of the kernel keeps what is asked at the end.
use Rattle.std.proofs.Common.{◌≡◌, ◌≤◌, ◌++◌, ℕ, true, false, refl, sym, ap, ap₂, ◌∙◌, subst, List, [], ◌∷◌, length, append-nil, append_assoc, filter, find, Some, None, is_some, IsTrue, if◌then◌else◌, arith}
use Rattle.std.specs.List.{list_all}
use Rattle.std.proofs.Math.Path.{fun_ext}
use Rattle.std.proofs.lemmas.Bool.{false≢true}
use Rattle.k_types.specs.declared.event.Event.{Event}
use Rattle.k_types.specs.declared.event.Event.TheVariants.{Ended, Closing}
use Rattle.k_types.specs.declared.names.CellPhase.TheVariants.{Begun, Marked}
use Rattle.k_types.specs.declared.names.Heap.TheVariants.{Kernel}
use Rattle.k_types.specs.Cells.{BookPart, book_part}
use Rattle.k_types.specs.Complete.{all_ended}
use Rattle.k_types.specs.FileOrder.{absorptions, end_of, with_end}
use Rattle.k_types.specs.Names.{among}
use Rattle.k_types.specs.Numbers.{numbers_below}
use Rattle.k_types.specs.State.{State, opening}
use Rattle.k_types.specs.Steps.{IsPossible, is_orphan, run, state_after}
use Rattle.k_types.specs.Effects.{step}
use Rattle.k_types.specs.Trace.{Trace, process_count, segment_count}
use Rattle.k_laws.proofs.Histories.{run_append, state_next}
use Rattle.k_agree.specs.Meeting.{Fits}
use Rattle.k_agree.specs.Rooms.{AreFirst, event_room, exit_room}
use Rattle.k_agree.specs.Settled.{all_ended_in, no_orphan_in}
use Rattle.k_agree.proofs.Meetings.{meeting}
use Rattle.k_agree.proofs.WithinRooms.{room_after}
use Rattle.k_agree.proofs.Idle.{not_open}
use Rattle.k_book.specs.Books.{BookRecord}
use Rattle.k_book.proofs.Telling.{tells}
use Rattle.k_cell.specs.Holdings.{HoldingsValue}
use Rattle.k_shared.specs.SharedHeaps.{SharedRecord}
use Rattle.k_shares.specs.Sharers.{is_orphan_by, lowest_orphan}
use Rattle.k_operate.specs.k_collect.Standing.{BookStands}
use Rattle.k_operate.specs.k_collect.Begun.{HasAppended, HasClosed}
use Rattle.k_operate.specs.k_collect.Collecting.{CanClose, CanEndKernel}
use Rattle.k_operate.specs.k_collect.Ended.{HasEndedKernel}
use Rattle.k_operate.proofs.KernelBegins.{none_orphaned, none_found}
use Rattle.k_operate.specs.k_process.Keeping.{BookKeeps, CanGive, KernelKeeps}
use Rattle.k_operate.specs.k_process.BetweenSteps.{RestStands}
use Rattle.k_operate.specs.k_process.Worlds.{WorldValue}
use Rattle.k_operate.specs.Absorbing.{HasAbsorbedOrphans}
use Rattle.k_operate.specs.Collecting.{KernelCollects}
use Rattle.k_operate.proofs.AbsorbKept.{first_is, first_told, sound_at_last}
use Rattle.k_operate.proofs.KernelCollected.{kernel_few_seen}
use Rattle.k_operate.proofs.Appended.{journal_short, open_once_met, room_for, room_for_end, stands_on}
use Rattle.k_complete.specs.Closing.{CanCollectLast, HasClosedAll, HasCollectedLast}
use Rattle.k_operate.specs.k_process.Over.{BookEnds}
use Rattle.k_complete.proofs.Closings.{absorptions_end_none, end_is, orphans_stay, still_open}

-- what a book that stands tells of processes and shared heaps
module _ (trace : Trace) (b : BookRecord) (stands : BookStands trace b) where
  pub ended_told : all_ended_in trace b.value ≡ all_ended trace (state_after trace b.journal.list)
  ended_told = ap (λ (test : ℕ → Rattle.std.proofs.Common.Bool). list_all test (numbers_below (process_count trace))) (fun_ext (tells trace (state_after trace b.journal.list) b stands.agrees.shows).ended)

  phases_count : length b.value.phases ≡ trace.shared_heaps
  unfolding book_part
  phases_count = ap (λ (p : BookPart). length p.phases) stands.agrees.shows.part ∙ (sound_at_last trace b stands).shape.sized.phases

  pub none_left_in : lowest_orphan b.value.phases b.value.shares ≡ None → IsTrue (no_orphan_in trace b.value)
  none_left_in none =
      none_found (is_orphan_by b.value.phases b.value.shares) (numbers_below trace.shared_heaps)
      (ap (λ n. find (is_orphan_by b.value.phases b.value.shares) (numbers_below n)) (sym phases_count) ∙ none)

-- a book that keeps what its lock asks stands at the end
pub ends_as : (world : WorldValue) (b : BookRecord) → BookKeeps world.trace world.table b → BookEnds world b
ends_as world b k = record { stands = k.stands; table = k.table; first = k.follows.operations; kept = k.kept }

module _ (world : WorldValue) (k : HoldingsValue) (b : BookRecord) (can : CanCollectLast world k b) where
  abbrev now : State
  now = state_after world.trace b.journal.list

  closed_told : b.value.closed ≡ false
  closed_told = (tells world.trace now b can.book.stands.agrees.shows).closed ∙ still_open world.trace b.journal.list can.book.stands.agrees.legal can.book.follows.not_closing

  may_close : Fits b.journal k.note → IsPossible world.trace now Closing
  may_close fits =
      let told = meeting world.trace b.journal b.value Kernel k.note k.value can.kernel.agrees can.book.stands.agrees fits in
      record {
        all_ended = sym (ended_told world.trace b can.book.stands) ∙ can.ended;
        orphans = none_orphaned world.trace b can.book.stands can.orphans;
        idle = ap is_some (not_open world.trace now Kernel k.value (record { shows = told.shows can.kernel.agrees.tail; idle = can.kernel.idle }));
        first = still_open world.trace b.journal.list can.book.stands.agrees.legal can.book.follows.not_closing;
      }

  pub can_close : CanClose world.trace k b
  can_close = record {
    book_stands = can.book.stands;
    kernel_stands = record { agrees = can.kernel.agrees; table = can.kernel.table ∙ sym can.book.table; segment = refl; idle = can.kernel.idle };
    ended = can.ended;
    orphans = can.orphans;
    first = closed_told;
    room = λ fits. room_for world.trace b Closing can.book.stands can.book.follows.operations can.book.events (may_close fits) tt;
  }

  module _ (x : HoldingsValue) (l : BookRecord) (event : Event) (s : HasClosed world.trace k x b l event) where
    appended : HasAppended world.trace b l Closing
    appended = subst (HasAppended world.trace b l) s.event_is s.appended

    stands_closed : BookStands world.trace l
    stands_closed = stands_on world.trace b l Closing can.book.stands appended

    first_closed : AreFirst world.trace l.journal.list
    first_closed =
        subst (AreFirst world.trace) (sym appended.journal)
        (room_after world.trace b.journal.list Closing can.book.stands.keeps can.book.stands.agrees.legal can.book.follows.operations appended.possible tt).first

    room_closed : event_room world.trace ≤ l.event_room
    room_closed = subst (λ (y : BookRecord). event_room world.trace ≤ y.event_room) (sym appended.book_is) can.book.events

    kept_closed : event_room world.trace ≤ l.kept
    kept_closed = subst (λ (y : BookRecord). event_room world.trace ≤ y.kept) (sym appended.book_is) can.book.kept

    table_closed : l.journal.table ≡ world.table
    table_closed = appended.same_table ∙ can.book.table

    pub last_begun : KernelCollects world Begun x
    last_begun = record {
      rules = can.kernel.rules;
      agrees = s.kernel_goes_on.agrees;
      table = s.kernel_goes_on.table ∙ table_closed;
      in_phase = s.kernel_goes_on.in_phase;
      short =
          let few = journal_short world.trace l stands_closed first_closed in
          let same = ap length s.kernel_goes_on.met.list in
          omega (arith, few, same);
      exits = subst (λ (y : HoldingsValue). exit_room world.trace ≤ y.exit_room) (sym s.kernel_goes_on.kernel_is) can.kernel.exits;
      serials = subst (λ (y : HoldingsValue). CanGive world.trace y.serial_rooms 0) (sym s.kernel_goes_on.kernel_is) can.kernel.serials;
      numbers = subst (λ (y : HoldingsValue). segment_count world.trace ≤ y.bound) (sym s.kernel_goes_on.kernel_is) can.kernel.numbers;
    }

    state_closed : state_after world.trace l.journal.list ≡ step world.trace now Closing
    state_closed = ap (state_after world.trace) appended.journal ∙ state_next world.trace b.journal.list Closing

    module _ (y : HoldingsValue) (m : KernelCollects world Marked y) where
      pub can_end_last : CanEndKernel world.trace y l
      can_end_last = record {
        book_stands = stands_closed;
        collects = record { agrees = m.agrees; table = m.table ∙ sym table_closed; in_phase = m.in_phase };
        room = λ fits. room_for_end world.trace l Kernel stands_closed first_closed room_closed (open_once_met world.trace l Kernel y.note y.value stands_closed m.agrees m.agrees.tail m.in_phase fits);
        few = λ fits. kernel_few_seen world y m;
      }

      module _ (z : HoldingsValue) (e : BookRecord) (last : Event) (t : HasEndedKernel world.trace y z l e last) where
        abbrev the_end : Event
        the_end = Ended Kernel t.objects t.bytes t.exits 0

        ended : HasAppended world.trace l e the_end
        ended = subst (HasAppended world.trace l e) t.event_is t.appended

        book_ended : BookEnds world e
        book_ended = record {
          stands = stands_on world.trace l e the_end stands_closed ended;
          table = ended.same_table ∙ table_closed;
          first = subst (AreFirst world.trace) (sym ended.journal)
              (room_after world.trace l.journal.list the_end stands_closed.keeps stands_closed.agrees.legal first_closed ended.possible tt).first;
          kept = subst (λ (y : BookRecord). event_room world.trace ≤ y.kept) (sym ended.book_is) kept_closed;
        }

        kernel_ended : KernelKeeps world.trace world.table z
        kernel_ended = record {
          rules = m.rules;
          agrees = t.kernel_goes_on.agrees;
          table = t.kernel_goes_on.table ∙ book_ended.table;
          idle = t.kernel_goes_on.in_phase;
          exits = subst (λ (w : HoldingsValue). exit_room world.trace ≤ w.exit_room) (sym t.kernel_goes_on.kernel_is) m.exits;
          serials = subst (λ (w : HoldingsValue). CanGive world.trace w.serial_rooms 0) (sym t.kernel_goes_on.kernel_is) m.serials;
          numbers = subst (λ (w : HoldingsValue). segment_count world.trace ≤ w.bound) (sym t.kernel_goes_on.kernel_is) m.numbers;
        }

        the_end_is : the_end ≡ end_of world.trace (step world.trace now Closing) Kernel
        the_end_is = end_is world.trace (state_after world.trace l.journal.list) Kernel t.objects t.bytes t.exits 0 ended.possible ∙ ap (λ (st : State). end_of world.trace st Kernel) state_closed

        journal_ended : e.journal.list ≡ b.journal.list ++ with_end world.trace now Closing (Some Kernel)
        journal_ended =
            ended.journal
            ∙ ap (λ es. es ++ the_end ∷ []) appended.journal
            ∙ append_assoc b.journal.list (Closing ∷ []) (the_end ∷ [])
            ∙ ap (λ ev. b.journal.list ++ Closing ∷ ev ∷ []) the_end_is

        state_ended : state_after world.trace e.journal.list ≡ step world.trace (step world.trace now Closing) the_end
        state_ended = ap (state_after world.trace) ended.journal ∙ state_next world.trace l.journal.list the_end ∙ ap (λ (st : State). step world.trace st the_end) state_closed

        orphans_ended : lowest_orphan e.value.phases e.value.shares ≡ None
        orphans_ended =
            first_is world.trace e book_ended.stands
            ∙ ap (λ (st : State). find (is_orphan st) (numbers_below world.trace.shared_heaps)) state_ended
            ∙ orphans_stay world.trace now t.objects t.bytes t.exits 0 (numbers_below world.trace.shared_heaps)
            ∙ first_told world.trace b can.book.stands None can.orphans

        pub collected_last : HasCollectedLast world z b e
        collected_last = record { kernel = kernel_ended; book = book_ended; orphans = orphans_ended; journal = journal_ended }

module _ (world : WorldValue) (k : HoldingsValue) (ss : List SharedRecord) (b : BookRecord) (rest : RestStands world k ss b) where
  abbrev before : State
  before = state_after world.trace b.journal.list

  -- where some process lives, nothing is closed
  pub closed_none : all_ended_in world.trace b.value ≡ false → HasClosedAll world k ss b b
  closed_none lives = record {
    kernel = rest.kernel;
    shared = rest.shared;
    book = ends_as world b rest.book;
    journal = sym (append-nil b.journal.list)
        ∙ ap (λ t. b.journal.list ++ (if t then (absorptions world.trace before ++ with_end world.trace (run world.trace before (absorptions world.trace before)) Closing (Some Kernel)) else []))
        (sym (sym (ended_told world.trace b rest.book.stands) ∙ lives));
    orphans = λ ended. absurd (false≢true (sym lives ∙ ended));
    closed = λ ended. absurd (false≢true (sym lives ∙ ended));
  }

  module _ (ended : all_ended_in world.trace b.value ≡ true) (x : HoldingsValue) (ts : List SharedRecord) (l : BookRecord) (a : HasAbsorbedOrphans world x ts b l) where
    state_absorbed : state_after world.trace l.journal.list ≡ run world.trace before (absorptions world.trace before)
    state_absorbed = ap (state_after world.trace) a.journal ∙ run_append world.trace (opening world.trace) b.journal.list (absorptions world.trace before)

    ended_still : all_ended_in world.trace l.value ≡ true
    ended_still =
        ended_told world.trace l a.rest.book.stands
        ∙ ap (λ (es : List ℕ). list_all (λ p. among p es) (numbers_below (process_count world.trace)))
        (ap (λ (st : State). st.ended) state_absorbed ∙ absorptions_end_none world.trace (filter (is_orphan before) (numbers_below world.trace.shared_heaps)) before)
        ∙ sym (ended_told world.trace b rest.book.stands)
        ∙ ended

    pub can_collect_last : CanCollectLast world x l
    can_collect_last = record { kernel = a.rest.kernel; book = a.rest.book; ended = ended_still; orphans = a.none }

    pub closed_all : (y : HoldingsValue) (e : BookRecord) → HasCollectedLast world y l e → HasClosedAll world y ts b e
    closed_all y e c = record {
      kernel = c.kernel;
      shared = a.rest.shared;
      book = c.book;
      journal = c.journal
          ∙ ap₂ (λ es (st : State). es ++ with_end world.trace st Closing (Some Kernel)) a.journal state_absorbed
          ∙ append_assoc b.journal.list (absorptions world.trace before) (with_end world.trace (run world.trace before (absorptions world.trace before)) Closing (Some Kernel))
          ∙ ap (λ t. b.journal.list ++ (if t then (absorptions world.trace before ++ with_end world.trace (run world.trace before (absorptions world.trace before)) Closing (Some Kernel)) else []))
          (sym (sym (ended_told world.trace b rest.book.stands) ∙ ended));
      orphans = λ _. none_left_in world.trace e c.book.stands c.orphans;
      closed = λ _. (l.journal.list, _, _, _, _, c.journal);
    }
