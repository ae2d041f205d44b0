-- Events that begin a collection, with the roots of the heap gray, are appended.
use Rattle.std.proofs.Common.{◌≡◌, ◌-◌, ◌<◌, ◌^◌, cond, not, refl, sym, ap, ◌∙◌, subst, List, [], ◌∷◌, length, Some, option_map}
use Rattle.std.specs.List.{list_all}
use Rattle.std.proofs.lemmas.Bool.{and_from}
use Rattle.k_types.specs.declared.event.Event.{Event}
use Rattle.k_types.specs.declared.event.Event.TheVariants.{Done}
use Rattle.k_types.specs.declared.event.Reply.TheVariants.{Done as DoneReply}
use Rattle.k_types.specs.declared.names.CellPhase.TheVariants.{Begun}
use Rattle.k_types.specs.declared.names.Heap.{Heap}
use Rattle.k_types.specs.declared.names.Heap.TheVariants.{User}
use Rattle.k_types.specs.declared.names.Name.{Name}
use Rattle.k_types.specs.declared.op.Op.TheVariants.{Collect}
use Rattle.k_types.specs.Agree.{AreMarks, CellValue}
use Rattle.k_types.specs.Bounds.{register_count}
use Rattle.k_types.specs.Cells.{CellPart, ShownPart, book_part, cells_touched, other_cells, part, shown}
use Rattle.k_types.specs.Effects.{step}
use Rattle.k_types.specs.Names.{name_among}
use Rattle.k_types.specs.Reach.{roots_of}
use Rattle.k_types.specs.Replies.{first_fault}
use Rattle.k_types.specs.Sound.{IsSound}
use Rattle.k_types.specs.State.{State, is_scanned, scan_of}
use Rattle.k_types.specs.Steps.{IsPossible, in_range, state_after}
use Rattle.k_types.specs.Trace.{Trace}
use Rattle.k_types.proofs.Lists.{some_one}
use Rattle.k_types.proofs.NameTests.{heap_eq_refl}
use Rattle.k_laws.specs.BookChanges.{registers_in}
use Rattle.k_laws.specs.CellChanges.{with_scan}
use Rattle.k_laws.specs.Roots.{roots_in}
use Rattle.k_laws.proofs.RootsTold.{roots_told}
use Rattle.k_laws.specs.PartUpdates.{done_in, process_with_done, with_done}
use Rattle.k_agree.specs.Agreement.{BookShows, Shows}
use Rattle.k_agree.specs.Committing.{CanCommit, IsCommitted, NotedCell, journal_after, note_after}
use Rattle.k_agree.specs.GivingAway.{with_one_done}
use Rattle.k_agree.specs.Marking.{begun, heap_begun_by}
use Rattle.k_agree.specs.Meeting.{met_note}
use Rattle.k_agree.proofs.Begun.{begun_gray}
use Rattle.k_agree.proofs.Commits.{committed}
use Rattle.k_agree.proofs.Touched.{as_listed}
use Rattle.k_commit.specs.k_book.Books.{BookRecord}
use Rattle.k_commit.specs.k_heap.Heaps.{HeapRecord}
use Rattle.k_laws.proofs.LawfulLaws.{possible_events_are_lawful}
use Rattle.k_commit.specs.k_agree.Moves.{noted}
use Rattle.k_commit.specs.k_agree.Shown.{ShowsIdle}
use Rattle.k_commit.proofs.Idle.{book_follows, unscanned}
use Rattle.k_laws.specs.Answers.{answer_in, faults_in, reply_in}
use Rattle.k_laws.specs.BookAfter.{book_after, book_operated}
use Rattle.k_laws.specs.CellAfter.{cell_after, cells_operated}
use Rattle.k_laws.proofs.SquaresLaws.{replies_are_told, steps_show_in_the_parts-book, steps_show_in_the_parts-cells}
use Rattle.k_commit.specs.Met.{Before, FitsTheBook, HaveMet}
use Rattle.k_commit.specs.Standing.{BookStands, HeapStands}
use Rattle.k_commit.proofs.Fitting.{done_small}
use Rattle.k_commit.proofs.Meetings.{heap_has_met}
use Rattle.k_commit.proofs.Placed.{sound_now}
use Rattle.k_commit.proofs.Setting.{process_known, process_lives}
use Rattle.k_collect.specs.Begun.{HasBegunHeap}
use Rattle.k_collect.specs.Collecting.{CanBeginHeap}
use Rattle.k_commit.specs.k_cell.Changes.{HasGrayed}
use Rattle.k_collect.specs.Graying.{is_root_by}
use Rattle.k_collect.proofs.Roots.{gray_at_roots, registers_all}
use Rattle.k_laws.proofs.Untouched.{one_counted}

-- what is shown once one more operation is done
abbrev shown_done : ShownPart → ShownPart
shown_done s = record s { process = option_map process_with_done s.process }

module _ (trace : Trace) (st : State) (event : Event) (heap : Heap) (b : BookRecord) (v w : CellValue) (sound : IsSound trace st) (begins : heap_begun_by event ≡ Some heap)
    (seen : BookShows trace st b.value) (shows : Shows trace st heap v) (grayed : HasGrayed (is_root_by heap b v) (begun [] v) w) where
  pub marks_right : (after : CellValue) → AreMarks Begun (scan_of (step trace st event).scans heap) (begun w.gray after)
  marks_right after = begun_gray trace st event heap b.value v after w.gray sound begins seen shows (gray_at_roots trace st heap b v sound seen shows w grayed)

  pub gray_right : (part trace (step trace st event) heap).scan ≡ Some (roots_in heap (book_part trace st) (part trace st heap)) → (n : Name) →
      name_among n w.gray ≡ name_among n (roots_of trace st heap)
  unfolding part
  gray_right opened n =
      let marks = marks_right v in
      marks.2 n ∙ ap (name_among n) (some_one (sym marks.1 ∙ opened) ∙ sym (roots_told trace st heap sound))

-- the operation `collect`
module _ (trace : Trace) (c : HeapRecord) (b : BookRecord) (stands : BookStands trace b) (heap_stands : HeapStands trace c b) (told : FitsTheBook trace (User c.pid) c.note c.value b) where
  abbrev before : Before
  before = record { trace = trace; cell = record c { note = met_note b.journal c.note }; book = b }

  pub met : HaveMet before
  met = heap_has_met trace c (record c { note = met_note b.journal c.note }) b b (record { cell_is = refl; book_is = refl; told = told }) stands heap_stands

  abbrev now : State
  now = state_after trace b.journal.list

  abbrev heap : Heap
  heap = User c.pid

  abbrev collect : Event
  collect = Done c.pid Collect DoneReply

  collect_answered : DoneReply ≡ reply_in trace (book_part trace now) (part trace now) c.pid.0 Collect
  unfolding reply_in faults_in first_fault answer_in
  collect_answered = refl

  collect_touches : cells_touched trace now collect ≡ heap ∷ []
  unfolding cells_touched other_cells
  collect_touches = refl

  own_idle : ShowsIdle trace now heap c.value
  own_idle = record { shows = met.after.shows; idle = heap_stands.idle }

  collect_possible : IsPossible trace now collect
  unfolding in_range
  collect_possible = record {
    known = process_known before met;
    lives = process_lives before met;
    in_range = refl;
    idle = ap (list_all (λ k. not (is_scanned now.scans k))) collect_touches ∙ and_from _ _ (unscanned trace now heap c.value own_idle) refl;
    orphans = refl;
    replied = collect_answered ∙ sym (replies_are_told trace now c.pid.0 Collect stands.keeps.limits (process_known before met) (process_lives before met) refl);
  }

  abbrev own_part : CellPart
  own_part = part trace now heap

  abbrev scanned : CellPart
  scanned = with_scan (roots_in heap (book_part trace now) own_part) own_part

  collect_part : part trace (step trace now collect) heap ≡ with_done scanned
  unfolding cell_after cells_operated
  collect_part =
      steps_show_in_the_parts-cells trace now collect (sound_now before met) collect_possible heap
      ∙ ap (λ t. cond t (with_done (cond t scanned own_part)) (cond t scanned own_part)) (heap_eq_refl heap)

  collect_book : book_part trace (step trace now collect) ≡ book_part trace now
  unfolding book_after book_operated
  collect_book = steps_show_in_the_parts-book trace now collect stands.keeps.limits (sound_now before met) collect_possible

  module _ (w : CellValue) (grayed : HasGrayed (is_root_by heap b c.value) (begun [] c.value) w) where
    abbrev value : CellValue
    value = with_one_done (begun w.gray c.value)

    shows_then : Shows trace (step trace now collect) heap value
    shows_then = record {
      part = ap shown_done met.after.shows.part ∙ ap shown (sym collect_part);
      marks = marks_right trace now collect heap b c.value w (sound_now before met) refl stands.agrees.shows met.after.shows grayed (with_one_done c.value);
    }

    abbrev touched : List NotedCell
    touched = noted heap (met_note b.journal c.note) value ∷ []

    can : CanCommit trace b.journal collect touched b.value
    can = record {
      legal = stands.agrees.legal;
      totals = stands.agrees.totals;
      possible = collect_possible;
      exactly = (as_listed trace now collect (heap ∷ []) stands.keeps.limits collect_possible collect_touches).1;
      distinct = (as_listed trace now collect (heap ∷ []) stands.keeps.limits collect_possible collect_touches).0;
      ready = (record { met = met.after.met; settled = heap_stands.settled; shows = shows_then }, tt);
      shows = book_follows trace now (step trace now collect) b.value b.value stands.agrees.shows (record { homes = refl; owners = refl }) (stands.agrees.shows.part ∙ sym collect_book);
    }

    after : IsCommitted trace b.journal collect touched b.value
    after = committed trace b.journal collect touched b.value can

    begins : HasBegunHeap trace c (record c { note = note_after collect (met_note b.journal c.note); value = value }) b (record b { journal = journal_after collect (c.note.cell ∷ []) b.journal }) collect
    unfolding part
    begins = record {
      event_is = refl;
      appended = record { possible = collect_possible; lawful = possible_events_are_lawful trace b.journal.list collect stands.keeps.limits stands.agrees.legal collect_possible; journal = refl; same_table = refl; book_is = refl; agrees = after.book_agrees };
      heap_goes_on = record { cell_is = refl; table = heap_stands.table; settled = heap_stands.settled; in_phase = refl; met = after.cells_met.0; agrees = after.cells_agree.0 };
      done = one_counted c.value.process _ (ap (λ (s : ShownPart). s.process) met.after.shows.part);
      gray = gray_right trace now collect heap b c.value w (sound_now before met) refl stands.agrees.shows met.after.shows grayed (ap (λ (p : CellPart). p.scan) collect_part);
    }

    pub heap_begins : HasBegunHeap trace c (record c { note = note_after collect (met_note b.journal c.note); value = with_one_done w }) b (record b { journal = journal_after collect (c.note.cell ∷ []) b.journal }) collect
    heap_begins =
        subst (λ (x : CellValue). HasBegunHeap trace c (record c { note = note_after collect (met_note b.journal c.note); value = with_one_done x }) b (record b { journal = journal_after collect (c.note.cell ∷ []) b.journal }) collect)
        (sym grayed.rest) begins

-- what the calls between the meeting and the append ask
module _ (trace : Trace) (c : HeapRecord) (b : BookRecord) (can : CanBeginHeap trace c b) (told : FitsTheBook trace (User c.pid) c.note c.value b) where
  pub registers_there : length (registers_in c.value.process) ≡ register_count
  registers_there = registers_all trace (now trace c b can.book_stands can.heap_stands told) c.pid c.value (sound_now (before trace c b can.book_stands can.heap_stands told) (met trace c b can.book_stands can.heap_stands told))
      (met trace c b can.book_stands can.heap_stands told).after.shows (process_known (before trace c b can.book_stands can.heap_stands told) (met trace c b can.book_stands can.heap_stands told))

  pub done_fits : done_in c.value.process < 2 ^ 64 - 1
  done_fits = done_small (before trace c b can.book_stands can.heap_stands told) (met trace c b can.book_stands can.heap_stands told) (can.room told.fits)

  pub begun_heap : (w : CellValue) → HasGrayed (is_root_by (User c.pid) b c.value) (begun [] c.value) w →
      HasBegunHeap trace c (record c { note = note_after (Done c.pid Collect DoneReply) (met_note b.journal c.note); value = with_one_done w })
      b (record b { journal = journal_after (Done c.pid Collect DoneReply) (c.note.cell ∷ []) b.journal }) (Done c.pid Collect DoneReply)
  begun_heap w grayed = heap_begins trace c b can.book_stands can.heap_stands told w grayed
