-- Collections of the kernel's heap that begin, by the operation and by the closing, are appended.
use Rattle.std.proofs.Common.{◌≡◌, ◌-◌, ◌<◌, ◌^◌, Bool, true, false, cond, not, refl, sym, ap, ◌∙◌, subst, List, [], ◌∷◌, Some, None, IsTrue, find, is_some, ◌&&◌}
use Rattle.std.specs.List.{list_all}
use Rattle.std.proofs.lemmas.Bool.{and_from}
use Rattle.k_types.specs.declared.event.Event.{Event}
use Rattle.k_types.specs.declared.event.Event.TheVariants.{Closing, Done}
use Rattle.k_types.specs.declared.event.Reply.TheVariants.{Done as DoneReply}
use Rattle.k_types.specs.declared.names.Heap.{Heap}
use Rattle.k_types.specs.declared.names.Heap.TheVariants.{Kernel, User}
use Rattle.k_types.specs.declared.op.Op.TheVariants.{KCollect}
use Rattle.k_types.specs.Agree.{CellValue}
use Rattle.k_types.specs.Cells.{BookPart, CellPart, ShownPart, book_part, cells_touched, other_cells, part, shown}
use Rattle.k_types.specs.Effects.{step}
use Rattle.k_types.specs.Numbers.{numbers_below}
use Rattle.k_types.specs.Replies.{first_fault}
use Rattle.k_types.specs.Sound.{IsSound}
use Rattle.k_types.specs.State.{State, is_scanned}
use Rattle.k_types.specs.Steps.{IsPossible, in_range, is_orphan, no_orphan, state_after}
use Rattle.k_types.specs.Trace.{Trace, process_count}
use Rattle.k_types.proofs.NameTests.{heap_eq_refl}
use Rattle.k_laws.specs.BookChanges.{when_closed}
use Rattle.k_laws.specs.CellChanges.{with_scan}
use Rattle.k_laws.specs.Roots.{roots_in}
use Rattle.k_laws.proofs.SoundSteps.{legal_sound}
use Rattle.k_shares.specs.Sharers.{lowest_orphan}
use Rattle.k_commit.proofs.Telling.{tells}
use Rattle.k_laws.specs.PartUpdates.{done_in, with_done}
use Rattle.k_agree.specs.Agreement.{Shows}
use Rattle.k_agree.specs.Committing.{CanCommit, IsCommitted, NotedCell, journal_after, note_after}
use Rattle.k_agree.specs.GivingAway.{with_one_done}
use Rattle.k_agree.specs.Marking.{begun}
use Rattle.k_agree.specs.Meeting.{met_note}
use Rattle.k_agree.proofs.Commits.{committed}
use Rattle.k_agree.proofs.Touched.{as_listed}
use Rattle.k_commit.specs.k_book.Books.{BookRecord}
use Rattle.k_commit.specs.k_cell.Holdings.{HoldingsValue}
use Rattle.k_commit.specs.k_heap.Heaps.{HeapRecord}
use Rattle.k_laws.proofs.LawfulLaws.{possible_events_are_lawful}
use Rattle.k_commit.specs.k_agree.Moves.{noted}
use Rattle.k_commit.specs.k_agree.Shown.{ShowsIdle}
use Rattle.k_commit.proofs.Idle.{book_follows, not_open, part_shown, shows_part, unscanned}
use Rattle.k_laws.specs.Answers.{answer_in, faults_in, reply_in}
use Rattle.k_laws.specs.BookAfter.{book_after, book_operated}
use Rattle.k_laws.specs.CellAfter.{cell_after, cells_operated}
use Rattle.k_laws.proofs.SquaresLaws.{replies_are_told, steps_show_in_the_parts-book, steps_show_in_the_parts-cells}
use Rattle.k_commit.specs.Met.{Before, FitsTheBook, HaveMet}
use Rattle.k_commit.specs.Standing.{BookStands}
use Rattle.k_commit.proofs.Fitting.{done_small}
use Rattle.k_commit.proofs.Meetings.{heap_has_met}
use Rattle.k_commit.proofs.Placed.{sound_now}
use Rattle.k_commit.proofs.Setting.{process_known, process_lives}
use Rattle.k_collect.specs.Begun.{HasBegunKernel, HasClosed}
use Rattle.k_collect.specs.Collecting.{CanBeginKernel, CanClose}
use Rattle.k_commit.specs.k_cell.Changes.{HasGrayed}
use Rattle.k_collect.specs.Graying.{is_root_by}
use Rattle.k_collect.proofs.Begins.{gray_right, marks_right}
use Rattle.k_laws.proofs.Untouched.{one_counted}

-- no element of which none is found passes the test
pub none_found : {A : Type 0} (p : A → Bool) (xs : List A) → find p xs ≡ None → list_all (λ x. not (p x)) xs ≡ true
none_found p [] e = refl
none_found p (x ∷ xs) e = go (λ rest. none_found p xs rest) (p x) e
  where
    go : (find p xs ≡ None → list_all (λ y. not (p y)) xs ≡ true) → (b : Bool) → cond b (Some x) (find p xs) ≡ None → (not b && list_all (λ y. not (p y)) xs) ≡ true
    go rest true is = absurd (cc is)
    go rest false is = rest is

module _ (trace : Trace) (b : BookRecord) (stands : BookStands trace b) (orphans : lowest_orphan b.value.phases b.value.shares ≡ None) where
  abbrev at_last : State
  at_last = state_after trace b.journal.list

  pub sound_at_last : IsSound trace at_last
  sound_at_last = legal_sound trace b.journal.list stands.keeps.limits stands.agrees.legal

  -- the book tells no orphan, so there is none
  pub none_orphaned : IsTrue (no_orphan trace at_last)
  none_orphaned =
      none_found (is_orphan at_last) (numbers_below trace.shared_heaps)
      (sym ((tells trace at_last b stands.agrees.shows).orphan sound_at_last.shape.sized.phases) ∙ orphans)

-- the operation `kcollect`
module _ (trace : Trace) (c : HeapRecord) (k : HoldingsValue) (b : BookRecord) (can : CanBeginKernel trace c k b) (told : FitsTheBook trace (User c.pid) c.note c.value b) (kernel_told : FitsTheBook trace Kernel k.note k.value b) where
  abbrev before : Before
  before = record { trace = trace; cell = record c { note = met_note b.journal c.note }; book = b }

  pub both_met : HaveMet before
  both_met = heap_has_met trace c (record c { note = met_note b.journal c.note }) b b (record { cell_is = refl; book_is = refl; told = told }) can.book_stands can.heap_stands

  abbrev now : State
  now = state_after trace b.journal.list

  abbrev heap : Heap
  heap = User c.pid

  abbrev kcollect : Event
  kcollect = Done c.pid KCollect DoneReply

  kernel_shows : Shows trace now Kernel k.value
  kernel_shows = kernel_told.shows.shows can.kernel_stands.agrees.tail

  kcollect_answered : DoneReply ≡ reply_in trace (book_part trace now) (part trace now) c.pid.0 KCollect
  unfolding reply_in faults_in first_fault answer_in
  kcollect_answered = refl

  kcollect_touches : cells_touched trace now kcollect ≡ heap ∷ Kernel ∷ []
  unfolding cells_touched other_cells
  kcollect_touches = refl

  own_idle : ShowsIdle trace now heap c.value
  own_idle = record { shows = both_met.after.shows; idle = can.heap_stands.idle }

  kernel_idle : ShowsIdle trace now Kernel k.value
  kernel_idle = record { shows = kernel_shows; idle = can.kernel_stands.idle }

  kcollect_possible : IsPossible trace now kcollect
  unfolding in_range
  kcollect_possible = record {
    known = process_known before both_met;
    lives = process_lives before both_met;
    in_range = refl;
    idle =
        ap (list_all (λ k. not (is_scanned now.scans k))) kcollect_touches
        ∙ and_from _ _ (unscanned trace now heap c.value own_idle) (and_from _ _ (unscanned trace now Kernel k.value kernel_idle) refl);
    orphans = none_orphaned trace b can.book_stands can.orphans;
    replied = kcollect_answered ∙ sym (replies_are_told trace now c.pid.0 KCollect can.book_stands.keeps.limits (process_known before both_met) (process_lives before both_met) refl);
  }

  own_part_then : part trace (step trace now kcollect) heap ≡ with_done (part trace now heap)
  unfolding cell_after cells_operated
  own_part_then =
      steps_show_in_the_parts-cells trace now kcollect (sound_now before both_met) kcollect_possible heap
      ∙ ap (λ t. cond t (with_done (part trace now heap)) (part trace now heap)) (heap_eq_refl heap)

  kernel_part_then : part trace (step trace now kcollect) Kernel ≡ with_scan (roots_in Kernel (book_part trace now) (part trace now Kernel)) (part trace now Kernel)
  unfolding cell_after cells_operated
  kernel_part_then = steps_show_in_the_parts-cells trace now kcollect (sound_now before both_met) kcollect_possible Kernel

  kcollect_book : book_part trace (step trace now kcollect) ≡ book_part trace now
  unfolding book_after book_operated
  kcollect_book = steps_show_in_the_parts-book trace now kcollect can.book_stands.keeps.limits (sound_now before both_met) kcollect_possible

  pub kernel_done_fits : done_in c.value.process < 2 ^ 64 - 1
  kernel_done_fits = done_small before both_met (can.room told.fits kernel_told.fits)

  module _ (w : CellValue) (grayed : HasGrayed (is_root_by Kernel b k.value) (begun [] k.value) w) where
    own_then : ShowsIdle trace (step trace now kcollect) heap (with_one_done c.value)
    own_then = shows_part trace (step trace now kcollect) heap (with_one_done c.value) can.heap_stands.idle (ap with_done (part_shown trace now heap c.value own_idle) ∙ sym own_part_then)

    kernel_then : Shows trace (step trace now kcollect) Kernel (begun w.gray k.value)
    kernel_then = record {
      part = kernel_shows.part ∙ ap shown (sym kernel_part_then);
      marks = marks_right trace now kcollect Kernel b k.value w (sound_now before both_met) refl can.book_stands.agrees.shows kernel_shows grayed k.value;
    }

    abbrev both : List NotedCell
    both = noted heap (met_note b.journal c.note) (with_one_done c.value) ∷ noted Kernel (met_note b.journal k.note) (begun w.gray k.value) ∷ []

    both_commit : CanCommit trace b.journal kcollect both b.value
    both_commit = record {
      legal = can.book_stands.agrees.legal;
      totals = can.book_stands.agrees.totals;
      possible = kcollect_possible;
      exactly = (as_listed trace now kcollect (heap ∷ Kernel ∷ []) can.book_stands.keeps.limits kcollect_possible kcollect_touches).1;
      distinct = (as_listed trace now kcollect (heap ∷ Kernel ∷ []) can.book_stands.keeps.limits kcollect_possible kcollect_touches).0;
      ready = (
        record { met = both_met.after.met; settled = can.heap_stands.settled; shows = own_then.shows },
        (record { met = kernel_told.shows.met; settled = can.kernel_stands.agrees.tail; shows = kernel_then }, tt),
      );
      shows = book_follows trace now (step trace now kcollect) b.value b.value can.book_stands.agrees.shows (record { homes = refl; owners = refl }) (can.book_stands.agrees.shows.part ∙ sym kcollect_book);
    }

    both_after : IsCommitted trace b.journal kcollect both b.value
    both_after = committed trace b.journal kcollect both b.value both_commit

    begins : HasBegunKernel trace c (record c { note = note_after kcollect (met_note b.journal c.note); value = with_one_done c.value })
        k (record k { note = note_after kcollect (met_note b.journal k.note); value = begun w.gray k.value })
        b (record b { journal = journal_after kcollect (c.note.cell ∷ k.note.cell ∷ []) b.journal }) kcollect
    unfolding part
    begins = record {
      event_is = refl;
      appended = record { possible = kcollect_possible; lawful = possible_events_are_lawful trace b.journal.list kcollect can.book_stands.keeps.limits can.book_stands.agrees.legal kcollect_possible; journal = refl; same_table = refl; book_is = refl; agrees = both_after.book_agrees };
      heap_goes_on = record { cell_is = refl; table = can.heap_stands.table; settled = can.heap_stands.settled; in_phase = can.heap_stands.idle; met = both_after.cells_met.0; agrees = both_after.cells_agree.0 };
      kernel_goes_on = record { kernel_is = refl; table = can.kernel_stands.table; in_phase = refl; met = both_after.cells_met.1.0; agrees = both_after.cells_agree.1.0 };
      done = one_counted c.value.process _ (ap (λ (s : ShownPart). s.process) both_met.after.shows.part);
      gray = gray_right trace now kcollect Kernel b k.value w (sound_now before both_met) refl can.book_stands.agrees.shows kernel_shows grayed (ap (λ (p : CellPart). p.scan) kernel_part_then);
    }

    pub kernel_begins : HasBegunKernel trace c (record c { note = note_after kcollect (met_note b.journal c.note); value = with_one_done c.value })
        k (record k { note = note_after kcollect (met_note b.journal k.note); value = w })
        b (record b { journal = journal_after kcollect (c.note.cell ∷ k.note.cell ∷ []) b.journal }) kcollect
    kernel_begins =
        subst (λ (x : CellValue). HasBegunKernel trace c (record c { note = note_after kcollect (met_note b.journal c.note); value = with_one_done c.value })
        k (record k { note = note_after kcollect (met_note b.journal k.note); value = x })
        b (record b { journal = journal_after kcollect (c.note.cell ∷ k.note.cell ∷ []) b.journal }) kcollect) (sym grayed.rest) begins

-- the closing
module _ (trace : Trace) (k : HoldingsValue) (b : BookRecord) (can : CanClose trace k b) (told : FitsTheBook trace Kernel k.note k.value b) where
  abbrev st : State
  st = state_after trace b.journal.list

  last_shows : Shows trace st Kernel k.value
  last_shows = told.shows.shows can.kernel_stands.agrees.tail

  last_sound : IsSound trace st
  last_sound = sound_at_last trace b can.book_stands can.orphans

  last_idle : ShowsIdle trace st Kernel k.value
  last_idle = record { shows = last_shows; idle = can.kernel_stands.idle }

  closing_touches : cells_touched trace st Closing ≡ Kernel ∷ []
  unfolding cells_touched
  closing_touches = refl

  closing_possible : IsPossible trace st Closing
  unfolding book_part
  closing_possible = record {
    all_ended = sym (ap (λ (p : BookPart). list_all (λ q. p.ended q) (numbers_below (process_count trace))) can.book_stands.agrees.shows.part) ∙ can.ended;
    orphans = none_orphaned trace b can.book_stands can.orphans;
    idle = ap is_some (not_open trace st Kernel k.value last_idle);
    first = sym (ap (λ (p : BookPart). p.closed) can.book_stands.agrees.shows.part) ∙ can.first;
  }

  closing_part : part trace (step trace st Closing) Kernel ≡ with_scan (roots_in Kernel (book_part trace st) (part trace st Kernel)) (part trace st Kernel)
  unfolding cell_after
  closing_part = steps_show_in_the_parts-cells trace st Closing last_sound closing_possible Kernel

  closing_book : book_part trace (step trace st Closing) ≡ when_closed (book_part trace st)
  unfolding book_after
  closing_book = steps_show_in_the_parts-book trace st Closing can.book_stands.keeps.limits last_sound closing_possible

  module _ (w : CellValue) (grayed : HasGrayed (is_root_by Kernel b k.value) (begun [] k.value) w) where
    closing_shows : Shows trace (step trace st Closing) Kernel (begun w.gray k.value)
    closing_shows = record {
      part = last_shows.part ∙ ap shown (sym closing_part);
      marks = marks_right trace st Closing Kernel b k.value w last_sound refl can.book_stands.agrees.shows last_shows grayed k.value;
    }

    abbrev kernel_alone : List NotedCell
    kernel_alone = noted Kernel (met_note b.journal k.note) (begun w.gray k.value) ∷ []

    closing_commits : CanCommit trace b.journal Closing kernel_alone (record b.value { closed = true })
    closing_commits = record {
      legal = can.book_stands.agrees.legal;
      totals = can.book_stands.agrees.totals;
      possible = closing_possible;
      exactly = (as_listed trace st Closing (Kernel ∷ []) can.book_stands.keeps.limits closing_possible closing_touches).1;
      distinct = (as_listed trace st Closing (Kernel ∷ []) can.book_stands.keeps.limits closing_possible closing_touches).0;
      ready = (record { met = told.shows.met; settled = can.kernel_stands.agrees.tail; shows = closing_shows }, tt);
      shows = book_follows trace st (step trace st Closing) b.value (record b.value { closed = true }) can.book_stands.agrees.shows (record { homes = refl; owners = refl })
          (ap when_closed can.book_stands.agrees.shows.part ∙ sym closing_book);
    }

    closing_after : IsCommitted trace b.journal Closing kernel_alone (record b.value { closed = true })
    closing_after = committed trace b.journal Closing kernel_alone (record b.value { closed = true }) closing_commits

    closed : HasClosed trace k (record k { note = note_after Closing (met_note b.journal k.note); value = begun w.gray k.value })
        b (record b { journal = journal_after Closing (k.note.cell ∷ []) b.journal; value = record b.value { closed = true } }) Closing
    closed = record {
      event_is = refl;
      appended = record { possible = closing_possible; lawful = possible_events_are_lawful trace b.journal.list Closing can.book_stands.keeps.limits can.book_stands.agrees.legal closing_possible; journal = refl; same_table = refl; book_is = refl; agrees = closing_after.book_agrees };
      kernel_goes_on = record { kernel_is = refl; table = can.kernel_stands.table; in_phase = refl; met = closing_after.cells_met.0; agrees = closing_after.cells_agree.0 };
      gray = gray_right trace st Closing Kernel b k.value w last_sound refl can.book_stands.agrees.shows last_shows grayed (ap (λ (p : CellPart). p.scan) closing_part);
    }

    pub kernel_closes : HasClosed trace k (record k { note = note_after Closing (met_note b.journal k.note); value = w })
        b (record b { journal = journal_after Closing (k.note.cell ∷ []) b.journal; value = record b.value { closed = true } }) Closing
    kernel_closes =
        subst (λ (x : CellValue). HasClosed trace k (record k { note = note_after Closing (met_note b.journal k.note); value = x })
        b (record b { journal = journal_after Closing (k.note.cell ∷ []) b.journal; value = record b.value { closed = true } }) Closing) (sym grayed.rest) closed
