-- One event that is appended to the journal.
use Rattle.std.proofs.Common.{◌≡◌, ℕ, ◌+◌, cond, sym, ap, ◌∙◌, subst, List, [], ◌∷◌, ◌++◌, append-nil, arith, IsTrue}
use Rattle.std.specs.List.{AllByRecursion}
use Rattle.std.proofs.lemmas.Bool.{or_left, or_right}
use Rattle.k_laws.specs.k_types.declared.event.Event.{Event}
use Rattle.k_laws.specs.k_types.Agree.{CellValue, BookValue, AreTail}
use Rattle.k_laws.specs.k_types.Cells.{Cell, touches}
use Rattle.k_laws.specs.k_types.Names.{heap_eq}
use Rattle.k_laws.specs.k_types.State.{opening}
use Rattle.k_laws.specs.k_types.Steps.{IsLegalHistory, IsPossible, state_after, touch_count}
use Rattle.k_laws.specs.k_types.Trace.{Trace, IsHeap, segment_of}
use Rattle.k_laws.proofs.Histories.{touches_append, legal_append, state_next}
use Rattle.k_tie.proofs.NameTests.{heap_eq_refl}
use Rattle.k_tie.proofs.Totals.{prefix_longer}
use Rattle.k_tie.specs.Rule.{total_of}
use Rattle.k_tie.specs.Values.{JournalValue, NoteValue}
use Rattle.k_agree.specs.Agreement.{Shows, BookShows, Agrees, BookAgrees}
use Rattle.k_agree.specs.Meeting.{HasMet}
use Rattle.k_agree.specs.Committing.{NotedCell, cells_of, numbers_of, cell_among, touches_after, journal_after, note_after, state_to_come, IsReady, CanCommit, NeedsNothing, IsCommitted}
use Rattle.k_agree.proofs.Meetings.{no_tail}
use Rattle.k_agree.proofs.Totals.{raised}

module _ (trace : Trace) (journal : JournalValue) (event : Event) where
  abbrev more : List Event
  more = journal.list ++ event ∷ []

  pub next_legal : IsLegalHistory trace journal.list → IsPossible trace (state_after trace journal.list) event → IsLegalHistory trace more
  next_legal legal possible = legal_append trace (opening trace) journal.list (event ∷ []) legal (possible, tt)

  pub next_count : (c : Cell) → touch_count trace c more ≡ touch_count trace c journal.list + cond (touches trace (state_after trace journal.list) event c) 1 0
  next_count c = let split = touches_append trace (opening trace) c journal.list (event ∷ []) in omega (arith, split)

  -- a cell that was touched agrees, its unpublished events being local after the next journal
  pub agrees_after : (cell : Cell) (note : NoteValue) (value : CellValue) → HasMet trace journal cell note →
      IsTrue (touches trace (state_after trace journal.list) event cell) → IsLegalHistory trace (more ++ value.tail) →
      AreTail trace cell (state_after trace more) value.tail → Shows trace (state_after trace (more ++ value.tail)) cell value →
      Agrees trace cell (note_after event note) value
  agrees_after cell note value met touched legal local shows =
      let count = next_count cell in
      let one : ◌≡◌ {A = ℕ} (cond (touches trace (state_after trace journal.list) event cell) 1 0) 1 = ap (λ b. cond b 1 0) touched in
      let same : note.list ++ event ∷ [] ≡ more = ap (λ l. l ++ event ∷ []) met.list in
      record {
        there = met.there;
        number = met.number;
        legal = subst (λ l. IsLegalHistory trace (l ++ value.tail)) (sym same) legal;
        tail = subst (λ l. AreTail trace cell (state_after trace l) value.tail) (sym same) local;
        shows = subst (λ l. Shows trace (state_after trace (l ++ value.tail)) cell value) (sym same) shows;
        counted =
            let c = met.counted in
            let next : note.share + 1 ≡ touch_count trace cell more = omega (arith, c, count, one) in
            next ∙ ap (touch_count trace cell) (sym same);
      }

  pub met_after : (cell : Cell) (note : NoteValue) (numbers : List ℕ) → HasMet trace journal cell note →
      IsTrue (touches trace (state_after trace journal.list) event cell) → HasMet trace (journal_after event numbers journal) cell (note_after event note)
  met_after cell note numbers met is =
      let count = next_count cell in
      let one : ◌≡◌ {A = ℕ} (cond (touches trace (state_after trace journal.list) event cell) 1 0) 1 = ap (λ b. cond b 1 0) is in
      record {
        there = met.there;
        number = met.number;
        list = ap (λ l. l ++ event ∷ []) met.list;
        counted = let c = met.counted in omega (arith, c, count, one);
      }

  -- the same for a cell with no unpublished event
  ready_agrees : (n : NotedCell) → IsLegalHistory trace more → IsTrue (touches trace (state_after trace journal.list) event n.cell) → IsReady trace journal event n →
      Agrees trace n.cell (note_after event n.note) n.value
  ready_agrees n legal touched ready =
      let whole : more ++ n.value.tail ≡ more = ap (λ tail. more ++ tail) ready.settled ∙ append-nil more in
      agrees_after n.cell n.note n.value ready.met touched
      (subst (IsLegalHistory trace) (sym whole) legal)
      (subst (AreTail trace n.cell (state_after trace more)) (sym ready.settled) (no_tail trace n.cell (state_after trace more)))
      (subst (λ st. Shows trace st n.cell n.value) (sym (ap (state_after trace) whole ∙ state_next trace journal.list event)) ready.shows)

  all_agree : (touched : List NotedCell) → IsLegalHistory trace more →
      ((c : Cell) → IsTrue (cell_among c (cells_of touched)) → IsTrue (touches trace (state_after trace journal.list) event c)) →
      AllByRecursion (IsReady trace journal event) touched → AllByRecursion (λ n. Agrees trace n.cell (note_after event n.note) n.value) touched
  all_agree [] legal are ready = tt
  all_agree (n ∷ touched) legal are ready = (
    ready_agrees n legal (are n.cell (or_left (heap_eq n.cell n.cell) _ (heap_eq_refl n.cell))) ready.0,
    all_agree touched legal (λ c is. are c (or_right (heap_eq n.cell c) _ is)) ready.1,
  )

  all_met : (touched : List NotedCell) (numbers : List ℕ) →
      ((c : Cell) → IsTrue (cell_among c (cells_of touched)) → IsTrue (touches trace (state_after trace journal.list) event c)) →
      AllByRecursion (IsReady trace journal event) touched → AllByRecursion (λ n. HasMet trace (journal_after event numbers journal) n.cell (note_after event n.note)) touched
  all_met [] numbers are ready = tt
  all_met (n ∷ touched) numbers are ready = (
    met_after n.cell n.note numbers ready.0.met (are n.cell (or_left (heap_eq n.cell n.cell) _ (heap_eq_refl n.cell))),
    all_met touched numbers (λ c is. are c (or_right (heap_eq n.cell c) _ is)) ready.1,
  )

  pub book_after : (numbers : List ℕ) (book : BookValue) → IsLegalHistory trace journal.list → IsPossible trace (state_after trace journal.list) event →
      ((c : Cell) → IsHeap trace c → total_of numbers (segment_of trace c) ≡ touch_count trace c more) →
      BookShows trace (state_to_come trace journal event) book →
      BookAgrees trace (record journal { list = more; touches = numbers }) book
  book_after numbers book legal possible totals shows = record {
    legal = next_legal legal possible;
    shows = subst (λ st. BookShows trace st book) (sym (state_next trace journal.list event)) shows;
    totals = totals;
  }

  module _ (touched : List NotedCell) (book : BookValue) (can : CanCommit trace journal event touched book) where
    raised_here : (c : Cell) → IsHeap trace c → total_of (touches_after (numbers_of touched) journal.touches) (segment_of trace c) ≡ total_of journal.touches (segment_of trace c) + cond (cell_among c (cells_of touched)) 1 0
    raised_here c there = raised trace journal event touched journal.touches c can.ready can.distinct there

    new_totals : (c : Cell) → IsHeap trace c → total_of (touches_after (numbers_of touched) journal.touches) (segment_of trace c) ≡ touch_count trace c more
    new_totals c there =
        let up = raised_here c there in
        let before = can.totals c there in
        let count = next_count c in
        let is : ◌≡◌ {A = ℕ} (cond (cell_among c (cells_of touched)) 1 0) (cond (touches trace (state_after trace journal.list) event c) 1 0) = ap (λ b. cond b 1 0) (can.exactly c) in
        omega (arith, up, before, count, is)

    untouched_fits : NeedsNothing trace journal (journal_after event (numbers_of touched) journal) touched
    untouched_fits other apart agrees fits =
        let up = raised_here other.cell agrees.there in
        let none : ◌≡◌ {A = ℕ} (cond (cell_among other.cell (cells_of touched)) 1 0) 0 = ap (λ b. cond b 1 0) apart in
        let kept : total_of journal.touches (segment_of trace other.cell) ≡ total_of (touches_after (numbers_of touched) journal.touches) (segment_of trace other.cell) = omega (arith, up, none) in
        record {
          prefix = prefix_longer other.note.list journal.list (event ∷ []) fits.prefix;
          share =
              fits.share
              ∙ ap (total_of journal.touches) agrees.number
              ∙ kept
              ∙ ap (total_of (touches_after (numbers_of touched) journal.touches)) (sym agrees.number);
        }

    pub committed : IsCommitted trace journal event touched book
    committed =
        let are : (c : Cell) → IsTrue (cell_among c (cells_of touched)) → IsTrue (touches trace (state_after trace journal.list) event c) = λ c is. sym (can.exactly c) ∙ is in
        record {
          cells_agree = all_agree touched (next_legal can.legal can.possible) are can.ready;
          cells_met = all_met touched (numbers_of touched) are can.ready;
          book_agrees = book_after (touches_after (numbers_of touched) journal.touches) book can.legal can.possible new_totals can.shows;
          raised = raised_here;
          others = untouched_fits;
        }
