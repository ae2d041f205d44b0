-- A cell publishes the oldest of its unpublished events.
use Rattle.std.proofs.Common.{◌≡◌, ℕ, cond, refl, sym, ap, ◌∙◌, subst, List, [], ◌∷◌, ◌++◌, append_assoc, arith, map, Option}
use Rattle.k_laws.specs.k_types.declared.event.Event.{Event}
use Rattle.k_laws.specs.k_types.declared.event.Event.TheVariants.{Done, Ended, Absorbed, Closing}
use Rattle.k_laws.specs.k_types.declared.names.CellPhase.{CellPhase}
use Rattle.k_laws.specs.k_types.declared.names.CellPhase.TheVariants.{Idle, Begun, Marked}
use Rattle.k_laws.specs.k_types.declared.names.Name.{Name}
use Rattle.k_laws.specs.k_types.Agree.{CellValue, BookValue, AreMarks}
use Rattle.k_laws.specs.k_types.Cells.{Cell, touches, book_part}
use Rattle.k_laws.specs.k_types.Effects.{step}
use Rattle.k_laws.specs.k_types.Local.{AreLocal}
use Rattle.k_laws.specs.k_types.Names.{heap_eq}
use Rattle.k_laws.specs.k_types.Numbers.{numbers_below}
use Rattle.k_laws.specs.k_types.Owners.{user, owner_of}
use Rattle.k_laws.specs.k_types.State.{State, opening, scan_of}
use Rattle.k_laws.specs.k_types.Steps.{IsLegalHistory, IsPossible, state_after, touch_count}
use Rattle.k_laws.specs.k_types.Trace.{Trace, IsHeap, segment_of, segment_count}
use Rattle.k_laws.proofs.Histories.{legal_rest, state_next}
use Rattle.k_tie.proofs.NameTests.{heap_eq_refl}
use Rattle.k_laws.proofs.Tails.{local_touches, book_after}
use Rattle.k_laws.proofs.SameRead.{owners_same}
use Rattle.k_tie.specs.Rule.{total_of}
use Rattle.k_tie.specs.Values.{JournalValue, NoteValue}
use Rattle.k_agree.specs.Committing.{journal_after, note_after}
use Rattle.k_agree.specs.Agreement.{Shows, Agrees, BookAgrees}
use Rattle.k_agree.specs.Meeting.{HasMet}
use Rattle.k_agree.specs.Publishing.{PublishesItsOldest, PublishesAll, journal_after_all, note_after_all}
use Rattle.k_agree.proofs.Commits.{agrees_after, met_after, next_count, book_after as book_agrees_after}
use Rattle.k_agree.proofs.Totals.{one_number}

marks_kept : (phase : CellPhase) (scan : Option (List Name)) (value : CellValue) (rest : List Event) → AreMarks phase scan value → AreMarks phase scan (record value { tail = rest })
marks_kept Idle scan value rest m = m
marks_kept Begun scan value rest m = m
marks_kept Marked scan value rest m = m

-- what is unpublished is not shown
shows_kept : (trace : Trace) (st : State) (cell : Cell) (value : CellValue) (rest : List Event) → Shows trace st cell value → Shows trace st cell (record value { tail = rest })
shows_kept trace st cell value rest s = record { part = s.part; marks = marks_kept value.collection (scan_of st.scans cell) value rest s.marks }

-- an own event in its place
record IsOwn (trace : Trace) (p : ℕ) (st : State) (event : Event) (rest : List Event) : Type 0 where
  alone : (c : Cell) → touches trace st event c ≡ heap_eq (user p) c
  book : book_part trace (step trace st event) ≡ book_part trace st
  rest_local : AreLocal trace p (step trace st event) rest

is_own : (trace : Trace) (p : ℕ) (st : State) (event : Event) (rest : List Event) → AreLocal trace p st (event ∷ rest) → IsPossible trace st event → IsOwn trace p st event rest
unfolding step
is_own trace p st (Done pid op said) rest l may =
    let here = ap (λ q. Rattle.k_laws.specs.k_types.Local.is_local st q op) l.0 ∙ l.1 in
    record {
      alone = λ c. local_touches trace st pid op said c may.known may.lives here ∙ ap (λ q. heap_eq (user q) c) l.0;
      book = book_after trace pid.0 st op may.known may.lives here;
      rest_local = l.2;
    }
is_own trace p st (Ended h a b c d) rest l may = absurd l
is_own trace p st (Absorbed s) rest l may = absurd l
is_own trace p st Closing rest l may = absurd l

module _ (trace : Trace) (journal : JournalValue) (p : ℕ) (note : NoteValue) (value : CellValue) (event : Event) (rest : List Event) (book : BookValue)
    (a : Agrees trace (user p) note value) (b : BookAgrees trace journal book) (list : note.list ≡ journal.list) (tail : value.tail ≡ event ∷ rest) where
  abbrev now : State
  now = state_after trace journal.list

  met : HasMet trace journal (user p) note
  met = record { there = a.there; number = a.number; list = list; counted = a.counted ∙ ap (touch_count trace (user p)) list }

  whole : note.list ++ value.tail ≡ journal.list ++ event ∷ rest
  whole = ap (λ l. l ++ value.tail) list ∙ ap (λ t. journal.list ++ t) tail

  legal : IsLegalHistory trace (journal.list ++ event ∷ rest)
  legal = subst (IsLegalHistory trace) whole a.legal

  possible : IsPossible trace now event
  possible = (legal_rest trace (opening trace) journal.list (event ∷ rest) legal).0

  local : AreLocal trace p now (event ∷ rest)
  local = subst (AreLocal trace p now) tail (subst (λ l. AreLocal trace p (state_after trace l) value.tail) list a.tail)

  own : IsOwn trace p now event rest
  own = is_own trace p now event rest local possible

  apart : (journal.list ++ event ∷ []) ++ rest ≡ journal.list ++ event ∷ rest
  apart = append_assoc journal.list (event ∷ []) rest

  same_homes : owner_of trace (step trace now event) ≡ owner_of trace now
  same_homes = owners_same trace (step trace now event) now own.book

  totals : (c : Cell) → IsHeap trace c → total_of (note.cell ∷ journal.touches) (segment_of trace c) ≡ touch_count trace c (journal.list ++ event ∷ [])
  totals c there =
      let before = b.totals c there in
      let count = next_count trace journal event c in
      let one = ap (λ m. Rattle.k_tie.specs.k_types.Counts.one_if_same m (segment_of trace c)) a.number ∙ one_number trace (user p) c a.there there in
      let is : ◌≡◌ {A = ℕ} (cond (touches trace now event c) 1 0) (cond (heap_eq (user p) c) 1 0) = ap (λ b. cond b 1 0) (own.alone c) in
      omega (arith, before, count, one, is)

  pub publishes : PublishesItsOldest trace journal p note value event rest book
  publishes = record {
    possible = possible;
    alone = own.alone;
    cell_agrees = agrees_after trace journal event (user p) note (record value { tail = rest }) met (own.alone (user p) ∙ heap_eq_refl (user p))
        (subst (IsLegalHistory trace) (sym apart) legal)
        (subst (λ st. AreLocal trace p st rest) (sym (state_next trace journal.list event)) own.rest_local)
        (shows_kept trace (state_after trace ((journal.list ++ event ∷ []) ++ rest)) (user p) value rest
        (subst (λ l. Shows trace (state_after trace l) (user p) value) (whole ∙ sym apart) a.shows));
    book_agrees = book_agrees_after trace journal event (note.cell ∷ journal.touches) book b.legal possible totals
        (record {
          part = b.shows.part ∙ sym own.book;
          homes = b.shows.homes ∙ ap (λ owner. map owner (numbers_below (segment_count trace))) (sym same_homes);
        });
  }

  pub met_next : HasMet trace (journal_after event (note.cell ∷ []) journal) (user p) (note_after event note)
  met_next = met_after trace journal event (user p) note (note.cell ∷ []) met (own.alone (user p) ∙ heap_eq_refl (user p))

all_of : (trace : Trace) (p : ℕ) (value : CellValue) (book : BookValue) (tail : List Event) (journal : JournalValue) (note : NoteValue) → Agrees trace (user p) note (record value { tail = tail }) →
    BookAgrees trace journal book → HasMet trace journal (user p) note →
    Agrees trace (user p) (note_after_all tail note) (record value { tail = [] })
    × BookAgrees trace (journal_after_all tail note.cell journal) book
    × HasMet trace (journal_after_all tail note.cell journal) (user p) (note_after_all tail note)
all_of trace p value book [] journal note a b m = (a, b, m)
all_of trace p value book (event ∷ tail) journal note a b m =
    let one = publishes trace journal p note (record value { tail = event ∷ tail }) event tail book a b m.list refl in
    all_of trace p value book tail (journal_after event (note.cell ∷ []) journal) (note_after event note) one.cell_agrees one.book_agrees
    (met_next trace journal p note (record value { tail = event ∷ tail }) event tail book a b m.list refl)

pub publishes_all : (trace : Trace) (journal : JournalValue) (p : ℕ) (note : NoteValue) (value : CellValue) (book : BookValue) → Agrees trace (user p) note value →
    BookAgrees trace journal book → note.list ≡ journal.list → PublishesAll trace journal p note value book
publishes_all trace journal p note value book a b list =
    let m : HasMet trace journal (user p) note = record { there = a.there; number = a.number; list = list; counted = a.counted ∙ ap (touch_count trace (user p)) list } in
    let all = all_of trace p value book value.tail journal note a b m in
    record { cell_agrees = all.0; book_agrees = all.1; cell_met = all.2 }
