-- Publishing the unpublished events all at once.
use Rattle.std.proofs.Common.{◌≡◌, ℕ, zero, suc, ◌+◌, ◌≤◌, refl, sym, ap, ap₂, subst, ◌∙◌, List, [], ◌∷◌, ◌++◌, length, replicate, arith}
use Rattle.std.proofs.lemmas.List.{append_assoc, append-nil}
use Rattle.k_types.specs.declared.event.Event.{Event}
use Rattle.k_types.specs.State.{opening}
use Rattle.k_types.specs.Steps.{state_after}
use Rattle.k_types.specs.Trace.{Trace}
use Rattle.k_laws.proofs.Histories.{legal_rest}
use Rattle.k_tie.specs.Values.{JournalValue, NoteValue}
use Rattle.k_book.specs.k_agree.Committing.{journal_after, note_after}
use Rattle.k_book.specs.k_agree.Meeting.{met_note}
use Rattle.k_book.specs.k_agree.Publishing.{PublishesAll, journal_after_all, note_after_all}
use Rattle.k_book.specs.Objects.{objects_told}
use Rattle.k_book.proofs.Counted.{local_objects, told_append_all}
use Rattle.k_book.proofs.Published.{publishes_all}
use Rattle.k_book.specs.Books.{BookRecord}
use Rattle.k_heap.specs.Heaps.{HeapRecord}
use Rattle.k_commit.specs.Met.{HeapHasMet}
use Rattle.k_commit.specs.Published.{CanPublish, HasPublished}
use Rattle.k_book.proofs.LawsLaws.{states_are_sound}

-- one touch more, before the others or after them
replicate_first : (k n : ℕ) (touches : List ℕ) → replicate k n ++ n ∷ touches ≡ n ∷ replicate k n ++ touches
replicate_first zero n touches = refl
replicate_first (suc k) n touches = ap (λ (t : List ℕ). n ∷ t) (replicate_first k n touches)

-- the journal with all events and touches, and the note with all of them
abbrev pub journal_with : List Event → ℕ → JournalValue → JournalValue
journal_with events number journal = record journal { list = journal.list ++ events; touches = replicate (length events) number ++ journal.touches }

abbrev pub note_with : List Event → NoteValue → NoteValue
note_with events note = record note { list = note.list ++ events; share = note.share + length events }

-- one after the other is all at once
pub journal_at_once : (events : List Event) (number : ℕ) (journal : JournalValue) → journal_after_all events number journal ≡ journal_with events number journal
journal_at_once [] number journal = ap (λ (l : List Event). record journal { list = l }) (sym (append-nil journal.list))
journal_at_once (event ∷ events) number journal =
    journal_at_once events number (journal_after event (number ∷ []) journal)
    ∙ ap₂ (λ (l : List Event) (t : List ℕ). record journal { list = l; touches = t }) (append_assoc journal.list (event ∷ []) events) (replicate_first (length events) number journal.touches)

pub note_at_once : (events : List Event) (note : NoteValue) → note_after_all events note ≡ note_with events note
note_at_once [] note =
    let same : note.share ≡ note.share + 0 = omega arith in
    ap₂ (λ (l : List Event) (n : ℕ). record note { list = l; share = n }) (sym (append-nil note.list)) same
note_at_once (event ∷ events) note =
    let same : (note.share + 1) + length events ≡ note.share + suc (length events) = omega arith in
    note_at_once events (note_after event note) ∙ ap₂ (λ (l : List Event) (n : ℕ). record note { list = l; share = n }) (append_assoc note.list (event ∷ []) events) same

-- counted by another number that is theirs, and appended to a list that the note knows
pub note_counted : (events : List Event) (number : ℕ) (note : NoteValue) (known : List Event) → number ≡ length events → note.list ≡ known →
    record note { list = known ++ events; share = note.share + number } ≡ note_after_all events note
note_counted events number note known count list =
    ap₂ (λ (l : List Event) (n : ℕ). record note { list = l ++ events; share = note.share + n }) (sym list) count ∙ sym (note_at_once events note)

pub journal_counted : (events : List Event) (times number : ℕ) (journal : JournalValue) → times ≡ length events →
    record journal { list = journal.list ++ events; touches = replicate times number ++ journal.touches } ≡ journal_after_all events number journal
journal_counted events times number journal count =
    ap (λ n. record journal { list = journal.list ++ events; touches = replicate n number ++ journal.touches }) count ∙ sym (journal_at_once events number journal)

module _ (trace : Trace) (old : HeapRecord) (before : BookRecord) (can : CanPublish trace old before) (c : HeapRecord) (b : BookRecord) (met : HeapHasMet trace old c before b) where
  abbrev events : List Event
  events = old.value.tail

  abbrev note : NoteValue
  note = met_note before.journal old.note

  -- the cell has met the journal
  pub met_table : c.note.table ≡ b.journal.table
  met_table = ap (λ (w : HeapRecord). w.note.table) met.cell_is ∙ can.table ∙ sym (ap (λ (k : BookRecord). k.journal.table) met.book_is)

  pub met_list : c.note.list ≡ b.journal.list
  met_list = ap (λ (w : HeapRecord). w.note.list) met.cell_is ∙ sym (ap (λ (k : BookRecord). k.journal.list) met.book_is)

  pub met_room : length b.journal.list + length c.value.tail ≤ b.event_room
  met_room =
      subst (λ (w : HeapRecord). length b.journal.list + length w.value.tail ≤ b.event_room) (sym met.cell_is)
      (subst (λ (k : BookRecord). length k.journal.list + length events ≤ k.event_room) (sym met.book_is) (can.room met.told.fits))

  -- the events make no object and free none
  pub met_objects : objects_told (b.journal.list ++ c.value.tail) ≡ objects_told b.journal.list
  met_objects =
      ap (λ (w : HeapRecord). objects_told (b.journal.list ++ w.value.tail)) met.cell_is ∙ told_append_all b.journal.list events
      ∙ local_objects trace old.pid.0 (state_after trace old.note.list) (state_after trace old.note.list) events can.agrees.tail
      (legal_rest trace (opening trace) old.note.list events can.agrees.legal) (objects_told b.journal.list)

  all : PublishesAll trace before.journal old.pid.0 note old.value before.value
  all = publishes_all trace before.journal old.pid.0 note old.value before.value met.told.shows.agrees can.book_agrees refl

  -- it has published all once these are appended
  published_then : HasPublished trace events old (record old { note = note_after_all events note; value = record old.value { tail = [] } }) before (record before { journal = journal_after_all events note.cell before.journal })
  published_then = record {
    fits = met.told.fits;
    cell_is = refl;
    book_is = refl;
    journal = ap (λ (j : JournalValue). j.list) (journal_at_once events note.cell before.journal);
    table = ap (λ (n : NoteValue). n.table) (note_at_once events note) ∙ can.table ∙ sym (ap (λ (j : JournalValue). j.table) (journal_at_once events note.cell before.journal));
    same_table = ap (λ (j : JournalValue). j.table) (journal_at_once events note.cell before.journal);
    sound = λ limits. states_are_sound trace (journal_after_all events note.cell before.journal).list limits all.book_agrees.legal;
    met = all.cell_met;
    agrees = all.cell_agrees;
    book_agrees = all.book_agrees;
  }

  pub published : (last : HeapRecord) (after : BookRecord) → last ≡ record c { note = note_after_all c.value.tail c.note; value = record c.value { tail = [] } } →
      after ≡ record b { journal = journal_after_all c.value.tail c.note.cell b.journal } → HasPublished trace events old last before after
  published last after last_is after_is =
      let cell_now = last_is ∙ ap (λ (w : HeapRecord). record w { note = note_after_all w.value.tail w.note; value = record w.value { tail = [] } }) met.cell_is in
      let book_now = after_is ∙ ap₂ (λ (w : HeapRecord) (k : BookRecord). record k { journal = journal_after_all w.value.tail w.note.cell k.journal }) met.cell_is met.book_is in
      subst (λ (w : HeapRecord). HasPublished trace events old w before after) (sym cell_now)
      (subst (λ (k : BookRecord). HasPublished trace events old (record old { note = note_after_all events note; value = record old.value { tail = [] } }) before k) (sym book_now) published_then)
