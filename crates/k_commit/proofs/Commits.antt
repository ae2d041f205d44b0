-- Operations that have changed cells and book are appended.
use Rattle.std.proofs.Common.{◌≡◌, ◌+◌, ◌-◌, ◌<◌, ◌≤◌, ◌^◌, ◌==◌, ℕ, refl, sym, ap, subst, ◌∙◌, cond, List, [], ◌∷◌, ◌++◌, length, append-nil, Option, Some, None, arith, get_or, option_map, eq-eqb}
use Rattle.std.proofs.lemmas.List.{length-append}
use Rattle.k_types.specs.declared.event.Event.{Event}
use Rattle.k_types.specs.declared.event.Event.TheVariants.{Done}
use Rattle.k_types.specs.declared.event.Reply.{Reply}
use Rattle.k_types.specs.declared.names.CellPhase.TheVariants.{Idle}
use Rattle.k_types.specs.declared.names.Heap.TheVariants.{User}
use Rattle.k_types.specs.declared.op.Op.{Op}
use Rattle.k_types.specs.Agree.{CellValue}
use Rattle.k_types.specs.Cells.{Cell, ProcessPart, ShownPart, part}
use Rattle.k_types.specs.Steps.{IsLegalHistory, IsPossible, done_by, state_after}
use Rattle.k_types.specs.State.{State}
use Rattle.k_types.specs.Trace.{Trace}
use Rattle.k_tie.specs.Rule.{total_of}
use Rattle.k_tie.specs.Values.{NoteValue}
use Rattle.k_laws.proofs.Histories.{done_append, state_next}
use Rattle.k_laws.specs.PartUpdates.{done_in, process_with_done}
use Rattle.k_laws.specs.Counts.{is_operation}
use Rattle.k_laws.proofs.Counting.{count_low}
use Rattle.k_laws.proofs.Dones.{dones_at_most}
use Rattle.k_laws.proofs.BoundsLaws.{operations_done_are_those_of_the_history}
use Rattle.k_book.specs.k_agree.Agreement.{Agrees, BookAgrees, Shows}
use Rattle.k_book.specs.k_agree.Committing.{CanCommit, IsCommitted, NotedCell, journal_after, note_after, state_to_come}
use Rattle.k_book.specs.k_agree.GivingAway.{with_one_done}
use Rattle.k_book.specs.k_agree.Meeting.{Fits, HasMet}
use Rattle.k_book.proofs.Commits.{committed}
use Rattle.k_book.specs.Books.{BookRecord}
use Rattle.k_heap.specs.Heaps.{HeapRecord}
use Rattle.k_laws.proofs.LawfulLaws.{possible_events_are_lawful}
use Rattle.k_agree.specs.Moves.{CommitsAlone, CommitsBoth, MayAct, noted}
use Rattle.k_agree.proofs.Committed.{commit_alone, commit_both}
use Rattle.k_commit.specs.Beside.{HasSteppedWith}
use Rattle.k_commit.specs.Changed.{HasChanged, HasChangedWith, MayCommit, bodies_after}
use Rattle.k_commit.specs.Met.{Before, BeforeWith, HaveMet}
use Rattle.k_commit.specs.Others.{OtherValue, with_note, with_value}
use Rattle.k_commit.specs.Stepped.{HasStepped}
use Rattle.k_commit.proofs.Setting.{process_known, process_lives}

-- a note that has met the journal fits it
met_fits : (trace : Trace) (b : BookRecord) (cell : Cell) (note : NoteValue) → BookAgrees trace b.journal b.value → HasMet trace b.journal cell note → Fits b.journal note
met_fits trace b cell note agrees met = record {
  prefix = ([], append-nil note.list ∙ met.list);
  share = met.counted ∙ sym (agrees.totals cell met.there) ∙ ap (total_of b.journal.touches) (sym met.number);
}

-- one more operation done
one_less : (n : ℕ) (process : Option ProcessPart) → done_in (option_map process_with_done process) ≤ n + 1 → done_in process ≤ n
one_less n None most = omega arith
one_less n (Some q) most = omega (arith, most)

counts_itself : (p : ℕ) (op : Op) → length (cond (p == p) (op ∷ []) []) ≡ 1
counts_itself p op = ap (λ t. length (cond t (op ∷ []) [])) (eq-eqb p p refl)

module _ (before : Before) (m : HaveMet before) (op : Op) (said : Reply) where
  abbrev event : Event
  event = Done before.cell.pid op said

  abbrev longer : List Event
  longer = before.book.journal.list ++ event ∷ []

  pub may_act : MayCommit before op → MayAct before.trace (state_after before.trace before.book.journal.list) before.cell.pid.0 op
  may_act may = record { known = process_known before m; lives = process_lives before m; in_range = may.in_range; waits = may.waits }

  -- the cell's value shows the state to come
  module _ (v : CellValue) (legal : IsLegalHistory before.trace longer) (shows : Shows before.trace (state_to_come before.trace before.book.journal event) (User before.cell.pid) (with_one_done v)) where
    done_to_come : done_in (option_map process_with_done v.process) ≡ get_or (state_after before.trace longer).done before.cell.pid.0 0
    unfolding part
    done_to_come =
        ap (λ (s : ShownPart). done_in s.process) shows.part
        ∙ ap (λ (st : State). get_or st.done before.cell.pid.0 0) (sym (state_next before.trace before.book.journal.list event))

    one_longer : length longer ≡ length before.book.journal.list + 1
    one_longer = length-append before.book.journal.list (event ∷ [])

    pub done_few : done_in v.process ≤ length before.book.journal.list
    done_few =
        one_less (length before.book.journal.list) v.process
        (let most = dones_at_most before.trace longer before.cell.pid.0 in omega (arith, done_to_come, most, count_low is_operation longer, one_longer))

    done_before : done_in before.cell.value.process ≡ length (done_by before.cell.pid.0 before.book.journal.list)
    unfolding part
    done_before =
        ap (λ (s : ShownPart). done_in s.process) m.after.shows.part
        ∙ operations_done_are_those_of_the_history before.trace before.cell.pid.0 before.book.journal.list m.book.agrees.legal

    pub done_rises : done_in (option_map process_with_done v.process) ≡ done_in before.cell.value.process + 1
    done_rises =
        let after = operations_done_are_those_of_the_history before.trace before.cell.pid.0 longer legal in
        let split = ap length (done_append before.cell.pid.0 before.book.journal.list (event ∷ [])) in
        let both = length-append (done_by before.cell.pid.0 before.book.journal.list) (done_by before.cell.pid.0 (event ∷ [])) in
        let one = counts_itself before.cell.pid.0 op in
        omega (arith, done_to_come, after, split, both, one, done_before)

  -- the cell and the book after the event, which touches the cells of these numbers
  module _ (v : CellValue) (k : BookRecord) (numbers : List ℕ) (book_is : k ≡ record before.book { value = k.value }) (tail : v.tail ≡ []) (idle : v.collection ≡ Idle) where
    pub own_steps : IsPossible before.trace (state_after before.trace before.book.journal.list) event →
        Shows before.trace (state_to_come before.trace before.book.journal event) (User before.cell.pid) (with_one_done v) →
        HasMet before.trace (journal_after event numbers before.book.journal) (User before.cell.pid) (note_after event before.cell.note) →
        Agrees before.trace (User before.cell.pid) (note_after event before.cell.note) (with_one_done v) →
        BookAgrees before.trace (journal_after event numbers before.book.journal) k.value →
        HasStepped before.trace op before.cell (record before.cell { note = note_after event before.cell.note; value = with_one_done v; bodies = bodies_after op before.cell.bodies })
        before.book (record before.book { journal = journal_after event numbers before.book.journal; value = k.value }) event
    own_steps possible shows met agrees book_agrees = record {
      said = said;
      event_is = refl;
      possible = possible;
      lawful = possible_events_are_lawful before.trace before.book.journal.list event m.book.keeps.limits m.book.agrees.legal possible;
      journal = refl;
      same_table = refl;
      table = m.heap.table;
      cell_is = refl;
      book_is = refl;
      settled = tail;
      idle = idle;
      done = done_rises v book_agrees.legal shows;
      met = met;
      agrees = agrees;
      book_agrees = book_agrees;
    }

-- the cell as the count leaves it, and as the append does
abbrev pub heap_appended : Op → Reply → HeapRecord → HeapRecord
heap_appended op said c = record c { note = note_after (Done c.pid op said) c.note; value = with_one_done c.value }

abbrev pub book_appended : Event → List ℕ → BookRecord → BookRecord
book_appended event numbers b = record b { journal = journal_after event numbers b.journal }

module _ (before : Before) (c : HeapRecord) (b : BookRecord) (op : Op) (said : Reply) (h : HasChanged before c b op said) where
  abbrev alone : List NotedCell
  alone = noted (User before.cell.pid) before.cell.note (with_one_done c.value) ∷ []

  commits : CommitsAlone before.trace before.book.journal before.cell.note before.cell.pid op said before.cell.value (with_one_done c.value) before.book.value b.value
  commits = record {
    limits = h.have_met.book.keeps.limits;
    legal = h.have_met.book.agrees.legal;
    totals = h.have_met.book.agrees.totals;
    met = h.have_met.after.met;
    settled = h.values.settled;
    moves = record {
      may = may_act before h.have_met op said h.may;
      cell = record { shows = h.have_met.after.shows; idle = h.have_met.heap.idle };
      book = h.have_met.book.agrees.shows;
      gives = h.gives;
      idle = h.values.idle;
      owners = h.values.owners;
    };
  }

  can : CanCommit before.trace before.book.journal (Done before.cell.pid op said) alone b.value
  can = commit_alone before.trace before.book.journal before.cell.note before.cell.pid op said before.cell.value (with_one_done c.value) before.book.value b.value commits

  after : IsCommitted before.trace before.book.journal (Done before.cell.pid op said) alone b.value
  after = committed before.trace before.book.journal (Done before.cell.pid op said) alone b.value can

  pub heap_done_small : done_in c.value.process < 2 ^ 64 - 1
  heap_done_small =
      let few = h.have_met.few in
      let room = h.may.room in
      omega (arith, done_few before h.have_met op said c.value after.book_agrees.legal can.ready.0.shows, few, room)

  pub heap_steps : HasStepped before.trace op before.cell (heap_appended op said c) before.book (book_appended (Done c.pid op said) (c.note.cell ∷ []) b) (Done c.pid op said)
  heap_steps =
      subst (λ (w : HeapRecord). HasStepped before.trace op before.cell (heap_appended op said w) before.book (book_appended (Done w.pid op said) (w.note.cell ∷ []) b) (Done w.pid op said)) (sym h.values.cell_is)
      (subst (λ (k : BookRecord). HasStepped before.trace op before.cell (heap_appended op said (record before.cell { value = c.value; bodies = bodies_after op before.cell.bodies })) before.book
      (book_appended (Done before.cell.pid op said) (before.cell.note.cell ∷ []) k) (Done before.cell.pid op said)) (sym h.values.book_is)
      (own_steps before h.have_met op said c.value b (before.cell.note.cell ∷ []) h.values.book_is h.values.settled h.values.idle
      can.possible can.ready.0.shows after.cells_met.0 after.cells_agree.0 after.book_agrees))

module _ (before : BeforeWith) (c : HeapRecord) (o : OtherValue) (b : BookRecord) (op : Op) (said : Reply) (h : HasChangedWith before c o b op said) where
  abbrev both : List NotedCell
  both = noted (User before.own.cell.pid) before.own.cell.note (with_one_done c.value) ∷ noted before.other.cell before.other.held.note o.held.value ∷ []

  both_commit : CommitsBoth before.own.trace before.own.book.journal before.own.cell.note before.other.held.note before.own.cell.pid op said before.other.cell
      before.own.cell.value (with_one_done c.value) before.other.held.value o.held.value before.own.book.value b.value
  both_commit = record {
    limits = h.have_met.own.book.keeps.limits;
    legal = h.have_met.own.book.agrees.legal;
    totals = h.have_met.own.book.agrees.totals;
    met = h.have_met.own.after.met;
    other_met = h.have_met.after.met;
    settled = h.values.settled;
    other_settled = h.other_settled;
    moves = record {
      may = may_act before.own h.have_met.own op said h.may;
      own = record { shows = h.have_met.own.after.shows; idle = h.have_met.own.heap.idle };
      other = record { shows = h.have_met.after.shows; idle = h.have_met.other.idle };
      book = h.have_met.own.book.agrees.shows;
      gives = h.gives;
      idle = h.values.idle;
      other_idle = h.other_idle;
      owners = h.values.owners;
    };
  }

  both_can : CanCommit before.own.trace before.own.book.journal (Done before.own.cell.pid op said) both b.value
  both_can = commit_both before.own.trace before.own.book.journal before.own.cell.note before.other.held.note before.own.cell.pid op said before.other.cell
      before.own.cell.value (with_one_done c.value) before.other.held.value o.held.value before.own.book.value b.value both_commit

  both_after : IsCommitted before.own.trace before.own.book.journal (Done before.own.cell.pid op said) both b.value
  both_after = committed before.own.trace before.own.book.journal (Done before.own.cell.pid op said) both b.value both_can

  pub both_done_small : done_in c.value.process < 2 ^ 64 - 1
  both_done_small =
      let few = h.have_met.own.few in
      let room = h.may.room in
      omega (arith, done_few before.own h.have_met.own op said c.value both_after.book_agrees.legal both_can.ready.0.shows, few, room)

  -- what the append asks
  pub both_tables : (c.note.table ≡ b.journal.table) × (o.held.note.table ≡ b.journal.table)
  both_tables =
      let book = sym (ap (λ (k : BookRecord). k.journal.table) h.values.book_is) in (
        ap (λ (w : HeapRecord). w.note.table) h.values.cell_is ∙ h.have_met.own.heap.table ∙ book,
        ap (λ (x : OtherValue). x.held.note.table) h.other_is ∙ h.have_met.other.table ∙ book,
      )

  pub both_lists : (c.note.list ≡ b.journal.list) × (o.held.note.list ≡ b.journal.list)
  both_lists =
      let book = sym (ap (λ (k : BookRecord). k.journal.list) h.values.book_is) in (
        ap (λ (w : HeapRecord). w.note.list) h.values.cell_is ∙ h.have_met.own.after.met.list ∙ book,
        ap (λ (x : OtherValue). x.held.note.list) h.other_is ∙ h.have_met.after.met.list ∙ book,
      )

  pub event_room : length b.journal.list < b.event_room
  event_room = subst (λ (k : BookRecord). length k.journal.list < k.event_room) (sym h.values.book_is) h.may.room

  -- what the cell beside the own one is after the append
  abbrev other_appended : Event → OtherValue → OtherValue
  other_appended event other = with_note (note_after event other.held.note) other

  pub both_step : HasSteppedWith before.own.trace op before.own.cell (heap_appended op said c) before.other (other_appended (Done c.pid op said) o)
      before.own.book (book_appended (Done c.pid op said) (c.note.cell ∷ o.held.note.cell ∷ []) b) (Done c.pid op said)
  both_step =
      subst (λ (w : HeapRecord). HasSteppedWith before.own.trace op before.own.cell (heap_appended op said w) before.other (other_appended (Done w.pid op said) o)
      before.own.book (book_appended (Done w.pid op said) (w.note.cell ∷ o.held.note.cell ∷ []) b) (Done w.pid op said)) (sym h.values.cell_is)
      (subst (λ (x : OtherValue). HasSteppedWith before.own.trace op before.own.cell (heap_appended op said (record before.own.cell { value = c.value; bodies = bodies_after op before.own.cell.bodies })) before.other
      (other_appended (Done before.own.cell.pid op said) x) before.own.book (book_appended (Done before.own.cell.pid op said) (before.own.cell.note.cell ∷ x.held.note.cell ∷ []) b) (Done before.own.cell.pid op said)) (sym h.other_is)
      (subst (λ (l : BookRecord). HasSteppedWith before.own.trace op before.own.cell (heap_appended op said (record before.own.cell { value = c.value; bodies = bodies_after op before.own.cell.bodies })) before.other
      (other_appended (Done before.own.cell.pid op said) (with_value o.held.value before.other)) before.own.book
      (book_appended (Done before.own.cell.pid op said) (before.own.cell.note.cell ∷ before.other.held.note.cell ∷ []) l) (Done before.own.cell.pid op said)) (sym h.values.book_is)
      (record {
        beside = record {
          own = own_steps before.own h.have_met.own op said c.value b (before.own.cell.note.cell ∷ before.other.held.note.cell ∷ []) h.values.book_is h.values.settled h.values.idle
              both_can.possible both_can.ready.0.shows both_after.cells_met.0 both_after.cells_agree.0 both_after.book_agrees;
          others = (
            record {
              stands = record { agrees = both_after.cells_agree.1.0; table = h.have_met.other.table; settled = h.other_settled; idle = h.other_idle };
              met = both_after.cells_met.1.0;
            },
            tt,
          );
        };
        fits = met_fits before.own.trace before.own.book before.other.cell before.other.held.note h.have_met.own.book.agrees h.have_met.after.met;
        other_is = refl;
      })))
