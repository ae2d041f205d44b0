-- The end of a collection: what goes, and its event, appended.
use Rattle.std.proofs.Common.{◌≡◌, ◌+◌, ◌-◌, ◌*◌, ◌<◌, ◌≤◌, ◌^◌, ◌==◌, ◌&&◌, ◌||◌, not, Bool, true, false, ℕ, refl, sym, ap, ap₂, ◌∙◌, subst, List, [], ◌∷◌, length, get_or, set, Option, Some, None, arith, IsFalse, replicate}
use Rattle.std.proofs.Math.Path.{fun_ext}
use Rattle.std.proofs.lemmas.Bool.{and_parts, false≢true}
use Rattle.k_types.specs.declared.event.Event.{Event}
use Rattle.k_types.specs.declared.event.Event.TheVariants.{Ended}
use Rattle.k_types.specs.declared.names.Heap.TheVariants.{Kernel, User}
use Rattle.k_types.specs.declared.names.Name.{Name}
use Rattle.k_types.specs.Agree.{AreMarks, BookValue, CellValue, shown_by}
use Rattle.k_types.specs.Cells.{BookPart, Cell, ShownPart, book_part, cells_touched, part}
use Rattle.k_types.specs.Counted.{counted}
use Rattle.k_types.specs.Effects.{after_ended, step}
use Rattle.k_types.specs.Names.{among, name_among}
use Rattle.k_types.specs.Numbers.{numbers_below}
use Rattle.k_types.specs.Owners.{is_absorbed, phase_of}
use Rattle.k_types.specs.Sound.{IsSound}
use Rattle.k_types.specs.State.{Sharing, State, has_share, scan_of}
use Rattle.k_types.specs.Steps.{IsPossible, has_sharer, state_after}
use Rattle.k_types.specs.Trace.{Trace, limit_of, process_count}
use Rattle.k_types.proofs.Lists.{any_weaker}
use Rattle.k_types.proofs.Maxima.{length_in}
use Rattle.k_laws.specs.Counts.{one_if}
use Rattle.k_laws.proofs.SoundSteps.{legal_sound}
use Rattle.k_tie.specs.Values.{NoteValue}
use Rattle.k_agree.specs.Agreement.{BookShows, Shows}
use Rattle.k_agree.specs.Committing.{CanCommit, IsCommitted, NotedCell, journal_after, note_after}
use Rattle.k_agree.specs.Ending.{HasLeft, HasSettledWith, ShowsItsEnd, TellsItsShares, bytes_unshared, dropped, dropped_exits, dropped_shares, freed_bytes, freed_objects, keeps_way, swept}
use Rattle.k_agree.specs.Meeting.{met_note}
use Rattle.k_agree.proofs.Commits.{committed}
use Rattle.k_agree.proofs.Credited.{kernel_settles, user_settles}
use Rattle.k_agree.proofs.Shared.{kernel_ends, tells_shares}
use Rattle.k_agree.proofs.Swept.{shows_end}
use Rattle.k_agree.proofs.Touched.{as_listed}
use Rattle.k_commit.specs.k_book.Books.{BookRecord}
use Rattle.k_commit.specs.k_book.Calls.{ChangesEntries}
use Rattle.k_commit.specs.k_cell.Holdings.{HoldingsValue}
use Rattle.k_laws.specs.BookChanges.{registers_in}
use Rattle.k_commit.specs.k_heap.Heaps.{HeapRecord}
use Rattle.k_laws.proofs.LawfulLaws.{possible_events_are_lawful}
use Rattle.k_commit.specs.k_agree.Moves.{noted}
use Rattle.k_laws.proofs.SquaresLaws.{what_is_let_go_is_counted-entries}
use Rattle.k_commit.specs.Met.{FitsTheBook}
use Rattle.k_commit.proofs.Fitting.{direct_low}
use Rattle.k_collect.specs.Collecting.{CanEndHeap, CanEndKernel}
use Rattle.k_collect.specs.Ended.{HasEndedHeap, HasEndedKernel, HaveWhatIsLeft}
use Rattle.k_collect.specs.Leaving.{HasItsEntries}
use Rattle.k_collect.specs.Unsharing.{CanUnshare, HasUnshared, bytes_lost, has_way_by, shares_lost, ways_left}
use Rattle.k_collect.proofs.WhatGoes.{CanSweep, HasSweptHeap, HasSweptKernel, IsSwept, owners_now}
use Rattle.k_collect.proofs.Roots.{registers_all}
use Rattle.k_collect.proofs.Sizes.{credit_is_charged, freed_own}
use Rattle.k_collect.proofs.Unshared.{same_bytes_lost}
use Rattle.k_collect.proofs.Ways.{way_kept}
use Rattle.k_types.specs.declared.names.LimitId.{LimitId}
use Rattle.k_types.proofs.Owners.{absorbed_is}

-- a cell that has met the journal and is marked, of whatever heap
module _ (trace : Trace) (cell : Cell) (note : NoteValue) (v : CellValue) (b : BookRecord) (can : CanSweep trace cell note v b) where
  abbrev now : State
  now = state_after trace b.journal.list

  pub sound : IsSound trace now
  sound = legal_sound trace b.journal.list can.book_stands.keeps.limits can.book_stands.agrees.legal

  pub entries_there : HasItsEntries v b.value
  entries_there n there =
      let held = (what_is_let_go_is_counted-entries trace now).one cell n (sym (ap (λ (s : ShownPart). s.exits n) can.after.shows.part) ∙ there) in
      subst (λ (k : BookPart). 0 < k.entries n) (sym can.book_stands.agrees.shows.part) held

  pub scan_there : (roots : List Name) × (scan_of now.scans cell ≡ Some roots)
  scan_there =
      let marks = subst (λ k. AreMarks k (scan_of now.scans cell) v) can.marked can.after.shows.marks in
      (marks.0, marks.1)

  module _ (w : CellValue) (is : IsSwept v w) where
    pub ends : ShowsItsEnd trace now cell v
    ends = shows_end trace now cell v sound can.after.shows can.marked is.distinct

    pub swept_shows : Shows trace (after_ended trace cell now) cell w
    swept_shows = record {
      part =
          ap shown_by is.rest
          ∙ ap (λ (exits : Name → Bool). record (shown_by (swept v)) { exits = exits }) (fun_ext is.exits)
          ∙ ends.shows.part;
      marks = subst (λ (x : CellValue). AreMarks x.collection (scan_of (after_ended trace cell now).scans cell) x) (sym is.rest) ends.shows.marks;
    }

    pub what_is_left : (k : BookValue) → BookShows trace (after_ended trace cell now) k → HaveWhatIsLeft trace cell (after_ended trace cell now) w k
    unfolding part book_part
    what_is_left k shows = record {
      survivors = ap (λ (s : ShownPart). s.objects) swept_shows.part;
      exits = λ n. ap (λ (s : ShownPart). s.exits n) swept_shows.part;
      shares = λ p t. ap (λ (x : BookPart). x.shares p t) shows.part;
    }

  -- the event, appended
  module _ (w : CellValue) (is : IsSwept v w) (settled : v.tail ≡ []) (k : BookValue) (objects bytes exits shares : ℕ) (possible : IsPossible trace now (Ended cell objects bytes exits shares))
      (shows : BookShows trace (after_ended trace cell now) k) where
    abbrev event : Event
    event = Ended cell objects bytes exits shares

    ended_touches : cells_touched trace now event ≡ cell ∷ []
    unfolding cells_touched
    ended_touches = refl

    ended_is : after_ended trace cell now ≡ step trace now event
    unfolding step
    ended_is = refl

    abbrev touched : List NotedCell
    touched = noted cell note w ∷ []

    commits : CanCommit trace b.journal event touched k
    commits = record {
      legal = can.book_stands.agrees.legal;
      totals = can.book_stands.agrees.totals;
      possible = possible;
      exactly = (as_listed trace now event (cell ∷ []) can.book_stands.keeps.limits possible ended_touches).1;
      distinct = (as_listed trace now event (cell ∷ []) can.book_stands.keeps.limits possible ended_touches).0;
      ready = (
        record {
          met = can.after.met;
          settled = ap (λ (x : CellValue). x.tail) is.rest ∙ settled;
          shows = subst (λ (st : State). Shows trace st cell w) ended_is (swept_shows w is);
        },
        tt,
      );
      shows = subst (λ (st : State). BookShows trace st k) ended_is shows;
    }

    pub ended_committed : IsCommitted trace b.journal event touched k
    ended_committed = committed trace b.journal event touched k commits

-- a process's heap
module _ (trace : Trace) (c : HeapRecord) (b : BookRecord) (can : CanSweep trace (User c.pid) c.note c.value b) where
  abbrev here : State
  here = state_after trace b.journal.list

  abbrev p : ℕ
  p = c.pid.0

  abbrev stays : ℕ → Bool
  stays = keeps_way (owners_now trace b) b.value c.value p

  pub known : p < process_count trace
  known = can.after.met.there

  pub lives : IsFalse (among p here.ended)
  lives = go (among p here.ended) refl
    where
      go : (t : Bool) → among p here.ended ≡ t → t ≡ false
      go true gone =
          let none = (sound trace (User c.pid) c.note c.value b can).gone.scans p gone in
          let some = (scan_there trace (User c.pid) c.note c.value b can).1 in
          let both : ◌≡◌ {A = Option (List Name)} None (Some (scan_there trace (User c.pid) c.note c.value b can).0) = sym none ∙ some in
          absurd (cc both)
      go false e = refl

  phases_count : length b.value.phases ≡ trace.shared_heaps
  unfolding book_part
  phases_count = ap (λ (k : BookPart). length k.phases) can.book_stands.agrees.shows.part ∙ (sound trace (User c.pid) c.note c.value b can).shape.sized.phases

  procs_count : length b.procs ≡ process_count trace
  procs_count = ap length can.book_stands.of_trace.procs

  shares_are : (q t : ℕ) → has_share b.value.shares q t ≡ has_share here.shares q t
  unfolding book_part
  shares_are q t = ap (λ (k : BookPart). k.shares q t) can.book_stands.agrees.shows.part

  not_absorbed : (t : ℕ) → has_share b.value.shares p t ≡ true → IsFalse (is_absorbed (phase_of here.phases t))
  not_absorbed t there = go (is_absorbed (phase_of here.phases t)) refl
    where
      shared_by_some : has_sharer here.shares t ≡ true
      shared_by_some = any_weaker (λ (e : Sharing). (e.process == p) && (e.heap == t)) (λ e. e.heap == t) (λ e both. (and_parts (e.process == p) (e.heap == t) both).1) here.shares (sym (shares_are p t) ∙ there)

      go : (x : Bool) → is_absorbed (phase_of here.phases t) ≡ x → x ≡ false
      go true gone = absurd (false≢true (sym ((sound trace (User c.pid) c.note c.value b can).gone.absorbed_shares t (absorbed_is (phase_of here.phases t) gone)) ∙ shared_by_some))
      go false e = refl

  pub lost_bytes : bytes_lost stays b.value p (numbers_below (length b.value.phases)) ≡ bytes_unshared trace (owners_now trace b) b.value c.value p
  lost_bytes = ap (λ n. bytes_lost stays b.value p (numbers_below n)) phases_count

  pub lost_shares : shares_lost stays b.value p (numbers_below (length b.value.phases)) ≡ dropped_shares trace (owners_now trace b) b.value c.value p
  lost_shares = ap (λ n. shares_lost stays b.value p (numbers_below n)) phases_count

  pub limit_there : limit_of trace p < length b.rows
  limit_there = subst (λ (n : ℕ). limit_of trace p < n) (sym (ap length can.book_stands.of_trace.rows ∙ length_in trace.limits (replicate (length trace.limits) 0))) (can.book_stands.keeps.limits.limited p known)

  pub limit_told : (get_or b.procs p (record { 0 = 0 })).0 ≡ limit_of trace p
  limit_told = ap (λ (procs : List LimitId). (get_or procs p (record { 0 = 0 })).0) can.book_stands.of_trace.procs

  pub credit_within : freed_bytes c.value + bytes_unshared trace (owners_now trace b) b.value c.value p ≤ get_or b.value.direct (limit_of trace p) 0
  credit_within = credit_is_charged trace here p c.value b.value can.book_stands.keeps (sound trace (User c.pid) c.note c.value b can) known lives can.book_stands.agrees.shows can.after.shows
      (freed_own trace b.journal.list can.book_stands.keeps can.book_stands.agrees.legal (User c.pid) c.value can.after.shows)

  pub credit_fits : freed_bytes c.value + bytes_unshared trace (owners_now trace b) b.value c.value p < 2 ^ 64
  credit_fits =
      let low = direct_low trace b.journal.list b.value can.book_stands.keeps.limits can.book_stands.agrees.legal can.book_stands.agrees.shows p known in
      omega (arith, credit_within, low)

  -- the ways that are left by segments are those that the process keeps
  pub ways_same : (w : CellValue) (k : BookRecord) → ChangesEntries b k → w.process ≡ c.value.process → ((n : Name) → name_among n w.exits ≡ name_among n (swept c.value).exits) →
      (t : ℕ) → has_share k.value.shares p t ≡ true → ways_left w p k t ≡ stays t
  ways_same w k changes process exits t there =
      ap (λ (x : BookRecord). ways_left w p x t) changes
      ∙ ap (λ n. has_way_by w b.value p (1 + n + t) t) procs_count
      ∙ way_kept trace here t (not_absorbed t (sym (ap (λ (x : BookRecord). has_share x.value.shares p t) changes) ∙ there)) c.value w b.value p process exits

  pub can_unshare : (w : CellValue) (k : BookRecord) → ChangesEntries b k → w.process ≡ c.value.process → ((n : Name) → name_among n w.exits ≡ name_among n (swept c.value).exits) → CanUnshare w p k
  can_unshare w k changes process exits = record {
    process = let count = ap (λ (x : BookRecord). length x.procs) changes in omega (arith, count, procs_count, known);
    registers = ap (λ q. length (registers_in q)) process ∙ registers_all trace here c.pid c.value (sound trace (User c.pid) c.note c.value b can) can.after.shows known;
    segments =
        let processes = can.book_stands.keeps.processes in
        let heaps = can.book_stands.keeps.shared in
        let count = ap (λ (x : BookRecord). length x.procs) changes in
        let phases = ap (λ (x : BookRecord). length x.value.phases) changes in
        omega (arith, processes, heaps, procs_count, phases_count, count, phases);
    known = λ t there.
        let phases = ap (λ (x : BookRecord). length x.value.phases) changes in
        let low = (sound trace (User c.pid) c.note c.value b can).shape.known.shared p t (sym (shares_are p t) ∙ sym (ap (λ (x : BookRecord). has_share x.value.shares p t) changes) ∙ there) in
        omega (arith, phases, phases_count, low);
    bytes =
        let same = same_bytes_lost (ways_left w p k) stays p k (ways_same w k changes process exits) (numbers_below (length k.value.phases)) in
        let now = ap (λ (x : BookRecord). bytes_lost stays x.value p (numbers_below (length x.value.phases))) changes in
        omega (arith, same, now, lost_bytes, credit_fits);
  }

  -- the book after what goes has gone
  module _ (k l m : BookRecord) (limit amount : ℕ) (left : ChangesEntries b k) (entries : HasLeft (dropped c.value) b.value k.value) (unshared : HasUnshared stays p k l)
      (credited : m ≡ record l { value = record l.value { direct = set l.value.direct limit (get_or l.value.direct limit 0 - amount) } })
      (limit_is : limit ≡ limit_of trace p) (amount_is : amount ≡ freed_bytes c.value + bytes_unshared trace (owners_now trace b) b.value c.value p) where
    last_is : m ≡ record b {
      value = record b.value { entries = k.value.entries; shares = l.value.shares; direct = set b.value.direct limit (get_or b.value.direct limit 0 - amount) };
    }
    last_is =
        credited
        ∙ ap (λ (x : BookRecord). record x { value = record x.value { direct = set x.value.direct limit (get_or x.value.direct limit 0 - amount) } })
        (unshared.rest ∙ ap (λ (x : BookRecord). record x { value = record x.value { shares = l.value.shares } }) left)

    pub book_alone : m ≡ record b { value = m.value }
    book_alone = last_is ∙ sym (ap (λ (x : BookRecord). record b { value = x.value }) last_is)

    pub settles : HasSettledWith trace (owners_now trace b) p c.value b.value m.value
    settles = record {
      entries = λ n. ap (λ (x : BookRecord). counted x.value.entries n + one_if (name_among n (dropped c.value))) last_is ∙ entries n;
      shares = λ q t.
          ap (λ (x : BookRecord). has_share x.value.shares q t) last_is
          ∙ unshared.shares q t
          ∙ ap (λ (x : BookRecord). has_share x.value.shares q t && (not (q == p) || stays t)) left;
      direct = ap (λ (x : BookRecord). x.value.direct) last_is ∙ ap₂ (λ (i n : ℕ). set b.value.direct i (get_or b.value.direct i 0 - n)) limit_is amount_is;
      rest =
          ap (λ (x : BookRecord). x.value) last_is
          ∙ sym (ap (λ (x : BookRecord). record b.value { shares = x.value.shares; direct = x.value.direct; entries = x.value.entries }) last_is);
    }

  -- the event, appended
  module _ (w : HeapRecord) (k : BookRecord) (event : Event) (swept_is : HasSweptHeap trace c w b k event) (settled : c.value.tail ≡ []) (table : c.note.table ≡ b.journal.table) where
    told : TellsItsShares trace here p c.value b.value
    told = tells_shares trace here p c.value b.value (sound trace (User c.pid) c.note c.value b can) can.book_stands.agrees.shows can.after.shows can.marked swept_is.swept.distinct

    book_then : BookShows trace (after_ended trace (User c.pid) here) k.value
    book_then = user_settles trace can.book_stands.keeps.limits here p c.value b.value k.value (sound trace (User c.pid) c.note c.value b can) can.book_stands.agrees.shows can.after.shows can.marked swept_is.swept.distinct swept_is.settled

    abbrev ended : Event
    ended = Ended (User c.pid) (freed_objects c.value) (freed_bytes c.value) (dropped_exits c.value) (dropped_shares trace (owners_now trace b) b.value c.value p)

    after : IsCommitted trace b.journal ended (noted (User c.pid) c.note w.value ∷ []) k.value
    after = ended_committed trace (User c.pid) c.note c.value b can w.value swept_is.swept settled k.value (freed_objects c.value) (freed_bytes c.value) (dropped_exits c.value)
        (dropped_shares trace (owners_now trace b) b.value c.value p) told.possible book_then

    heap_ended : HasEndedHeap trace c (record c { note = note_after ended c.note; value = w.value }) b (record b { journal = journal_after ended (c.note.cell ∷ []) b.journal; value = k.value }) ended
    heap_ended = record {
      objects = freed_objects c.value;
      bytes = freed_bytes c.value;
      exits = dropped_exits c.value;
      shares = dropped_shares trace (owners_now trace b) b.value c.value p;
      event_is = refl;
      appended = record { possible = told.possible; lawful = possible_events_are_lawful trace b.journal.list ended can.book_stands.keeps.limits can.book_stands.agrees.legal told.possible; journal = refl; same_table = refl; book_is = refl; agrees = after.book_agrees };
      heap_goes_on = record {
        cell_is = refl;
        table = table;
        settled = ap (λ (x : CellValue). x.tail) swept_is.swept.rest ∙ settled;
        in_phase = ap (λ (x : CellValue). x.collection) swept_is.swept.rest;
        met = after.cells_met.0;
        agrees = after.cells_agree.0;
      };
      left = what_is_left trace (User c.pid) c.note c.value b can w.value swept_is.swept k.value book_then;
    }

    pub heap_ends : HasEndedHeap trace c (record w { note = note_after event w.note }) b (record k { journal = journal_after event (w.note.cell ∷ []) k.journal }) event
    heap_ends =
        subst (λ (e : Event). HasEndedHeap trace c (record w { note = note_after e w.note }) b (record k { journal = journal_after e (w.note.cell ∷ []) k.journal }) e) (sym swept_is.event_is)
        (subst (λ (x : HeapRecord). HasEndedHeap trace c (record x { note = note_after ended x.note }) b (record k { journal = journal_after ended (x.note.cell ∷ []) k.journal }) ended) (sym swept_is.cell_is)
        (subst (λ (x : BookRecord). HasEndedHeap trace c (record c { note = note_after ended c.note; value = w.value }) b (record x { journal = journal_after ended (c.note.cell ∷ []) x.journal }) ended) (sym swept_is.book_is)
        heap_ended))

-- the kernel's heap
module _ (trace : Trace) (c : HoldingsValue) (b : BookRecord) (can : CanSweep trace Kernel c.note c.value b) where
  abbrev then : State
  then = state_after trace b.journal.list

  module _ (w : HoldingsValue) (k : BookRecord) (event : Event) (swept_is : HasSweptKernel trace c w b k event) (table : c.note.table ≡ b.journal.table) (settled : c.value.tail ≡ []) where
    abbrev kernel_event : Event
    kernel_event = Ended Kernel (freed_objects c.value) (freed_bytes c.value) (dropped_exits c.value) 0

    kernel_possible : IsPossible trace then kernel_event
    kernel_possible = kernel_ends trace then c.value (sound trace Kernel c.note c.value b can) can.after.shows can.marked swept_is.swept.distinct

    kernel_book : BookShows trace (after_ended trace Kernel then) k.value
    kernel_book = kernel_settles trace then c.value b.value k.value (sound trace Kernel c.note c.value b can) can.book_stands.agrees.shows can.after.shows can.marked swept_is.swept.distinct swept_is.left
        (ap (λ (x : BookRecord). x.value) swept_is.book_is)

    kernel_after : IsCommitted trace b.journal kernel_event (noted Kernel c.note w.value ∷ []) k.value
    kernel_after = ended_committed trace Kernel c.note c.value b can w.value swept_is.swept settled k.value (freed_objects c.value) (freed_bytes c.value) (dropped_exits c.value) 0 kernel_possible kernel_book

    kernel_ended : HasEndedKernel trace c (record c { note = note_after kernel_event c.note; value = w.value }) b (record b { journal = journal_after kernel_event (c.note.cell ∷ []) b.journal; value = k.value }) kernel_event
    kernel_ended = record {
      objects = freed_objects c.value;
      bytes = freed_bytes c.value;
      exits = dropped_exits c.value;
      event_is = refl;
      appended = record { possible = kernel_possible; lawful = possible_events_are_lawful trace b.journal.list kernel_event can.book_stands.keeps.limits can.book_stands.agrees.legal kernel_possible; journal = refl; same_table = refl; book_is = refl; agrees = kernel_after.book_agrees };
      kernel_goes_on = record {
        kernel_is = refl;
        table = table;
        in_phase = ap (λ (x : CellValue). x.collection) swept_is.swept.rest;
        met = kernel_after.cells_met.0;
        agrees = kernel_after.cells_agree.0;
      };
      left = what_is_left trace Kernel c.note c.value b can w.value swept_is.swept k.value kernel_book;
    }

    pub kernel_ends_so : HasEndedKernel trace c (record w { note = note_after event w.note }) b (record k { journal = journal_after event (w.note.cell ∷ []) k.journal }) event
    kernel_ends_so =
        subst (λ (e : Event). HasEndedKernel trace c (record w { note = note_after e w.note }) b (record k { journal = journal_after e (w.note.cell ∷ []) k.journal }) e) (sym swept_is.event_is)
        (subst (λ (x : HoldingsValue). HasEndedKernel trace c (record x { note = note_after kernel_event x.note }) b (record k { journal = journal_after kernel_event (x.note.cell ∷ []) k.journal }) kernel_event) (sym swept_is.kernel_is)
        (subst (λ (x : BookRecord). HasEndedKernel trace c (record c { note = note_after kernel_event c.note; value = w.value }) b (record x { journal = journal_after kernel_event (c.note.cell ∷ []) x.journal }) kernel_event)
        (sym (swept_is.book_is ∙ sym (ap (λ (x : BookRecord). record b { value = x.value }) swept_is.book_is))) kernel_ended))

-- what is known once the cell has met the journal
pub heap_can_be_swept : (trace : Trace) (c : HeapRecord) (b : BookRecord) → CanEndHeap trace c b → FitsTheBook trace (User c.pid) c.note c.value b →
    CanSweep trace (User c.pid) (met_note b.journal c.note) c.value b
heap_can_be_swept trace c b can told = record {
  book_stands = can.book_stands;
  after = record { met = told.shows.met; shows = told.shows.shows can.collects.settled };
  marked = can.collects.in_phase;
  room = can.room told.fits;
}

pub kernel_can_be_swept : (trace : Trace) (c : HoldingsValue) (b : BookRecord) → CanEndKernel trace c b → FitsTheBook trace Kernel c.note c.value b →
    CanSweep trace Kernel (met_note b.journal c.note) c.value b
kernel_can_be_swept trace c b can told = record {
  book_stands = can.book_stands;
  after = record { met = told.shows.met; shows = told.shows.shows can.collects.agrees.tail };
  marked = can.collects.in_phase;
  room = can.room told.fits;
}

-- the end of a collection does not depend on the note and the value that the cell had
pub ended_since : (trace : Trace) (c w : HeapRecord) (n m : NoteValue) (u v : CellValue) (b k : BookRecord) (e : Event) → HasEndedHeap trace (record c { note = n; value = u }) w b k e →
    HasEndedHeap trace (record c { note = m; value = v }) w b k e
ended_since trace c w n m u v b k e h = record {
  objects = h.objects;
  bytes = h.bytes;
  exits = h.exits;
  shares = h.shares;
  event_is = h.event_is;
  appended = h.appended;
  heap_goes_on = record {
    cell_is = h.heap_goes_on.cell_is;
    table = h.heap_goes_on.table;
    settled = h.heap_goes_on.settled;
    in_phase = h.heap_goes_on.in_phase;
    met = h.heap_goes_on.met;
    agrees = h.heap_goes_on.agrees;
  };
  left = h.left;
}

pub kernel_ended_since : (trace : Trace) (c w : HoldingsValue) (n m : NoteValue) (u v : CellValue) (b k : BookRecord) (e : Event) → HasEndedKernel trace (record c { note = n; value = u }) w b k e →
    HasEndedKernel trace (record c { note = m; value = v }) w b k e
kernel_ended_since trace c w n m u v b k e h = record {
  objects = h.objects;
  bytes = h.bytes;
  exits = h.exits;
  event_is = h.event_is;
  appended = h.appended;
  kernel_goes_on = record {
    kernel_is = h.kernel_goes_on.kernel_is;
    table = h.kernel_goes_on.table;
    in_phase = h.kernel_goes_on.in_phase;
    met = h.kernel_goes_on.met;
    agrees = h.kernel_goes_on.agrees;
  };
  left = h.left;
}

module _ (trace : Trace) (c : HeapRecord) (b : BookRecord) (can : CanEndHeap trace c b) (told : FitsTheBook trace (User c.pid) c.note c.value b) (w : HeapRecord) (k : BookRecord) (event : Event)
    (swept_is : HasSweptHeap trace (record c { note = met_note b.journal c.note }) w b k event) where
  pub heap_table : w.note.table ≡ k.journal.table
  heap_table = ap (λ (x : HeapRecord). x.note.table) swept_is.cell_is ∙ can.collects.table ∙ sym (ap (λ (x : BookRecord). x.journal.table) swept_is.book_is)

  pub heap_list : w.note.list ≡ k.journal.list
  heap_list = ap (λ (x : HeapRecord). x.note.list) swept_is.cell_is ∙ sym (ap (λ (x : BookRecord). x.journal.list) swept_is.book_is)

  pub heap_room : length k.journal.list < k.event_room
  heap_room = subst (λ (x : BookRecord). length x.journal.list < x.event_room) (sym swept_is.book_is) (can.room told.fits)

  pub heap_has_ended : HasEndedHeap trace c (record w { note = note_after event w.note }) b (record k { journal = journal_after event (w.note.cell ∷ []) k.journal }) event
  heap_has_ended =
      ended_since trace c (record w { note = note_after event w.note }) (met_note b.journal c.note) c.note c.value c.value b (record k { journal = journal_after event (w.note.cell ∷ []) k.journal }) event
      (heap_ends trace (record c { note = met_note b.journal c.note }) b (heap_can_be_swept trace c b can told) w k event swept_is can.collects.settled can.collects.table)

module _ (trace : Trace) (c : HoldingsValue) (b : BookRecord) (can : CanEndKernel trace c b) (told : FitsTheBook trace Kernel c.note c.value b) (w : HoldingsValue) (k : BookRecord) (event : Event)
    (swept_is : HasSweptKernel trace (record c { note = met_note b.journal c.note }) w b k event) where
  pub kernel_table : w.note.table ≡ k.journal.table
  kernel_table = ap (λ (x : HoldingsValue). x.note.table) swept_is.kernel_is ∙ can.collects.table ∙ sym (ap (λ (x : BookRecord). x.journal.table) swept_is.book_is)

  pub kernel_list : w.note.list ≡ k.journal.list
  kernel_list = ap (λ (x : HoldingsValue). x.note.list) swept_is.kernel_is ∙ sym (ap (λ (x : BookRecord). x.journal.list) swept_is.book_is)

  pub kernel_room : length k.journal.list < k.event_room
  kernel_room = subst (λ (x : BookRecord). length x.journal.list < x.event_room) (sym swept_is.book_is) (can.room told.fits)

  pub kernel_has_ended : HasEndedKernel trace c (record w { note = note_after event w.note }) b (record k { journal = journal_after event (w.note.cell ∷ []) k.journal }) event
  kernel_has_ended =
      kernel_ended_since trace c (record w { note = note_after event w.note }) (met_note b.journal c.note) c.note c.value c.value b (record k { journal = journal_after event (w.note.cell ∷ []) k.journal }) event
      (kernel_ends_so trace (record c { note = met_note b.journal c.note }) b (kernel_can_be_swept trace c b can told) w k event swept_is can.collects.table can.collects.agrees.tail)
