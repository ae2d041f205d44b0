-- What goes at the end of a collection, call by call: the sweep, the drain, the end of the marks, the shares and the credit.
use Rattle.std.proofs.Common.{◌≡◌, ◌+◌, ◌-◌, ◌<◌, ◌≤◌, ◌^◌, ◌&&◌, Bool, true, ℕ, sym, ap, ap₂, ◌∙◌, subst, List, [], ◌∷◌, length, get_or, set, arith}
use Rattle.k_types.specs.declared.event.Event.{Event}
use Rattle.k_types.specs.declared.event.Event.TheVariants.{Ended}
use Rattle.k_types.specs.declared.names.CellPhase.TheVariants.{Idle, Marked}
use Rattle.k_types.specs.declared.names.Heap.TheVariants.{Kernel, User}
use Rattle.k_types.specs.declared.names.LimitId.{LimitId}
use Rattle.k_types.specs.declared.names.Pid.{Pid}
use Rattle.k_types.specs.Agree.{CellValue}
use Rattle.k_types.specs.Names.{name_among}
use Rattle.k_types.specs.Numbers.{numbers_below}
use Rattle.k_types.specs.State.{has_share}
use Rattle.k_types.specs.Trace.{Trace, limit_of}
use Rattle.k_types.specs.Distinct.{AreDistinctNames}
use Rattle.k_mark.specs.declared.sweeping.Swept.{Swept}
use Rattle.k_tie.specs.Values.{NoteValue}
use Rattle.k_agree.specs.Committing.{journal_after, note_after}
use Rattle.k_agree.specs.Ending.{HasLeft, bytes_unshared, dropped, dropped_exits, dropped_shares, freed_bytes, keeps_way, swept}
use Rattle.k_agree.specs.Meeting.{Fits, met_note}
use Rattle.k_agree.proofs.Swept.{among_kept}
use Rattle.k_commit.specs.k_book.Books.{BookRecord}
use Rattle.k_commit.specs.k_book.Calls.{ChangesEntries}
use Rattle.k_commit.specs.k_cell.Changes.{with_black_alone}
use Rattle.k_commit.specs.k_cell.Holdings.{HoldingsValue}
use Rattle.k_commit.specs.k_heap.Heaps.{HeapRecord}
use Rattle.k_commit.specs.Met.{FitsTheBook}
use Rattle.k_commit.proofs.Meetings.{told_by}
use Rattle.k_collect.specs.Ended.{HasEndedHeap, HasEndedKernel}
use Rattle.k_collect.specs.Leaving.{HasItsEntries, HasLeftUnmarked}
use Rattle.k_collect.specs.SweptAlone.{CanEndSwept, CanEndSweptKernel, KernelNoteHasMet, NoteHasMet}
use Rattle.k_collect.specs.Unsharing.{CanUnshare, HasUnshared, bytes_lost, shares_lost, ways_left}
use Rattle.k_collect.proofs.WhatGoes.{CanSweep, HasSweptHeap, HasSweptKernel, IsSwept, owners_now}
use Rattle.k_collect.proofs.Ends.{book_alone, can_unshare, credit_fits, credit_within, ended_since, entries_there, heap_can_be_swept, heap_has_ended, heap_list, heap_room, heap_table, kernel_can_be_swept, kernel_ended_since, kernel_has_ended, kernel_list, kernel_room, kernel_table, known, limit_there, limit_told, lost_bytes, lost_shares, settles, ways_same}
use Rattle.k_collect.proofs.Unshared.{same_bytes_lost, same_shares_lost, same_unshared}

-- the cell without marks
abbrev pub without_marks : CellValue → CellValue
without_marks v = record v { collection = Idle; gray = []; black = []; black_exits = [] }

-- the value after the sweep and the drain
pub swept_value : (v s l e : CellValue) → s ≡ with_black_alone v → HasLeftUnmarked s l → AreDistinctNames s.exits → e ≡ without_marks l → IsSwept v e
swept_value v s l e sweeps left distinct ends =
    let value : e ≡ record (swept v) { exits = l.exits } =
    ends
    ∙ ap without_marks left.rest
    ∙ ap (λ (x : CellValue). without_marks (record x { exits = l.exits; black_exits = l.black_exits })) sweeps in
    record {
      rest = value ∙ sym (ap (λ (x : CellValue). record (swept v) { exits = x.exits }) value);
      exits = λ n.
          ap (λ (x : CellValue). name_among n x.exits) ends
          ∙ left.exits n
          ∙ ap (λ (x : CellValue). name_among n x.exits && name_among n x.black_exits) sweeps
          ∙ sym (among_kept (λ m. name_among m v.black_exits) v.exits n);
      distinct = subst AreDistinctNames (ap (λ (x : CellValue). x.exits) sweeps) distinct;
    }

-- the event with the same numbers
pub ended_same : {q r : Pid} {a b c d u v w x : ℕ} → q ≡ r → a ≡ u → b ≡ v → c ≡ w → d ≡ x → Ended (User q) a b c d ≡ Ended (User r) u v w x
ended_same p e f g h = cc

pub kernel_ended_same : {a b c u v w : ℕ} → a ≡ u → b ≡ v → c ≡ w → Ended Kernel a b c 0 ≡ Ended Kernel u v w 0
kernel_ended_same e f g = cc

-- what the append of the end asks of cell and book
pub record CanAppendTo (note : NoteValue) (book : BookRecord) : Type 0 where
  pub table : note.table ≡ book.journal.table
  pub list : note.list ≡ book.journal.list
  pub room : length book.journal.list < book.event_room

-- a process's cell that was swept alone and then met the journal
module _ (trace : Trace) (x : HeapRecord) (o : BookRecord) (freed : Swept) (n : CanEndSwept trace x o freed) where
  pub note_table : x.note.table ≡ o.journal.table
  note_table = ap (λ (y : HeapRecord). y.note.table) n.swept.cell_is ∙ n.can.collects.table

  module _ (s : HeapRecord) (b : BookRecord) (met : NoteHasMet x s o b) where
    -- the cell that met the journal and was not swept
    abbrev c : HeapRecord
    c = record n.before { note = met_note o.journal n.before.note }

    told : FitsTheBook trace (User n.before.pid) n.before.note n.before.value o
    told = told_by trace (User n.before.pid) n.before.note n.before.value o (record { agrees = n.can.collects.agrees; book_agrees = n.can.book_stands.agrees; table = n.can.collects.table })
        (subst (λ (y : HeapRecord). Fits o.journal y.note) n.swept.cell_is met.fits) met.few

    can : CanSweep trace (User c.pid) c.note c.value b
    can = subst (λ (y : BookRecord). CanSweep trace (User n.before.pid) (met_note o.journal n.before.note) n.before.value y) (sym met.book_is) (heap_can_be_swept trace n.before o n.can told)

    sweeps : s ≡ record c { value = with_black_alone c.value }
    sweeps = met.cell_is ∙ ap (λ (y : HeapRecord). record y { note = met_note o.journal y.note }) n.swept.cell_is

    pub marked_still : s.value.collection ≡ Marked
    marked_still = ap (λ (y : HeapRecord). y.value.collection) sweeps ∙ n.can.collects.in_phase

    pub entries_still : HasItsEntries s.value b.value
    entries_still m there = entries_there trace (User c.pid) c.note c.value b can m (sym (ap (λ (y : HeapRecord). name_among m y.value.exits) sweeps) ∙ there)

    module _ (l e : HeapRecord) (k : BookRecord) (left_rest : l ≡ record s { value = l.value }) (left : HasLeftUnmarked s.value l.value) (distinct : AreDistinctNames s.value.exits) (changes : ChangesEntries b k)
        (entries : HasLeft (dropped s.value) b.value k.value) (ends : e ≡ record l { value = without_marks l.value }) where
      pub cell_alone : e ≡ record c { value = e.value }
      cell_alone =
          let is : e ≡ record c { value = without_marks l.value } =
          ends ∙ ap (λ (x : HeapRecord). record x { value = without_marks l.value }) left_rest ∙ ap (λ (x : HeapRecord). record x { value = without_marks l.value }) sweeps in
          is ∙ sym (ap (λ (x : HeapRecord). record c { value = x.value }) is)

      same_pid : e.pid ≡ c.pid
      same_pid = ap (λ (x : HeapRecord). x.pid) cell_alone

      pub cell_swept : IsSwept c.value e.value
      cell_swept = swept_value c.value s.value l.value e.value (ap (λ (x : HeapRecord). x.value) sweeps) left distinct (ap (λ (x : HeapRecord). x.value) ends)

      abbrev stays : ℕ → Bool
      stays = keeps_way (owners_now trace b) b.value c.value c.pid.0

      abbrev ways : ℕ → Bool
      ways = ways_left e.value c.pid.0 k

      pub can_unshare_now : CanUnshare e.value e.pid.0 k
      can_unshare_now = subst (λ (q : Pid). CanUnshare e.value q.0 k) (sym same_pid) (can_unshare trace c b can e.value k changes (ap (λ (x : CellValue). x.process) cell_swept.rest) cell_swept.exits)

      same_ways : (t : ℕ) → has_share k.value.shares c.pid.0 t ≡ true → ways t ≡ stays t
      same_ways = ways_same trace c b can e.value k changes (ap (λ (x : CellValue). x.process) cell_swept.rest) cell_swept.exits

      left_entries : HasLeft (dropped c.value) b.value k.value
      left_entries = subst (λ (x : CellValue). HasLeft (dropped x) b.value k.value) (ap (λ (x : HeapRecord). x.value) sweeps) entries

      lost_bytes_now : bytes_lost (ways_left e.value e.pid.0 k) k.value e.pid.0 (numbers_below (length k.value.phases)) ≡ bytes_unshared trace (owners_now trace b) b.value c.value c.pid.0
      lost_bytes_now =
          ap (λ (q : Pid). bytes_lost (ways_left e.value q.0 k) k.value q.0 (numbers_below (length k.value.phases))) same_pid
          ∙ same_bytes_lost ways stays c.pid.0 k same_ways (numbers_below (length k.value.phases))
          ∙ ap (λ (x : BookRecord). bytes_lost stays x.value c.pid.0 (numbers_below (length x.value.phases))) changes
          ∙ lost_bytes trace c b can

      lost_shares_now : shares_lost (ways_left e.value e.pid.0 k) k.value e.pid.0 (numbers_below (length k.value.phases)) ≡ dropped_shares trace (owners_now trace b) b.value c.value c.pid.0
      lost_shares_now =
          ap (λ (q : Pid). shares_lost (ways_left e.value q.0 k) k.value q.0 (numbers_below (length k.value.phases))) same_pid
          ∙ same_shares_lost ways stays c.pid.0 k same_ways (numbers_below (length k.value.phases))
          ∙ ap (λ (x : BookRecord). shares_lost stays x.value c.pid.0 (numbers_below (length x.value.phases))) changes
          ∙ lost_shares trace c b can

      module _ (m : BookRecord) (unshared : HasUnshared (ways_left e.value e.pid.0 k) e.pid.0 k m) where
        unshared_own : HasUnshared stays c.pid.0 k m
        unshared_own = same_unshared ways stays c.pid.0 k same_ways m (subst (λ (q : Pid). HasUnshared (ways_left e.value q.0 k) q.0 k m) same_pid unshared)

        -- rows and processes of the book are as they were, and what is charged
        same_rows : m.rows ≡ b.rows
        same_rows = ap (λ (x : BookRecord). x.rows) unshared.rest ∙ ap (λ (x : BookRecord). x.rows) changes

        same_procs : m.procs ≡ b.procs
        same_procs = ap (λ (x : BookRecord). x.procs) unshared.rest ∙ ap (λ (x : BookRecord). x.procs) changes

        same_direct : m.value.direct ≡ b.value.direct
        same_direct = ap (λ (x : BookRecord). x.value.direct) unshared.rest ∙ ap (λ (x : BookRecord). x.value.direct) changes

        pub process_below : (pid : Pid) → pid ≡ e.pid → pid.0 < length m.procs
        process_below pid is =
            let count = ap length same_procs ∙ ap length can.book_stands.of_trace.procs in
            let number = ap (λ (q : Pid). q.0) (is ∙ same_pid) in
            let below = known trace c b can in
            omega (arith, count, number, below)

        module _ (pid : Pid) (pid_is : pid ≡ e.pid) (limit : LimitId) (limit_is : limit ≡ get_or m.procs pid.0 (record { 0 = 0 })) where
          pub limit_is_of : limit.0 ≡ limit_of trace c.pid.0
          limit_is_of =
              ap (λ (x : LimitId). x.0) (limit_is ∙ ap (λ (q : Pid). get_or m.procs q.0 (record { 0 = 0 })) (pid_is ∙ same_pid) ∙ ap (λ (procs : List LimitId). get_or procs c.pid.0 (record { 0 = 0 })) same_procs)
              ∙ limit_told trace c b can

          pub limit_below : limit.0 < length m.rows
          limit_below =
              let rows = ap length same_rows in
              let there = limit_there trace c b can in
              omega (arith, rows, there, limit_is_of)

          module _ (bytes : ℕ) (bytes_is : bytes ≡ bytes_lost (ways_left e.value e.pid.0 k) k.value e.pid.0 (numbers_below (length k.value.phases))) where
            amount_is : freed.bytes + bytes ≡ freed_bytes c.value + bytes_unshared trace (owners_now trace b) b.value c.value c.pid.0
            amount_is = ap₂ (λ i j. i + j) n.swept.bytes (bytes_is ∙ lost_bytes_now)

            pub sum_fits : freed.bytes + bytes < 2 ^ 64
            sum_fits = let fits = credit_fits trace c b can in omega (arith, amount_is, fits)

            pub credit_there : freed.bytes + bytes ≤ get_or m.value.direct limit.0 0
            credit_there =
                let within = credit_within trace c b can in
                let direct = ap₂ (λ (d : List ℕ) (i : ℕ). get_or d i 0) same_direct limit_is_of in
                omega (arith, amount_is, within, direct)

            module _ (last : BookRecord) (credits : last ≡ record m { value = record m.value { direct = set m.value.direct limit.0 (get_or m.value.direct limit.0 0 - (freed.bytes + bytes)) } })
                (named : Pid) (named_is : named ≡ e.pid) (exits shares : ℕ) (exits_is : exits ≡ dropped_exits s.value)
                (shares_is : shares ≡ shares_lost (ways_left e.value e.pid.0 k) k.value e.pid.0 (numbers_below (length k.value.phases))) where
              abbrev event : Event
              event = Ended (User named) freed.objects freed.bytes exits shares

              goes : HasSweptHeap trace c e b last event
              goes = record {
                cell_is = cell_alone;
                swept = cell_swept;
                book_is = book_alone trace c b can k m last limit.0 (freed.bytes + bytes) changes left_entries unshared_own credits limit_is_of amount_is;
                settled = settles trace c b can k m last limit.0 (freed.bytes + bytes) changes left_entries unshared_own credits limit_is_of amount_is;
                event_is = ended_same (named_is ∙ same_pid) n.swept.objects n.swept.bytes (exits_is ∙ ap (λ (y : HeapRecord). dropped_exits y.value) sweeps) (shares_is ∙ lost_shares_now);
              }

              -- the same, beside the book before the meeting
              goes_since : HasSweptHeap trace c e o last event
              goes_since = subst (λ (y : BookRecord). HasSweptHeap trace c e y last event) met.book_is goes

              pub can_append : CanAppendTo e.note last
              can_append = record {
                table = heap_table trace n.before o n.can told e last event goes_since;
                list = heap_list trace n.before o n.can told e last event goes_since;
                room = heap_room trace n.before o n.can told e last event goes_since;
              }

              abbrev then : HeapRecord
              then = record e { note = note_after event e.note }

              abbrev after : BookRecord
              after = record last { journal = journal_after event (e.note.cell ∷ []) last.journal }

              pub swept_has_ended : HasEndedHeap trace x then o after event
              swept_has_ended =
                  subst (λ (y : HeapRecord). HasEndedHeap trace y then o after event) (sym n.swept.cell_is)
                  (ended_since trace n.before then n.before.note n.before.note n.before.value (with_black_alone n.before.value) o after event (heap_has_ended trace n.before o n.can told e last event goes_since))

-- the same of the kernel's cell
module _ (trace : Trace) (x : HoldingsValue) (o : BookRecord) (freed : Swept) (n : CanEndSweptKernel trace x o freed) where
  pub kernel_note_table : x.note.table ≡ o.journal.table
  kernel_note_table = ap (λ (y : HoldingsValue). y.note.table) n.swept.kernel_is ∙ n.can.collects.table

  module _ (s : HoldingsValue) (b : BookRecord) (met : KernelNoteHasMet x s o b) where
    abbrev kernel : HoldingsValue
    kernel = record n.before { note = met_note o.journal n.before.note }

    kernel_told : FitsTheBook trace Kernel n.before.note n.before.value o
    kernel_told = told_by trace Kernel n.before.note n.before.value o (record { agrees = n.can.collects.agrees; book_agrees = n.can.book_stands.agrees; table = n.can.collects.table })
        (subst (λ (y : HoldingsValue). Fits o.journal y.note) n.swept.kernel_is met.fits) met.few

    kernel_can : CanSweep trace Kernel kernel.note kernel.value b
    kernel_can = subst (λ (y : BookRecord). CanSweep trace Kernel (met_note o.journal n.before.note) n.before.value y) (sym met.book_is) (kernel_can_be_swept trace n.before o n.can kernel_told)

    kernel_sweeps : s ≡ record kernel { value = with_black_alone kernel.value }
    kernel_sweeps = met.kernel_is ∙ ap (λ (y : HoldingsValue). record y { note = met_note o.journal y.note }) n.swept.kernel_is

    pub kernel_marked_still : s.value.collection ≡ Marked
    kernel_marked_still = ap (λ (y : HoldingsValue). y.value.collection) kernel_sweeps ∙ n.can.collects.in_phase

    pub kernel_entries_still : HasItsEntries s.value b.value
    kernel_entries_still m there = entries_there trace Kernel kernel.note kernel.value b kernel_can m (sym (ap (λ (y : HoldingsValue). name_among m y.value.exits) kernel_sweeps) ∙ there)

    module _ (l e : HoldingsValue) (k : BookRecord) (left_rest : l ≡ record s { value = l.value }) (left : HasLeftUnmarked s.value l.value) (distinct : AreDistinctNames s.value.exits) (changes : ChangesEntries b k)
        (entries : HasLeft (dropped s.value) b.value k.value) (ends : e ≡ record l { value = without_marks l.value }) (exits : ℕ) (exits_is : exits ≡ dropped_exits s.value) where
      kernel_alone : e ≡ record kernel { value = e.value }
      kernel_alone =
          let is : e ≡ record kernel { value = without_marks l.value } =
          ends ∙ ap (λ (x : HoldingsValue). record x { value = without_marks l.value }) left_rest ∙ ap (λ (x : HoldingsValue). record x { value = without_marks l.value }) kernel_sweeps in
          is ∙ sym (ap (λ (x : HoldingsValue). record kernel { value = x.value }) is)

      abbrev kernel_event : Event
      kernel_event = Ended Kernel freed.objects freed.bytes exits 0

      kernel_goes : HasSweptKernel trace kernel e b k kernel_event
      kernel_goes = record {
        kernel_is = kernel_alone;
        swept = swept_value kernel.value s.value l.value e.value (ap (λ (x : HoldingsValue). x.value) kernel_sweeps) left distinct (ap (λ (x : HoldingsValue). x.value) ends);
        book_is = changes;
        left = subst (λ (x : CellValue). HasLeft (dropped x) b.value k.value) (ap (λ (x : HoldingsValue). x.value) kernel_sweeps) entries;
        event_is = kernel_ended_same n.swept.objects n.swept.bytes (exits_is ∙ ap (λ (y : HoldingsValue). dropped_exits y.value) kernel_sweeps);
      }

      kernel_goes_since : HasSweptKernel trace kernel e o k kernel_event
      kernel_goes_since = subst (λ (y : BookRecord). HasSweptKernel trace kernel e y k kernel_event) met.book_is kernel_goes

      pub kernel_can_append : CanAppendTo e.note k
      kernel_can_append = record {
        table = kernel_table trace n.before o n.can kernel_told e k kernel_event kernel_goes_since;
        list = kernel_list trace n.before o n.can kernel_told e k kernel_event kernel_goes_since;
        room = kernel_room trace n.before o n.can kernel_told e k kernel_event kernel_goes_since;
      }

      abbrev kernel_then : HoldingsValue
      kernel_then = record e { note = note_after kernel_event e.note }

      abbrev kernel_after : BookRecord
      kernel_after = record k { journal = journal_after kernel_event (e.note.cell ∷ []) k.journal }

      pub kernel_swept_has_ended : HasEndedKernel trace x kernel_then o kernel_after kernel_event
      kernel_swept_has_ended =
          subst (λ (y : HoldingsValue). HasEndedKernel trace y kernel_then o kernel_after kernel_event) (sym n.swept.kernel_is)
          (kernel_ended_since trace n.before kernel_then n.before.note n.before.note n.before.value (with_black_alone n.before.value) o kernel_after kernel_event
          (kernel_has_ended trace n.before o n.can kernel_told e k kernel_event kernel_goes_since))
