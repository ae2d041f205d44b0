-- A marked cell is swept alone, and its collection ends after it as it would have ended before.
use Rattle.std.proofs.Common.{◌≡◌, ◌+◌, ◌-◌, ◌<◌, ◌^◌, sym, ap, ◌∙◌, subst, [], ◌++◌, length, arith}
use Rattle.std.proofs.lemmas.List.{length-append}
use Rattle.k_types.specs.declared.event.Event.{Event}
use Rattle.k_types.specs.declared.names.Heap.TheVariants.{Kernel, User}
use Rattle.k_types.specs.Agree.{CellValue}
use Rattle.k_types.specs.Cells.{Cell}
use Rattle.k_types.specs.Trace.{Trace}
use Rattle.k_mark.specs.declared.sweeping.Swept.{Swept}
use Rattle.k_tie.specs.Values.{NoteValue}
use Rattle.k_agree.specs.Ending.{freed_bytes, freed_objects}
use Rattle.k_agree.specs.Meeting.{met_note}
use Rattle.k_commit.specs.k_book.Books.{BookRecord}
use Rattle.k_commit.specs.k_cell.Changes.{with_black_alone}
use Rattle.k_commit.specs.k_cell.Holdings.{HoldingsValue}
use Rattle.k_commit.specs.k_heap.Heaps.{HeapRecord}
use Rattle.k_commit.specs.Met.{HeapHasMet, KernelHasMet}
use Rattle.k_commit.specs.Others.{held_by}
use Rattle.k_collect.specs.Collecting.{CanEndHeap, CanEndKernel}
use Rattle.k_collect.specs.Ended.{HasEndedHeap, HasEndedKernel}
use Rattle.k_collect.specs.SweptAlone.{CanSweepAlone, HasSweptAlone, KernelHasSweptAlone}
use Rattle.k_collect.proofs.Ends.{ended_since, kernel_ended_since}
use Rattle.k_collect.proofs.Sizes.{freed_few, freed_light}

-- the numbers of what goes fit, by what the cell has seen
module _ (trace : Trace) (cell : Cell) (note : NoteValue) (v : CellValue) (can : CanSweepAlone trace cell note v) where
  pub objects_alone : freed_objects v < 2 ^ 32
  objects_alone = let most = freed_few trace (note.list ++ v.tail) can.keeps can.agrees.legal cell v can.agrees.shows in let few = can.few in omega (arith, most, few)

  pub bytes_alone : freed_bytes v < 2 ^ 64
  bytes_alone =
      let most = freed_light trace (note.list ++ v.tail) can.keeps can.agrees.legal cell v can.agrees.shows in
      let both = length-append note.list v.tail in
      let short = can.short in
      omega (arith, most, both, short)

-- a process's cell meets the journal, is swept, and its collection ends
module _ (trace : Trace) (c d : HeapRecord) (b k : BookRecord) (can : CanEndHeap trace c b) (met : HeapHasMet trace c d b k) where
  short_met : length b.journal.list + length c.value.tail < 2 ^ 55
  short_met = let none = ap length can.collects.settled in let few = met.told.few in let room = can.room met.told.fits in omega (arith, none, few, room)

  pub can_sweep_met : CanSweepAlone trace (User d.pid) d.note d.value
  can_sweep_met = subst (λ (y : HeapRecord). CanSweepAlone trace (User y.pid) y.note y.value) (sym met.cell_is)
      (record { keeps = can.book_stands.keeps; agrees = met.told.shows.agrees; marked = can.collects.in_phase; few = can.few met.told.fits; short = short_met })

  pub can_end_met : CanEndHeap trace d k
  can_end_met = subst (λ (y : BookRecord). CanEndHeap trace d y) (sym met.book_is)
      (subst (λ (y : HeapRecord). CanEndHeap trace y b) (sym met.cell_is)
      (record {
        book_stands = can.book_stands;
        collects = record { agrees = met.told.shows.agrees; table = can.collects.table; settled = can.collects.settled; in_phase = can.collects.in_phase };
        room = λ _. can.room met.told.fits;
        few = λ _. can.few met.told.fits;
      }))

  module _ (s w : HeapRecord) (l : BookRecord) (freed : Swept) (e : Event) (sweeps : HasSweptAlone d s freed) where
    swept_since : s ≡ record c { note = met_note b.journal c.note; value = with_black_alone c.value }
    swept_since = sweeps.cell_is ∙ ap (λ (y : HeapRecord). record y { value = with_black_alone y.value }) met.cell_is

    pub ended_at_last : HasEndedHeap trace s w k l e → HasEndedHeap trace c w b l e
    ended_at_last ended =
        ended_since trace c w (met_note b.journal c.note) c.note (with_black_alone c.value) c.value b l e
        (subst (λ (y : BookRecord). HasEndedHeap trace (record c { note = met_note b.journal c.note; value = with_black_alone c.value }) w y l e) met.book_is
        (subst (λ (y : HeapRecord). HasEndedHeap trace y w k l e) swept_since ended))

-- the same of the kernel's cell
module _ (trace : Trace) (c d : HoldingsValue) (b k : BookRecord) (can : CanEndKernel trace c b) (met : KernelHasMet trace c d b k) where
  kernel_settled : c.value.tail ≡ []
  kernel_settled = can.collects.agrees.tail

  kernel_short : length b.journal.list + length c.value.tail < 2 ^ 55
  kernel_short = let none = ap length kernel_settled in let few = met.told.few in let room = can.room met.told.fits in omega (arith, none, few, room)

  pub kernel_can_sweep_met : CanSweepAlone trace Kernel d.note d.value
  kernel_can_sweep_met = subst (λ (y : HoldingsValue). CanSweepAlone trace Kernel y.note y.value) (sym (ap held_by met.other_is))
      (record { keeps = can.book_stands.keeps; agrees = met.told.shows.agrees; marked = can.collects.in_phase; few = can.few met.told.fits; short = kernel_short })

  pub kernel_can_end_met : CanEndKernel trace d k
  kernel_can_end_met = subst (λ (y : BookRecord). CanEndKernel trace d y) (sym met.book_is)
      (subst (λ (y : HoldingsValue). CanEndKernel trace y b) (sym (ap held_by met.other_is))
      (record {
        book_stands = can.book_stands;
        collects = record { agrees = met.told.shows.agrees; table = can.collects.table; in_phase = can.collects.in_phase };
        room = λ _. can.room met.told.fits;
        few = λ _. can.few met.told.fits;
      }))

  module _ (s w : HoldingsValue) (l : BookRecord) (freed : Swept) (e : Event) (sweeps : KernelHasSweptAlone d s freed) where
    kernel_swept_since : s ≡ record c { note = met_note b.journal c.note; value = with_black_alone c.value }
    kernel_swept_since = sweeps.kernel_is ∙ ap (λ (y : HoldingsValue). record y { value = with_black_alone y.value }) (ap held_by met.other_is)

    pub kernel_ended_at_last : HasEndedKernel trace s w k l e → HasEndedKernel trace c w b l e
    kernel_ended_at_last ended =
        kernel_ended_since trace c w (met_note b.journal c.note) c.note (with_black_alone c.value) c.value b l e
        (subst (λ (y : BookRecord). HasEndedKernel trace (record c { note = met_note b.journal c.note; value = with_black_alone c.value }) w y l e) met.book_is
        (subst (λ (y : HoldingsValue). HasEndedKernel trace y w k l e) kernel_swept_since ended))
