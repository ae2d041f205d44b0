-- The calls of a beginning, one after the other: the meeting, the roots, the count and the append.
use Rattle.std.proofs.Common.{◌≡◌, ◌-◌, ◌<◌, ◌^◌, sym, ap, subst, ◌∙◌, [], ◌∷◌, length, true}
use Rattle.k_types.specs.declared.event.Event.TheVariants.{Closing, Done}
use Rattle.k_types.specs.declared.event.Reply.TheVariants.{Done as DoneReply}
use Rattle.k_types.specs.declared.names.Heap.TheVariants.{Kernel, User}
use Rattle.k_types.specs.declared.names.Pid.{Pid}
use Rattle.k_types.specs.declared.op.Op.TheVariants.{Collect, KCollect}
use Rattle.k_types.specs.Bounds.{register_count}
use Rattle.k_types.specs.Trace.{Trace}
use Rattle.k_laws.specs.BookChanges.{registers_in}
use Rattle.k_laws.specs.PartUpdates.{done_in}
use Rattle.k_agree.specs.Committing.{journal_after, note_after}
use Rattle.k_agree.specs.GivingAway.{with_one_done}
use Rattle.k_agree.specs.Marking.{begun}
use Rattle.k_agree.specs.Meeting.{met_note}
use Rattle.k_commit.specs.k_book.Books.{BookRecord}
use Rattle.k_commit.specs.k_cell.Holdings.{HoldingsValue}
use Rattle.k_commit.specs.k_heap.Heaps.{HeapRecord}
use Rattle.k_commit.specs.Met.{CanMeet, FitsTheBook, HeapHasMet, KernelHasMet}
use Rattle.k_commit.specs.Others.{held_by}
use Rattle.k_collect.specs.Begun.{HasBegunHeap, HasBegunKernel, HasClosed}
use Rattle.k_collect.specs.Collecting.{CanBeginHeap, CanBeginKernel, CanClose}
use Rattle.k_commit.specs.k_cell.Changes.{HasGrayed}
use Rattle.k_collect.specs.Graying.{is_root_by}
use Rattle.k_collect.proofs.Begins.{begun_heap, done_fits, registers_there}
use Rattle.k_collect.proofs.KernelBegins.{kernel_begins, kernel_closes, kernel_done_fits}
use Rattle.k_types.specs.Agree.{CellValue}

-- `collect`
module _ (trace : Trace) (c : HeapRecord) (b : BookRecord) (can : CanBeginHeap trace c b) (d : HeapRecord) (k : BookRecord) (met : HeapHasMet trace c d b k) where
  pub registers_met : length (registers_in d.value.process) ≡ register_count
  registers_met = ap (λ (x : HeapRecord). length (registers_in x.value.process)) met.cell_is ∙ registers_there trace c b can met.told

  module _ (e : HeapRecord) (grayed : HasGrayed (is_root_by (User d.pid) k d.value) (begun [] d.value) e.value) where
    pub done_counts : done_in e.value.process < 2 ^ 64 - 1
    done_counts =
        subst (λ q. done_in q < 2 ^ 64 - 1)
        (sym (ap (λ (v : CellValue). v.process) grayed.rest ∙ ap (λ (x : HeapRecord). x.value.process) met.cell_is)) (done_fits trace c b can met.told)

    module _ (f : HeapRecord) (kept : e ≡ record d { value = e.value }) (counts : f ≡ record e { value = with_one_done e.value }) where
      counted_is : f ≡ record c { note = met_note b.journal c.note; value = with_one_done e.value }
      counted_is =
          counts
          ∙ ap (λ (x : HeapRecord). record x { value = with_one_done e.value }) kept
          ∙ ap (λ (x : HeapRecord). record x { value = with_one_done e.value }) met.cell_is

      pub counted_table : f.note.table ≡ k.journal.table
      counted_table = ap (λ (x : HeapRecord). x.note.table) counted_is ∙ can.heap_stands.table ∙ sym (ap (λ (y : BookRecord). y.journal.table) met.book_is)

      pub counted_list : f.note.list ≡ k.journal.list
      counted_list = ap (λ (x : HeapRecord). x.note.list) counted_is ∙ sym (ap (λ (y : BookRecord). y.journal.list) met.book_is)

      pub event_room : length k.journal.list < k.event_room
      event_room = subst (λ (y : BookRecord). length y.journal.list < y.event_room) (sym met.book_is) (can.room met.told.fits)

      gray_before : HasGrayed (is_root_by (User c.pid) b c.value) (begun [] c.value) e.value
      gray_before =
          subst (λ (y : BookRecord). HasGrayed (is_root_by (User c.pid) y c.value) (begun [] c.value) e.value) met.book_is
          (subst (λ (x : HeapRecord). HasGrayed (is_root_by (User x.pid) k x.value) (begun [] x.value) e.value) met.cell_is grayed)

      pub called : (pid : Pid) → pid ≡ f.pid → HasBegunHeap trace c (record f { note = note_after (Done pid Collect DoneReply) f.note })
          b (record k { journal = journal_after (Done pid Collect DoneReply) (f.note.cell ∷ []) k.journal }) (Done pid Collect DoneReply)
      called pid is =
          subst (λ (q : Pid). HasBegunHeap trace c (record f { note = note_after (Done q Collect DoneReply) f.note }) b (record k { journal = journal_after (Done q Collect DoneReply) (f.note.cell ∷ []) k.journal }) (Done q Collect DoneReply))
          (sym (is ∙ ap (λ (x : HeapRecord). x.pid) counted_is))
          (subst (λ (x : HeapRecord). HasBegunHeap trace c (record x { note = note_after (Done c.pid Collect DoneReply) x.note }) b (record k { journal = journal_after (Done c.pid Collect DoneReply) (x.note.cell ∷ []) k.journal }) (Done c.pid Collect DoneReply))
          (sym counted_is)
          (subst (λ (y : BookRecord). HasBegunHeap trace c (record c { note = note_after (Done c.pid Collect DoneReply) (met_note b.journal c.note); value = with_one_done e.value })
          b (record y { journal = journal_after (Done c.pid Collect DoneReply) (c.note.cell ∷ []) y.journal }) (Done c.pid Collect DoneReply))
          (sym met.book_is) (begun_heap trace c b can met.told e.value gray_before)))

-- `kcollect`
module _ (trace : Trace) (c : HeapRecord) (k : HoldingsValue) (b : BookRecord) (can : CanBeginKernel trace c k b) (d : HeapRecord) (l : BookRecord) (met : HeapHasMet trace c d b l) where
  pub kernel_can_meet : CanMeet trace Kernel k.note k.value l
  kernel_can_meet = subst (λ (y : BookRecord). CanMeet trace Kernel k.note k.value y) (sym met.book_is)
      (record { agrees = can.kernel_stands.agrees; book_agrees = can.book_stands.agrees; table = can.kernel_stands.table })

  module _ (m : HoldingsValue) (j : BookRecord) (kernel_met : KernelHasMet trace k m l j) where
    last_book : j ≡ b
    last_book = kernel_met.book_is ∙ met.book_is

    kernel_told : FitsTheBook trace Kernel k.note k.value b
    kernel_told = subst (FitsTheBook trace Kernel k.note k.value) met.book_is kernel_met.told

    pub kernel_done_counts : done_in d.value.process < 2 ^ 64 - 1
    kernel_done_counts = subst (λ (x : HeapRecord). done_in x.value.process < 2 ^ 64 - 1) (sym met.cell_is) (kernel_done_fits trace c k b can met.told kernel_told)

    module _ (n : HoldingsValue) (f : HeapRecord) (kept : n ≡ record m { value = n.value }) (grayed : HasGrayed (is_root_by Kernel j m.value) (begun [] m.value) n.value) (counts : f ≡ record d { value = with_one_done d.value }) where
      cell_is : f ≡ record c { note = met_note b.journal c.note; value = with_one_done c.value }
      cell_is = counts ∙ ap (λ (x : HeapRecord). record x { value = with_one_done x.value }) met.cell_is

      kernel_is : n ≡ record k { note = met_note b.journal k.note; value = n.value }
      kernel_is =
          kept
          ∙ ap (λ (x : HoldingsValue). record x { value = n.value }) (ap held_by kernel_met.other_is)
          ∙ ap (λ (y : BookRecord). record k { note = met_note y.journal k.note; value = n.value }) met.book_is

      pub cell_table : f.note.table ≡ j.journal.table
      cell_table = ap (λ (x : HeapRecord). x.note.table) cell_is ∙ can.heap_stands.table ∙ sym (ap (λ (y : BookRecord). y.journal.table) last_book)

      pub second_table : n.note.table ≡ j.journal.table
      second_table = ap (λ (x : HoldingsValue). x.note.table) kernel_is ∙ can.kernel_stands.table ∙ sym (ap (λ (y : BookRecord). y.journal.table) last_book)

      pub cell_list : f.note.list ≡ j.journal.list
      cell_list = ap (λ (x : HeapRecord). x.note.list) cell_is ∙ sym (ap (λ (y : BookRecord). y.journal.list) last_book)

      pub second_list : n.note.list ≡ j.journal.list
      second_list = ap (λ (x : HoldingsValue). x.note.list) kernel_is ∙ sym (ap (λ (y : BookRecord). y.journal.list) last_book)

      pub both_room : length j.journal.list < j.event_room
      both_room = subst (λ (y : BookRecord). length y.journal.list < y.event_room) (sym last_book) (can.room met.told.fits kernel_told.fits)

      gray_kernel : HasGrayed (is_root_by Kernel b k.value) (begun [] k.value) n.value
      gray_kernel =
          subst (λ (y : BookRecord). HasGrayed (is_root_by Kernel y k.value) (begun [] k.value) n.value) last_book
          (subst (λ (x : HoldingsValue). HasGrayed (is_root_by Kernel j x.value) (begun [] x.value) n.value) (ap held_by kernel_met.other_is) grayed)

      pub called_both : (pid : Pid) → pid ≡ f.pid → HasBegunKernel trace c (record f { note = note_after (Done pid KCollect DoneReply) f.note }) k (record n { note = note_after (Done pid KCollect DoneReply) n.note })
          b (record j { journal = journal_after (Done pid KCollect DoneReply) (f.note.cell ∷ n.note.cell ∷ []) j.journal }) (Done pid KCollect DoneReply)
      called_both pid is =
          subst (λ (q : Pid). HasBegunKernel trace c (record f { note = note_after (Done q KCollect DoneReply) f.note }) k (record n { note = note_after (Done q KCollect DoneReply) n.note })
          b (record j { journal = journal_after (Done q KCollect DoneReply) (f.note.cell ∷ n.note.cell ∷ []) j.journal }) (Done q KCollect DoneReply))
          (sym (is ∙ ap (λ (x : HeapRecord). x.pid) cell_is))
          (subst (λ (x : HeapRecord). HasBegunKernel trace c (record x { note = note_after (Done c.pid KCollect DoneReply) x.note }) k (record n { note = note_after (Done c.pid KCollect DoneReply) n.note })
          b (record j { journal = journal_after (Done c.pid KCollect DoneReply) (x.note.cell ∷ n.note.cell ∷ []) j.journal }) (Done c.pid KCollect DoneReply))
          (sym cell_is)
          (subst (λ (x : HoldingsValue). HasBegunKernel trace c (record c { note = note_after (Done c.pid KCollect DoneReply) (met_note b.journal c.note); value = with_one_done c.value })
          k (record x { note = note_after (Done c.pid KCollect DoneReply) x.note })
          b (record j { journal = journal_after (Done c.pid KCollect DoneReply) (c.note.cell ∷ x.note.cell ∷ []) j.journal }) (Done c.pid KCollect DoneReply))
          (sym kernel_is)
          (subst (λ (y : BookRecord). HasBegunKernel trace c (record c { note = note_after (Done c.pid KCollect DoneReply) (met_note b.journal c.note); value = with_one_done c.value })
          k (record k { note = note_after (Done c.pid KCollect DoneReply) (met_note b.journal k.note); value = n.value })
          b (record y { journal = journal_after (Done c.pid KCollect DoneReply) (c.note.cell ∷ k.note.cell ∷ []) y.journal }) (Done c.pid KCollect DoneReply))
          (sym last_book) (kernel_begins trace c k b can met.told kernel_told n.value gray_kernel))))

-- the closing
module _ (trace : Trace) (k : HoldingsValue) (b : BookRecord) (can : CanClose trace k b) (m : HoldingsValue) (j : BookRecord) (met : KernelHasMet trace k m b j)
    (n : HoldingsValue) (l : BookRecord) (kept : n ≡ record m { value = n.value }) (grayed : HasGrayed (is_root_by Kernel j m.value) (begun [] m.value) n.value)
    (closes : l ≡ record j { value = record j.value { closed = true } }) where
  closing_kernel : n ≡ record k { note = met_note b.journal k.note; value = n.value }
  closing_kernel = kept ∙ ap (λ (x : HoldingsValue). record x { value = n.value }) (ap held_by met.other_is)

  closing_last : l ≡ record b { value = record b.value { closed = true } }
  closing_last = closes ∙ ap (λ (y : BookRecord). record y { value = record y.value { closed = true } }) met.book_is

  pub closing_table : n.note.table ≡ l.journal.table
  closing_table = ap (λ (x : HoldingsValue). x.note.table) closing_kernel ∙ can.kernel_stands.table ∙ sym (ap (λ (y : BookRecord). y.journal.table) closing_last)

  pub closing_list : n.note.list ≡ l.journal.list
  closing_list = ap (λ (x : HoldingsValue). x.note.list) closing_kernel ∙ sym (ap (λ (y : BookRecord). y.journal.list) closing_last)

  pub closing_room : length l.journal.list < l.event_room
  closing_room = subst (λ (y : BookRecord). length y.journal.list < y.event_room) (sym closing_last) (can.room met.told.fits)

  closing_gray : HasGrayed (is_root_by Kernel b k.value) (begun [] k.value) n.value
  closing_gray =
      subst (λ (y : BookRecord). HasGrayed (is_root_by Kernel y k.value) (begun [] k.value) n.value) met.book_is
      (subst (λ (x : HoldingsValue). HasGrayed (is_root_by Kernel j x.value) (begun [] x.value) n.value) (ap held_by met.other_is) grayed)

  pub called_closing : HasClosed trace k (record n { note = note_after Closing n.note }) b (record l { journal = journal_after Closing (n.note.cell ∷ []) l.journal }) Closing
  called_closing =
      subst (λ (x : HoldingsValue). HasClosed trace k (record x { note = note_after Closing x.note }) b (record l { journal = journal_after Closing (x.note.cell ∷ []) l.journal }) Closing) (sym closing_kernel)
      (subst (λ (y : BookRecord). HasClosed trace k (record k { note = note_after Closing (met_note b.journal k.note); value = n.value }) b (record y { journal = journal_after Closing (k.note.cell ∷ []) y.journal }) Closing)
      (sym closing_last) (kernel_closes trace k b can met.told n.value closing_gray))
