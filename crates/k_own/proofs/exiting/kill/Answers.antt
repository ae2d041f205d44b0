use Rattle.std.proofs.Common.{◌∙◌, [], ◌∷◌, ap, ap₂, sym, subst}
use Rattle.k_types.specs.declared.event.Event.TheVariants.{Done}
use Rattle.k_types.specs.declared.event.Reply.TheVariants.{Done as DoneReply}
use Rattle.k_types.specs.declared.names.Heap.TheVariants.{Kernel, User}
use Rattle.k_types.specs.declared.names.Pid.{Pid}
use Rattle.k_types.specs.declared.op.Op.{Op}
use Rattle.k_agree.specs.Committing.{journal_after, note_after}
use Rattle.k_agree.specs.GivingAway.{with_one_done}
use Rattle.k_commit.specs.k_book.Books.{BookRecord}
use Rattle.k_commit.specs.Met.{CanMeet}
use Rattle.k_commit.specs.k_heap.Heaps.{HeapRecord}
use Rattle.k_own.proofs.Killed.{kill_ends, lists, met_to_end, own_counts, room, tables}
use Rattle.k_own.proofs.exiting.kill.Goals as goal

pub meet_heap-requires : goal.meet_heap-requires
meet_heap-requires g c = record { agrees = c.requires.heap_stands.agrees; book_agrees = c.requires.book_stands.agrees; table = c.requires.heap_stands.table }

pub meet_heap-requires-2 : goal.meet_heap-requires-2
meet_heap-requires-2 g c =
    subst (λ (x : BookRecord). CanMeet g.trace (User c.args.target.now.pid) c.args.target.now.note c.args.target.now.value x) (sym c.meet_heap.ensures.book_is)
    (record { agrees = c.requires.target_stands.agrees; book_agrees = c.requires.book_stands.agrees; table = c.requires.target_stands.table })

pub meet_kernel-requires : goal.meet_kernel-requires
meet_kernel-requires g c =
    subst (λ (x : BookRecord). CanMeet g.trace Kernel c.args.kernel.now.note c.args.kernel.now.value x) (sym (c.meet_heap-2.ensures.book_is ∙ c.meet_heap.ensures.book_is))
    (record { agrees = c.requires.kernel_stands.agrees; book_agrees = c.requires.book_stands.agrees; table = c.requires.kernel_stands.table })

pub end_process-requires : goal.end_process-requires
end_process-requires g c =
    met_to_end g.trace c.args.cell.now c.meet_heap.new.cell c.args.target.now c.meet_heap-2.new.cell c.args.kernel.now c.meet_kernel.new.kernel c.args.book.now c.meet_heap.new.book c.meet_heap-2.new.book c.meet_kernel.new.book
    c.args.op.now c.requires c.meet_heap.ensures c.meet_heap-2.ensures c.meet_kernel.ensures

pub count_done-requires : goal.count_done-requires
count_done-requires g c =
    own_counts g.trace c.args.cell.now c.meet_heap.new.cell c.args.target.now c.meet_heap-2.new.cell c.args.kernel.now c.meet_kernel.new.kernel c.args.book.now c.meet_heap.new.book c.meet_heap-2.new.book c.meet_kernel.new.book
    c.args.op.now c.requires c.meet_heap.ensures c.meet_heap-2.ensures c.meet_kernel.ensures

pub append_heaps_and_kernel-requires : goal.append_heaps_and_kernel-requires
append_heaps_and_kernel-requires g c =
    let counted = c.count_done.ensures ∙ ap (λ (x : HeapRecord). record x { value = with_one_done x.value }) c.meet_heap.ensures.cell_is in
    record {
      table = tables g.trace c.args.cell.now c.meet_heap.new.cell c.args.target.now c.meet_heap-2.new.cell c.args.kernel.now c.meet_kernel.new.kernel c.args.book.now c.meet_heap.new.book c.meet_heap-2.new.book c.meet_kernel.new.book
          c.args.op.now c.requires c.meet_heap.ensures c.meet_heap-2.ensures c.meet_kernel.ensures c.end_process.new.cell c.end_process.new.kernel c.end_process.new.book c.end_process.ensures c.count_done.new.self counted;
      met = lists g.trace c.args.cell.now c.meet_heap.new.cell c.args.target.now c.meet_heap-2.new.cell c.args.kernel.now c.meet_kernel.new.kernel c.args.book.now c.meet_heap.new.book c.meet_heap-2.new.book c.meet_kernel.new.book
          c.args.op.now c.requires c.meet_heap.ensures c.meet_heap-2.ensures c.meet_kernel.ensures c.end_process.new.cell c.end_process.new.kernel c.end_process.new.book c.end_process.ensures c.count_done.new.self counted;
      room = room g.trace c.args.cell.now c.meet_heap.new.cell c.args.target.now c.meet_heap-2.new.cell c.args.kernel.now c.meet_kernel.new.kernel c.args.book.now c.meet_heap.new.book c.meet_heap-2.new.book c.meet_kernel.new.book
          c.args.op.now c.requires c.meet_heap.ensures c.meet_heap-2.ensures c.meet_kernel.ensures c.end_process.new.cell c.end_process.new.kernel c.end_process.new.book c.end_process.ensures;
    }

pub returns : goal.returns
returns g c =
    let counted = c.count_done.ensures ∙ ap (λ (x : HeapRecord). record x { value = with_one_done x.value }) c.meet_heap.ensures.cell_is in
    let event = Done c.pid.result c.args.op.now DoneReply in
    kill_ends g.trace c.args.cell.now c.meet_heap.new.cell c.args.target.now c.meet_heap-2.new.cell c.args.kernel.now c.meet_kernel.new.kernel c.args.book.now c.meet_heap.new.book c.meet_heap-2.new.book c.meet_kernel.new.book
    c.args.op.now c.requires c.meet_heap.ensures c.meet_heap-2.ensures c.meet_kernel.ensures c.end_process.new.cell c.end_process.new.kernel c.end_process.new.book c.end_process.ensures
    event c.append_heaps_and_kernel.new.cell c.append_heaps_and_kernel.new.other c.append_heaps_and_kernel.new.kernel c.append_heaps_and_kernel.new.book
    (ap₂ (λ (p : Pid) (o : Op). Done p o DoneReply) (c.pid.ensures ∙ ap (λ (x : HeapRecord). x.pid) counted) c.requires.asks)
    (c.append_heaps_and_kernel.ensures.cell ∙ ap (λ (x : HeapRecord). record x { note = note_after event x.note }) counted)
    c.append_heaps_and_kernel.ensures.other c.append_heaps_and_kernel.ensures.kernel
    (c.append_heaps_and_kernel.ensures.book
    ∙ ap (λ (x : HeapRecord). record c.end_process.new.book { journal = journal_after event (x.note.cell ∷ c.end_process.new.cell.note.cell ∷ c.end_process.new.kernel.note.cell ∷ []) c.end_process.new.book.journal }) counted)
