use Rattle.std.proofs.Common.{◌∙◌, ap, sym, subst}
use Rattle.k_types.specs.declared.names.Heap.TheVariants.{Kernel}
use Rattle.k_commit.specs.k_book.Books.{BookRecord}
use Rattle.k_commit.specs.Met.{CanMeet}
use Rattle.k_commit.specs.k_heap.Heaps.{HeapRecord}
use Rattle.k_own.specs.Exiting.{exit_of}
use Rattle.k_own.proofs.Appended.{exit_counts, exit_ends, exit_lists, exit_room, exit_tables, met_to_exit, pid_kept}
use Rattle.k_own.proofs.exiting.exit.Goals as goal

pub meet_heap-requires : goal.meet_heap-requires
meet_heap-requires g c = record { agrees = c.requires.heap_stands.agrees; book_agrees = c.requires.book_stands.agrees; table = c.requires.heap_stands.table }

pub meet_kernel-requires : goal.meet_kernel-requires
meet_kernel-requires g c =
    subst (λ (x : BookRecord). CanMeet g.trace Kernel c.args.kernel.now.note c.args.kernel.now.value x) (sym c.meet_heap.ensures.book_is)
    (record { agrees = c.requires.kernel_stands.agrees; book_agrees = c.requires.book_stands.agrees; table = c.requires.kernel_stands.table })

pub end_process-requires : goal.end_process-requires
end_process-requires g c =
    met_to_exit g.trace c.args.cell.now c.meet_heap.new.cell c.args.kernel.now c.meet_kernel.new.kernel c.args.book.now c.meet_heap.new.book c.meet_kernel.new.book c.requires c.meet_heap.ensures
    c.meet_kernel.ensures

pub count_done-requires : goal.count_done-requires
count_done-requires g c =
    exit_counts g.trace c.args.cell.now c.meet_heap.new.cell c.args.kernel.now c.meet_kernel.new.kernel c.args.book.now c.meet_heap.new.book c.meet_kernel.new.book c.requires c.meet_heap.ensures
    c.meet_kernel.ensures c.end_process.new.cell c.end_process.new.kernel c.end_process.new.book c.end_process.ensures

pub append_heap_and_kernel-requires : goal.append_heap_and_kernel-requires
append_heap_and_kernel-requires g c = rw (c.count_done.ensures) (record {
  table = exit_tables g.trace c.args.cell.now c.meet_heap.new.cell c.args.kernel.now c.meet_kernel.new.kernel c.args.book.now c.meet_heap.new.book c.meet_kernel.new.book c.requires c.meet_heap.ensures
      c.meet_kernel.ensures c.end_process.new.cell c.end_process.new.kernel c.end_process.new.book c.end_process.ensures;
  met = exit_lists g.trace c.args.cell.now c.meet_heap.new.cell c.args.kernel.now c.meet_kernel.new.kernel c.args.book.now c.meet_heap.new.book c.meet_kernel.new.book c.requires c.meet_heap.ensures
      c.meet_kernel.ensures c.end_process.new.cell c.end_process.new.kernel c.end_process.new.book c.end_process.ensures;
  room = exit_room g.trace c.args.cell.now c.meet_heap.new.cell c.args.kernel.now c.meet_kernel.new.kernel c.args.book.now c.meet_heap.new.book c.meet_kernel.new.book c.requires c.meet_heap.ensures
      c.meet_kernel.ensures c.end_process.new.cell c.end_process.new.kernel c.end_process.new.book c.end_process.ensures;
})

pub returns : goal.returns
returns g c =
    exit_ends g.trace c.args.cell.now c.meet_heap.new.cell c.args.kernel.now c.meet_kernel.new.kernel c.args.book.now c.meet_heap.new.book c.meet_kernel.new.book c.requires c.meet_heap.ensures
    c.meet_kernel.ensures c.end_process.new.cell c.end_process.new.kernel c.end_process.new.book c.end_process.ensures
    (exit_of c.pid.result) c.count_done.new.self c.append_heap_and_kernel.new.cell c.append_heap_and_kernel.new.kernel c.append_heap_and_kernel.new.book
    (ap exit_of
    (c.pid.ensures ∙ ap (λ (x : HeapRecord). x.pid) c.count_done.ensures
    ∙ pid_kept g.trace c.args.cell.now c.meet_heap.new.cell c.args.kernel.now c.meet_kernel.new.kernel c.args.book.now c.meet_heap.new.book c.meet_kernel.new.book c.requires c.meet_heap.ensures
    c.meet_kernel.ensures c.end_process.new.cell c.end_process.new.kernel c.end_process.new.book c.end_process.ensures))
    c.count_done.ensures c.append_heap_and_kernel.ensures.cell c.append_heap_and_kernel.ensures.kernel c.append_heap_and_kernel.ensures.book
