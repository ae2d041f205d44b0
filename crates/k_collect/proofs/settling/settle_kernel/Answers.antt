use Rattle.std.proofs.Common.{sym}
use Rattle.k_collect.proofs.Settles.{kernel_can_end_begun, kernel_can_end_marked, kernel_can_mark, kernel_settled_begun, kernel_settled_idle, kernel_settled_marked}
use Rattle.k_collect.proofs.settling.settle_kernel.Goals as goal

pub meet_kernel-requires : goal.meet_kernel-requires
meet_kernel-requires g c = record { agrees = c.requires.agrees; book_agrees = c.requires.book_stands.agrees; table = c.requires.table }

pub mark_kernel-requires : goal.mark_kernel-requires
mark_kernel-requires g c = kernel_can_mark g.trace c.args.kernel.now c.args.book.now c.requires c.meet_kernel.new.kernel c.meet_kernel.new.book c.meet_kernel.ensures (sym c.in-Begun.ensures)

pub end_kernel-requires : goal.end_kernel-requires
end_kernel-requires g c =
    kernel_can_end_begun g.trace c.args.kernel.now c.args.book.now c.requires c.meet_kernel.new.kernel c.meet_kernel.new.book c.meet_kernel.ensures c.mark_kernel.new.kernel c.mark_kernel.ensures.rest c.mark_kernel.ensures.marked
    (sym c.in-Begun.ensures)

pub end_kernel-requires-in-Marked : goal.end_kernel-requires-in-Marked
end_kernel-requires-in-Marked g c = kernel_can_end_marked g.trace c.args.kernel.now c.args.book.now c.requires c.meet_kernel.new.kernel c.meet_kernel.new.book c.meet_kernel.ensures (sym c.in-Marked.ensures)

pub returns-in-Idle : goal.returns-in-Idle
returns-in-Idle g c = kernel_settled_idle g.trace c.args.kernel.now c.args.book.now c.requires c.meet_kernel.new.kernel c.meet_kernel.new.book c.meet_kernel.ensures (sym c.in-Idle.ensures)

pub returns-in-Begun : goal.returns-in-Begun
returns-in-Begun g c =
    kernel_settled_begun g.trace c.args.kernel.now c.args.book.now c.requires c.meet_kernel.new.kernel c.meet_kernel.new.book c.meet_kernel.ensures c.mark_kernel.new.kernel c.end_kernel.new.kernel c.end_kernel.new.book
    c.end_kernel.result c.mark_kernel.ensures.rest c.end_kernel.ensures (sym c.in-Begun.ensures)

pub returns-in-Marked : goal.returns-in-Marked
returns-in-Marked g c =
    kernel_settled_marked g.trace c.args.kernel.now c.args.book.now c.requires c.meet_kernel.new.kernel c.meet_kernel.new.book c.meet_kernel.ensures c.end_kernel-in-Marked.new.kernel c.end_kernel-in-Marked.new.book
    c.end_kernel-in-Marked.result c.end_kernel-in-Marked.ensures (sym c.in-Marked.ensures)
