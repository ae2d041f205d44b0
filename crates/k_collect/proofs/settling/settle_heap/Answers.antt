use Rattle.std.proofs.Common.{sym}
use Rattle.k_collect.proofs.Settles.{can_end_begun, can_end_marked, can_mark_begun, can_publish, settled_begun, settled_idle, settled_marked}
use Rattle.k_collect.proofs.settling.settle_heap.Goals as goal

pub publish-requires : goal.publish-requires
publish-requires g c = can_publish g.trace c.args.cell.now c.args.book.now c.requires

pub mark_heap-requires : goal.mark_heap-requires
mark_heap-requires g c = can_mark_begun g.trace c.args.cell.now c.args.book.now c.requires c.publish.new.cell c.publish.new.book c.publish.ensures (sym c.in-Begun.ensures)

pub end_heap-requires : goal.end_heap-requires
end_heap-requires g c =
    can_end_begun g.trace c.args.cell.now c.args.book.now c.requires c.publish.new.cell c.publish.new.book c.publish.ensures c.mark_heap.new.cell c.mark_heap.ensures.rest c.mark_heap.ensures.marked (sym c.in-Begun.ensures)

pub end_heap-requires-in-Marked : goal.end_heap-requires-in-Marked
end_heap-requires-in-Marked g c = can_end_marked g.trace c.args.cell.now c.args.book.now c.requires c.publish.new.cell c.publish.new.book c.publish.ensures (sym c.in-Marked.ensures)

pub returns-in-Idle : goal.returns-in-Idle
returns-in-Idle g c = settled_idle g.trace c.args.cell.now c.args.book.now c.requires c.publish.new.cell c.publish.new.book c.publish.ensures (sym c.in-Idle.ensures)

pub returns-in-Begun : goal.returns-in-Begun
returns-in-Begun g c =
    settled_begun g.trace c.args.cell.now c.args.book.now c.requires c.publish.new.cell c.publish.new.book c.publish.ensures c.mark_heap.new.cell c.end_heap.new.cell c.end_heap.new.book c.end_heap.result
    c.mark_heap.ensures.rest c.end_heap.ensures (sym c.in-Begun.ensures)

pub returns-in-Marked : goal.returns-in-Marked
returns-in-Marked g c =
    settled_marked g.trace c.args.cell.now c.args.book.now c.requires c.publish.new.cell c.publish.new.book c.publish.ensures c.end_heap-in-Marked.new.cell c.end_heap-in-Marked.new.book c.end_heap-in-Marked.result
    c.end_heap-in-Marked.ensures (sym c.in-Marked.ensures)
