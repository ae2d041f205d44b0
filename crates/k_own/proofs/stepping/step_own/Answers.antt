use Rattle.k_own.proofs.Due.{can_meet, is_due}
use Rattle.k_commit.proofs.Meetings.{heap_stepped}
use Rattle.k_own.proofs.stepping.step_own.Goals as goal

pub meet_heap-requires : goal.meet_heap-requires
meet_heap-requires g c = can_meet g.trace c.args.cell.now c.args.book.now c.args.op.now c.requires

pub operate-requires : goal.operate-requires
operate-requires g c = is_due g.trace c.args.cell.now c.args.book.now c.args.op.now c.requires c.meet_heap.new.cell c.meet_heap.new.book c.meet_heap.ensures

pub returns : goal.returns
returns g c =
    heap_stepped g.trace c.args.op.now c.args.cell.now c.meet_heap.new.cell c.operate.new.cell c.args.book.now c.meet_heap.new.book c.operate.new.book c.operate.result c.meet_heap.ensures c.operate.ensures
