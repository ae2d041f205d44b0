use Rattle.k_commit.specs.Others.{of_shared}
use Rattle.k_commit.proofs.Meetings.{other_stepped}
use Rattle.k_pair.proofs.Meeting.{heap_can_meet, met_for, other_can_meet}
use Rattle.k_pair.proofs.operating.step_shared.Goals as goal

pub meet_heap-requires : goal.meet_heap-requires
meet_heap-requires g c = heap_can_meet g.trace c.args.cell.now (of_shared c.args.shared.now) c.args.book.now c.args.op.now c.requires

pub meet_shared-requires : goal.meet_shared-requires
meet_shared-requires g c =
    other_can_meet g.trace c.args.cell.now (of_shared c.args.shared.now) c.args.book.now c.args.op.now c.requires c.meet_heap.new.cell c.meet_heap.new.book c.meet_heap.ensures

pub operate_with_shared-requires : goal.operate_with_shared-requires
operate_with_shared-requires g c =
    met_for g.trace c.args.cell.now (of_shared c.args.shared.now) c.args.book.now c.args.op.now c.requires c.meet_heap.new.cell c.meet_heap.new.book c.meet_heap.ensures
    c.requires.can.other_stands.agrees.tail (of_shared c.meet_shared.new.shared) c.meet_shared.new.book c.meet_shared.ensures

pub returns : goal.returns
returns g c =
    other_stepped g.trace c.args.op.now c.args.cell.now c.meet_heap.new.cell c.operate_with_shared.new.cell c.args.book.now c.meet_heap.new.book c.operate_with_shared.new.book c.operate_with_shared.result c.meet_heap.ensures
    (of_shared c.args.shared.now) (of_shared c.meet_shared.new.shared) (of_shared c.operate_with_shared.new.shared) c.meet_shared.new.book c.meet_shared.ensures c.operate_with_shared.ensures
