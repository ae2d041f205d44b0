use Rattle.k_commit.specs.Others.{of_kernel}
use Rattle.k_commit.proofs.Meetings.{other_stepped}
use Rattle.k_pair.proofs.Meeting.{heap_can_meet, met_for, other_can_meet}
use Rattle.k_pair.proofs.operating.step_kernel.Goals as goal

pub meet_heap-requires : goal.meet_heap-requires
meet_heap-requires g c = heap_can_meet g.trace c.args.cell.now (of_kernel c.args.kernel.now) c.args.book.now c.args.op.now c.requires.step

pub meet_kernel-requires : goal.meet_kernel-requires
meet_kernel-requires g c =
    other_can_meet g.trace c.args.cell.now (of_kernel c.args.kernel.now) c.args.book.now c.args.op.now c.requires.step c.meet_heap.new.cell c.meet_heap.new.book c.meet_heap.ensures

pub operate_with_kernel-requires-clause-met : goal.operate_with_kernel-requires-clause-met
operate_with_kernel-requires-clause-met g c =
    met_for g.trace c.args.cell.now (of_kernel c.args.kernel.now) c.args.book.now c.args.op.now c.requires.step c.meet_heap.new.cell c.meet_heap.new.book c.meet_heap.ensures
    c.requires.step.can.other_stands.agrees.tail (of_kernel c.meet_kernel.new.kernel) c.meet_kernel.new.book c.meet_kernel.ensures

pub operate_with_kernel-requires-clause-goes_on : goal.operate_with_kernel-requires-clause-goes_on
operate_with_kernel-requires-clause-goes_on g c = c.requires.goes_on

pub returns : goal.returns
returns g c =
    other_stepped g.trace c.args.op.now c.args.cell.now c.meet_heap.new.cell c.operate_with_kernel.new.cell c.args.book.now c.meet_heap.new.book c.operate_with_kernel.new.book c.operate_with_kernel.result c.meet_heap.ensures
    (of_kernel c.args.kernel.now) (of_kernel c.meet_kernel.new.kernel) (of_kernel c.operate_with_kernel.new.kernel) c.meet_kernel.new.book c.meet_kernel.ensures c.operate_with_kernel.ensures
