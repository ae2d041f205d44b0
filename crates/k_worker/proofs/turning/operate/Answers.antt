use Rattle.k_types.specs.declared.names.Heap.TheVariants.{Kernel}
use Rattle.k_worker.proofs.Stepped.{done_same, turn_beside, turn_kills, turn_left}
use Rattle.k_worker.proofs.turning.operate.Goals as goal

pub returns-in-Own : goal.returns-in-Own
returns-in-Own g c = (
  c.args.op.now,
  done_same g.W.WorldName.world.trace c.args.op.now c.args.process.now c.do_inside.new.process c.do_under_book-reached.new.process (c.do_inside.ensures.same c.if-do_inside.false) c.in-Own.ensures,
)

pub returns-in-Kernel : goal.returns-in-Kernel
returns-in-Kernel g c =
    turn_beside g.W.WorldName.world c.args.op.now c.args.process.now c.requires.next c.do_inside.new.process (c.do_inside.ensures.same c.if-do_inside.false) c.do_under_book-reached.new.process
    c.do_under_kernel.new.process Kernel _ c.do_under_kernel.result c.of.result c.of.ensures c.in-Kernel.ensures c.do_under_kernel.ensures

pub returns-in-Some : goal.returns-in-Some
returns-in-Some g c =
    turn_beside g.W.WorldName.world c.args.op.now c.args.process.now c.requires.next c.do_inside.new.process (c.do_inside.ensures.same c.if-do_inside.false) c.do_under_book-reached.new.process
    c.do_under_shared.new.process _ _ c.do_under_shared.result c.of-in-Some.result c.of-in-Some.ensures c.in-Shared.ensures c.do_under_shared.ensures

pub returns-in-None : goal.returns-in-None
returns-in-None g c =
    turn_left g.W.WorldName.world c.args.op.now c.args.process.now c.requires.next c.do_under_book-reached.new.process c.in-Shared.ensures.left

pub returns-in-End : goal.returns-in-End
returns-in-End g c =
    turn_kills g.W.WorldName.world c.args.op.now c.args.process.now c.requires.next c.do_inside.new.process (c.do_inside.ensures.same c.if-do_inside.false) c.do_under_book-reached.new.process
    c.in-End.target c.in-End.ensures.0 c.in-End.ensures.1
