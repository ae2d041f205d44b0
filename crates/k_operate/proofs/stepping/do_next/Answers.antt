use Rattle.std.proofs.Common.{sym, subst}
use Rattle.k_operate.specs.Adding.{AddsOperation, known_to}
use Rattle.k_operate.specs.Collecting.{IsNextAndSettled}
use Rattle.k_operate.specs.Steps.{HasDoneAlone, HasDoneNext, HasDoneWithKernel}
use Rattle.k_operate.proofs.NextKept.{can_step, next_adds, next_alone, next_inside, next_inside_adds, next_kernel, next_since, pair_outside, rest_then, settled_then}
use Rattle.k_operate.proofs.Since.{steps_else}
use Rattle.k_operate.proofs.stepping.do_next.Goals as goal

pub publish_all-requires : goal.publish_all-requires
publish_all-requires g c = pair_outside g.world' c.args.process.now c.args.kernel.now c.args.shared.now.items c.args.book.now c.args.op.now c.requires c.do_inside.new.process c.do_inside.result c.if-do_inside.false c.do_inside.ensures

pub do_collect-requires : goal.do_collect-requires
do_collect-requires g c = subst (IsNextAndSettled g.world' c.publish_all.new.process c.publish_all.new.book) c.in-Collect.is
    (settled_then g.world' c.args.process.now c.args.kernel.now c.args.shared.now.items c.args.book.now c.args.op.now c.requires c.do_inside.new.process c.do_inside.result c.if-do_inside.false c.do_inside.ensures c.publish_all.new.process c.publish_all.new.book c.publish_all.ensures)

pub do_collect_kernel-requires : goal.do_collect_kernel-requires
do_collect_kernel-requires g c = record {
  own = subst (IsNextAndSettled g.world' c.publish_all.new.process c.publish_all.new.book) c.in-KCollect.is
      (settled_then g.world' c.args.process.now c.args.kernel.now c.args.shared.now.items c.args.book.now c.args.op.now c.requires c.do_inside.new.process c.do_inside.result c.if-do_inside.false c.do_inside.ensures c.publish_all.new.process c.publish_all.new.book c.publish_all.ensures);
  rest = rest_then g.world' c.args.process.now c.args.kernel.now c.args.shared.now.items c.args.book.now c.args.op.now c.requires c.do_inside.new.process c.do_inside.result c.if-do_inside.false c.do_inside.ensures c.publish_all.new.process c.publish_all.new.book c.publish_all.ensures;
}

pub do_exit-requires : goal.do_exit-requires
do_exit-requires g c = record {
  own = subst (IsNextAndSettled g.world' c.publish_all.new.process c.publish_all.new.book) c.in-Exit.is
      (settled_then g.world' c.args.process.now c.args.kernel.now c.args.shared.now.items c.args.book.now c.args.op.now c.requires c.do_inside.new.process c.do_inside.result c.if-do_inside.false c.do_inside.ensures c.publish_all.new.process c.publish_all.new.book c.publish_all.ensures);
  kernel = c.requires.rest.kernel;
}

pub do_by_step-requires : goal.do_by_step-requires
do_by_step-requires g c = can_step g.world' c.args.process.now c.args.kernel.now c.args.shared.now.items c.args.book.now c.args.op.now c.requires c.do_inside.new.process c.do_inside.result c.if-do_inside.false c.do_inside.ensures c.publish_all.new.process c.publish_all.new.book c.publish_all.ensures
    (steps_else c.args.op.now c.in_default.not-Collect c.in_default.not-KCollect c.in_default.not-Exit)

pub returns-in-Collect : goal.returns-in-Collect
returns-in-Collect g c = record {
  done =
      next_since g.world' c.args.process.now c.args.kernel.now c.args.shared.now.items c.args.book.now c.args.op.now c.requires c.do_inside.new.process c.do_inside.result c.if-do_inside.false c.do_inside.ensures c.publish_all.new.process c.publish_all.new.book c.publish_all.ensures
      c.do_collect.new.process c.args.kernel.now c.args.shared.now.items c.do_collect.new.book
      (next_alone g.world' c.args.op.now c.publish_all.new.process c.do_collect.new.process c.args.kernel.now c.args.shared.now.items c.publish_all.new.book c.do_collect.new.book
      (rest_then g.world' c.args.process.now c.args.kernel.now c.args.shared.now.items c.args.book.now c.args.op.now c.requires c.do_inside.new.process c.do_inside.result c.if-do_inside.false c.do_inside.ensures c.publish_all.new.process c.publish_all.new.book c.publish_all.ensures)
      (subst (λ o. HasDoneAlone g.world' o c.publish_all.new.process c.do_collect.new.process c.do_collect.new.book) (sym c.in-Collect.is) c.do_collect.ensures.done));
  events =
      next_adds g.world' c.args.process.now c.args.kernel.now c.args.shared.now.items c.args.book.now c.args.op.now c.requires c.do_inside.new.process c.do_inside.result c.if-do_inside.false c.do_inside.ensures c.publish_all.new.process c.publish_all.new.book c.publish_all.ensures
      (known_to c.do_collect.new.process c.do_collect.new.book) (subst (λ o. AddsOperation g.world'.trace c.publish_all.new.process.cell.pid o (known_to c.publish_all.new.process c.publish_all.new.book) (known_to c.do_collect.new.process c.do_collect.new.book)) (sym c.in-Collect.is) c.do_collect.ensures.events);
}

pub returns-in-KCollect : goal.returns-in-KCollect
returns-in-KCollect g c = record {
  done =
      next_since g.world' c.args.process.now c.args.kernel.now c.args.shared.now.items c.args.book.now c.args.op.now c.requires c.do_inside.new.process c.do_inside.result c.if-do_inside.false c.do_inside.ensures c.publish_all.new.process c.publish_all.new.book c.publish_all.ensures
      c.do_collect_kernel.new.process c.do_collect_kernel.new.kernel c.do_collect_kernel.new.shared.items c.do_collect_kernel.new.book
      (subst (λ o. HasDoneNext g.world' o c.publish_all.new.process c.do_collect_kernel.new.process c.do_collect_kernel.new.kernel c.do_collect_kernel.new.shared.items c.do_collect_kernel.new.book) (sym c.in-KCollect.is) c.do_collect_kernel.ensures.done);
  events =
      next_adds g.world' c.args.process.now c.args.kernel.now c.args.shared.now.items c.args.book.now c.args.op.now c.requires c.do_inside.new.process c.do_inside.result c.if-do_inside.false c.do_inside.ensures c.publish_all.new.process c.publish_all.new.book c.publish_all.ensures
      (known_to c.do_collect_kernel.new.process c.do_collect_kernel.new.book) (subst (λ o. AddsOperation g.world'.trace c.publish_all.new.process.cell.pid o (known_to c.publish_all.new.process c.publish_all.new.book) (known_to c.do_collect_kernel.new.process c.do_collect_kernel.new.book)) (sym c.in-KCollect.is) c.do_collect_kernel.ensures.events);
}

pub returns-in-Exit : goal.returns-in-Exit
returns-in-Exit g c = record {
  done =
      next_since g.world' c.args.process.now c.args.kernel.now c.args.shared.now.items c.args.book.now c.args.op.now c.requires c.do_inside.new.process c.do_inside.result c.if-do_inside.false c.do_inside.ensures c.publish_all.new.process c.publish_all.new.book c.publish_all.ensures
      c.do_exit.new.process c.do_exit.new.kernel c.args.shared.now.items c.do_exit.new.book
      (next_kernel g.world' c.args.op.now c.publish_all.new.process c.do_exit.new.process c.args.kernel.now c.do_exit.new.kernel c.args.shared.now.items c.publish_all.new.book c.do_exit.new.book
      (rest_then g.world' c.args.process.now c.args.kernel.now c.args.shared.now.items c.args.book.now c.args.op.now c.requires c.do_inside.new.process c.do_inside.result c.if-do_inside.false c.do_inside.ensures c.publish_all.new.process c.publish_all.new.book c.publish_all.ensures)
      (subst (λ o. HasDoneWithKernel g.world' o c.publish_all.new.process c.do_exit.new.process c.do_exit.new.kernel c.do_exit.new.book) (sym c.in-Exit.is) c.do_exit.ensures.done));
  events =
      next_adds g.world' c.args.process.now c.args.kernel.now c.args.shared.now.items c.args.book.now c.args.op.now c.requires c.do_inside.new.process c.do_inside.result c.if-do_inside.false c.do_inside.ensures c.publish_all.new.process c.publish_all.new.book c.publish_all.ensures
      (known_to c.do_exit.new.process c.do_exit.new.book) (subst (λ o. AddsOperation g.world'.trace c.publish_all.new.process.cell.pid o (known_to c.publish_all.new.process c.publish_all.new.book) (known_to c.do_exit.new.process c.do_exit.new.book)) (sym c.in-Exit.is) c.do_exit.ensures.events);
}

pub returns-in_default : goal.returns-in_default
returns-in_default g c = record {
  done =
      next_since g.world' c.args.process.now c.args.kernel.now c.args.shared.now.items c.args.book.now c.args.op.now c.requires c.do_inside.new.process c.do_inside.result c.if-do_inside.false c.do_inside.ensures c.publish_all.new.process c.publish_all.new.book c.publish_all.ensures
      c.do_by_step.new.process c.do_by_step.new.kernel c.do_by_step.new.shared.items c.do_by_step.new.book c.do_by_step.ensures.done;
  events =
      next_adds g.world' c.args.process.now c.args.kernel.now c.args.shared.now.items c.args.book.now c.args.op.now c.requires c.do_inside.new.process c.do_inside.result c.if-do_inside.false c.do_inside.ensures c.publish_all.new.process c.publish_all.new.book c.publish_all.ensures
      (known_to c.do_by_step.new.process c.do_by_step.new.book) c.do_by_step.ensures.events;
}

pub returns-then-do_inside : goal.returns-then-do_inside
returns-then-do_inside g c = record {
  done = next_inside g.world' c.args.process.now c.args.kernel.now c.args.shared.now.items c.args.book.now c.args.op.now c.requires c.do_inside.new.process c.do_inside.result c.if-do_inside.true c.do_inside.ensures;
  events = next_inside_adds g.world' c.args.process.now c.args.kernel.now c.args.shared.now.items c.args.book.now c.args.op.now c.requires c.do_inside.new.process c.do_inside.result c.if-do_inside.true c.do_inside.ensures;
}
