use Rattle.std.proofs.Common.{sym, subst, [], ◌∷◌}
use Rattle.k_types.specs.declared.names.Heap.TheVariants.{Kernel, Shared, User}
use Rattle.k_types.specs.Agree.{book_shown_by}
use Rattle.k_locks.specs.k_process.k_heap.Heaps.{HeapRecord}
use Rattle.k_operate.specs.Reach.{Reach}
use Rattle.k_agree.specs.Shown.{idle_part}
use Rattle.k_agree.proofs.Killing.{ends_by}
use Rattle.k_operate.specs.Readiness.{IsOutside}
use Rattle.k_operate.proofs.Since.{can_reach, due, next_since, ready_since}
use Rattle.k_locks.specs.k_process.BetweenSteps.{HasDone}
use Rattle.k_worker.specs.Running.{IsReadyFor}
use Rattle.k_worker.proofs.Stepped.{done_after, published_left, ready_beside}
use Rattle.k_worker.proofs.Shows.{operation_grows, published_grows}
use Rattle.k_locks.proofs.ShownOn.{was_shown}
use Rattle.k_operate.proofs.Grown.{prefix_trans}
use Rattle.k_worker.proofs.stepping.do_under_book.Goals as goal

pub reach-reached-requires : goal.reach-reached-requires
reach-reached-requires g c =
    let before = subst (λ (x : HeapRecord). IsOutside g.W.WorldName.world.trace x c.args.op.now) (sym c.process.view_is) c.requires.outside in
    can_reach g.W.WorldName.world c.publish_all.new.process c.publish_all.new.book c.args.op.now c.publish_all.ensures.pair
    (next_since g.W.WorldName.world c.process.inside.process c.publish_all.new.process c.publish_all.new.book c.args.op.now c.publish_all.ensures before.next)

pub returns-in-Own : goal.returns-in-Own
returns-in-Own g c =
    let left = published_left g.W.WorldName.world c.process.inside.process c.publish_all.new.process c.book.inside.book c.publish_all.new.book c.publish_all.ensures in
    subst (λ (r : Reach). IsReadyFor r g.W.WorldName.world c.args.op.now c.args.process.now c.do_alone.new.process.cell) (sym c.in-Own.is)
    (subst (λ (x : HeapRecord). HasDone g.W.WorldName.world.trace c.args.op.now x c.do_alone.new.process.cell) c.process.view_is
    (done_after g.W.WorldName.world.trace c.args.op.now c.process.inside.process.cell c.publish_all.new.process.cell c.do_alone.new.process.cell left c.do_alone.ensures.done.done))

pub returns-in-Kernel : goal.returns-in-Kernel
returns-in-Kernel g c =
    subst (λ (r : Reach). IsReadyFor r g.W.WorldName.world c.args.op.now c.args.process.now c.publish_all.new.process.cell) (sym c.in-Kernel.is)
    (ready_beside g.W.WorldName.world c.process.inside.process c.publish_all.new.process c.book.inside.book c.publish_all.new.book c.args.op.now c.args.process.now Kernel [] c.publish_all.ensures c.process.view_is
    c.requires.outside c.requires.steps c.in-Kernel.ensures)

pub returns-in-Shared : goal.returns-in-Shared
returns-in-Shared g c =
    subst (λ (r : Reach). IsReadyFor r g.W.WorldName.world c.args.op.now c.args.process.now c.publish_all.new.process.cell) (sym c.in-Shared.is)
    (ready_beside g.W.WorldName.world c.process.inside.process c.publish_all.new.process c.book.inside.book c.publish_all.new.book c.args.op.now c.args.process.now (Shared c.in-Shared.field-0) [] c.publish_all.ensures c.process.view_is
    c.requires.outside c.requires.steps c.in-Shared.ensures)

pub returns-in-End : goal.returns-in-End
returns-in-End g c =
    let t = g.W.WorldName.world.trace in
    subst (λ (r : Reach). IsReadyFor r g.W.WorldName.world c.args.op.now c.args.process.now c.publish_all.new.process.cell) (sym c.in-End.is) (
      ready_beside g.W.WorldName.world c.process.inside.process c.publish_all.new.process c.book.inside.book c.publish_all.new.book c.args.op.now c.args.process.now (User c.in-End.field-0) (Kernel ∷ []) c.publish_all.ensures c.process.view_is
          c.requires.outside c.requires.steps c.in-End.ensures,
      (ends_by t (book_shown_by c.publish_all.new.book.value) c.publish_all.new.process.cell.pid.0 c.in-End.field-0 (idle_part c.publish_all.new.process.cell.value) c.args.op.now (sym c.in-End.ensures)).0,
    )

pub do_alone-requires : goal.do_alone-requires
do_alone-requires g c =
    let before = subst (λ (x : HeapRecord). IsOutside g.W.WorldName.world.trace x c.args.op.now) (sym c.process.view_is) c.requires.outside in
    due g.W.WorldName.world c.publish_all.new.process c.publish_all.new.book c.args.op.now [] c.publish_all.ensures.pair
    (ready_since g.W.WorldName.world c.process.inside.process c.publish_all.new.process c.publish_all.new.book c.args.op.now c.publish_all.ensures before.next before.outside) c.requires.steps
    (sym c.in-Own.ensures)

pub show-requires : goal.show-requires
show-requires g c = λ κs lives. (
  lives,
  (
    c.do_alone.ensures.done.pair.book.stands,
    was_shown g.W.WorldName.watched g.W.WorldName.world.trace c.book.inside.book.journal.list c.do_alone.new.book.journal.list c.book.inside.pen c.book.invariant.1 (prefix_trans c.book.inside.book.journal.list c.publish_all.new.book.journal.list c.do_alone.new.book.journal.list (published_grows g.W.WorldName.world c.process.inside.process c.publish_all.new.process c.book.inside.book c.publish_all.new.book c.publish_all.ensures) (operation_grows _ _ _ c.publish_all.new.process c.do_alone.new.process c.publish_all.new.book c.do_alone.new.book c.publish_all.ensures.settled c.do_alone.ensures.done.settled c.do_alone.ensures.events)),
  ),
)

pub show-requires-in-Kernel : goal.show-requires-in-Kernel
show-requires-in-Kernel g c = λ κs lives. (
  lives,
  (
    c.publish_all.ensures.pair.book.stands,
    was_shown g.W.WorldName.watched g.W.WorldName.world.trace c.book.inside.book.journal.list c.publish_all.new.book.journal.list c.book.inside.pen c.book.invariant.1 (published_grows g.W.WorldName.world c.process.inside.process c.publish_all.new.process c.book.inside.book c.publish_all.new.book c.publish_all.ensures),
  ),
)

pub show-requires-in-Shared : goal.show-requires-in-Shared
show-requires-in-Shared g c = λ κs lives. (
  lives,
  (
    c.publish_all.ensures.pair.book.stands,
    was_shown g.W.WorldName.watched g.W.WorldName.world.trace c.book.inside.book.journal.list c.publish_all.new.book.journal.list c.book.inside.pen c.book.invariant.1 (published_grows g.W.WorldName.world c.process.inside.process c.publish_all.new.process c.book.inside.book c.publish_all.new.book c.publish_all.ensures),
  ),
)

pub show-requires-in-End : goal.show-requires-in-End
show-requires-in-End g c = λ κs lives. (
  lives,
  (
    c.publish_all.ensures.pair.book.stands,
    was_shown g.W.WorldName.watched g.W.WorldName.world.trace c.book.inside.book.journal.list c.publish_all.new.book.journal.list c.book.inside.pen c.book.invariant.1 (published_grows g.W.WorldName.world c.process.inside.process c.publish_all.new.process c.book.inside.book c.publish_all.new.book c.publish_all.ensures),
  ),
)
