use Rattle.std.proofs.Common.{sym, subst}
use Rattle.k_types.specs.declared.op.Op.TheVariants.{Exit}
use Rattle.k_locks.specs.k_process.k_heap.Heaps.{HeapRecord}
use Rattle.k_locks.specs.k_process.BetweenSteps.{ComesNext, HasDone}
use Rattle.k_worker.proofs.Stepped.{done_after, next_settled, published_left}
use Rattle.k_worker.proofs.Shows.{operation_grows, published_grows}
use Rattle.k_locks.proofs.ShownOn.{was_shown}
use Rattle.k_operate.proofs.Grown.{prefix_trans}
use Rattle.k_worker.proofs.collecting.exit.Goals as goal

pub do_exit-requires : goal.do_exit-requires
do_exit-requires g c =
    let next = subst (λ (x : HeapRecord). ComesNext g.W.WorldName.world.trace x Exit) (sym c.process.view_is) c.requires in
    record {
      own = next_settled g.W.WorldName.world c.process.inside.process c.publish_all.new.process c.book.inside.book c.publish_all.new.book Exit c.publish_all.ensures next;
      kernel = c.kernel.invariant;
    }

pub returns : goal.returns
returns g c =
    let left = published_left g.W.WorldName.world c.process.inside.process c.publish_all.new.process c.book.inside.book c.publish_all.new.book c.publish_all.ensures in
    subst (λ (x : HeapRecord). HasDone g.W.WorldName.world.trace Exit x c.do_exit.new.process.cell) c.process.view_is
    (done_after g.W.WorldName.world.trace Exit c.process.inside.process.cell c.publish_all.new.process.cell c.do_exit.new.process.cell left c.do_exit.ensures.done.own.done)

pub show-requires : goal.show-requires
show-requires g c = λ κs lives. (
  lives,
  (
    c.do_exit.ensures.done.own.pair.book.stands,
    was_shown g.W.WorldName.watched g.W.WorldName.world.trace c.book.inside.book.journal.list c.do_exit.new.book.journal.list c.book.inside.pen c.book.invariant.1 (prefix_trans c.book.inside.book.journal.list c.publish_all.new.book.journal.list c.do_exit.new.book.journal.list (published_grows g.W.WorldName.world c.process.inside.process c.publish_all.new.process c.book.inside.book c.publish_all.new.book c.publish_all.ensures) (operation_grows _ _ _ c.publish_all.new.process c.do_exit.new.process c.publish_all.new.book c.do_exit.new.book c.publish_all.ensures.settled c.do_exit.ensures.done.own.settled c.do_exit.ensures.events)),
  ),
)
