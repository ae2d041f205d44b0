use Rattle.std.proofs.Common.{sym, subst}
use Rattle.k_types.specs.declared.op.Op.TheVariants.{KCollect}
use Rattle.k_locks.specs.k_process.k_heap.Heaps.{HeapRecord}
use Rattle.k_operate.proofs.Since.{next_since}
use Rattle.k_locks.specs.k_process.BetweenSteps.{ComesNext, HasDone}
use Rattle.k_worker.specs.Running.{WaitsToCollect}
use Rattle.k_worker.proofs.Stepped.{done_after, may_wait, next_settled, published_left}
use Rattle.k_worker.proofs.Shows.{one_grows, published_grows}
use Rattle.k_locks.proofs.ShownOn.{was_shown}
use Rattle.k_operate.proofs.Grown.{prefix_trans}
use Rattle.k_worker.proofs.collecting.begin_kernel.Goals as goal

pub begin_kernel_collection-requires : goal.begin_kernel_collection-requires
begin_kernel_collection-requires g c =
    let next = subst (λ (x : HeapRecord). ComesNext g.W.WorldName.world.trace x KCollect) (sym c.process.view_is) c.requires.next in
    record {
      own = next_settled g.W.WorldName.world c.process.inside.process c.publish_all.new.process c.book.inside.book c.publish_all.new.book KCollect c.publish_all.ensures next;
      kernel = c.requires.kernel;
      orphans = sym c.in-None.ensures;
    }

pub returns-in-Some : goal.returns-in-Some
returns-in-Some g c =
    let next = subst (λ (x : HeapRecord). ComesNext g.W.WorldName.world.trace x KCollect) (sym c.process.view_is) c.requires.next in
    let left = published_left g.W.WorldName.world c.process.inside.process c.publish_all.new.process c.book.inside.book c.publish_all.new.book c.publish_all.ensures in (
      subst (λ (x : HeapRecord). WaitsToCollect g.W.WorldName.world x c.publish_all.new.process.cell) c.process.view_is (record {
        left = may_wait g.W.WorldName.world c.publish_all.new.process c.publish_all.new.book c.publish_all.ensures.pair c.publish_all.ensures.met
            (next_since g.W.WorldName.world c.process.inside.process c.publish_all.new.process c.publish_all.new.book KCollect c.publish_all.ensures next);
        same = left;
      }),
      c.requires.kernel,
    )

pub returns-in-None : goal.returns-in-None
returns-in-None g c =
    let left = published_left g.W.WorldName.world c.process.inside.process c.publish_all.new.process c.book.inside.book c.publish_all.new.book c.publish_all.ensures in (
      subst (λ (x : HeapRecord). HasDone g.W.WorldName.world.trace KCollect x c.begin_kernel_collection.new.process.cell) c.process.view_is
          (done_after g.W.WorldName.world.trace KCollect c.process.inside.process.cell c.publish_all.new.process.cell c.begin_kernel_collection.new.process.cell left c.begin_kernel_collection.ensures.own.done),
      c.begin_kernel_collection.ensures.kernel,
    )

pub show-requires : goal.show-requires
show-requires g c = λ κs lives. (
  lives,
  (
    c.publish_all.ensures.pair.book.stands,
    was_shown g.W.WorldName.watched g.W.WorldName.world.trace c.book.inside.book.journal.list c.publish_all.new.book.journal.list c.book.inside.pen c.book.invariant.1 (published_grows g.W.WorldName.world c.process.inside.process c.publish_all.new.process c.book.inside.book c.publish_all.new.book c.publish_all.ensures),
  ),
)

pub show-requires-in-None : goal.show-requires-in-None
show-requires-in-None g c = λ κs lives. (
  lives,
  (
    c.begin_kernel_collection.ensures.own.pair.book.stands,
    was_shown g.W.WorldName.watched g.W.WorldName.world.trace c.book.inside.book.journal.list c.begin_kernel_collection.new.book.journal.list c.book.inside.pen c.book.invariant.1 (prefix_trans c.book.inside.book.journal.list c.publish_all.new.book.journal.list c.begin_kernel_collection.new.book.journal.list (published_grows g.W.WorldName.world c.process.inside.process c.publish_all.new.process c.book.inside.book c.publish_all.new.book c.publish_all.ensures) (one_grows _ _ _ _ c.begin_kernel_collection.ensures.events)),
  ),
)
