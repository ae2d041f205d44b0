use Rattle.k_types.specs.declared.op.Op.TheVariants.{Collect}
use Rattle.k_worker.proofs.Stepped.{done_after, next_settled, published_left}
use Rattle.k_worker.proofs.Shows.{one_grows, published_grows}
use Rattle.k_locks.proofs.ShownOn.{was_shown}
use Rattle.k_operate.proofs.Grown.{prefix_trans}
use Rattle.k_worker.proofs.collecting.begin.Goals as goal

pub begin_collection-requires : goal.begin_collection-requires
begin_collection-requires g c =
    next_settled g.W.WorldName.world c.args.process.now c.publish_all.new.process c.book.inside.book c.publish_all.new.book Collect c.publish_all.ensures c.requires.next

pub returns-clause-done : goal.returns-clause-done
returns-clause-done g c =
    let left = published_left g.W.WorldName.world c.args.process.now c.publish_all.new.process c.book.inside.book c.publish_all.new.book c.publish_all.ensures in
    done_after g.W.WorldName.world.trace Collect c.args.process.now.cell c.publish_all.new.process.cell c.begin_collection.new.process.cell left c.begin_collection.ensures.done

pub show-requires : goal.show-requires
show-requires g c = λ κs lives. (
  lives,
  (
    c.begin_collection.ensures.book.stands,
    was_shown g.W.WorldName.watched g.W.WorldName.world.trace c.book.inside.book.journal.list c.begin_collection.new.book.journal.list c.book.inside.pen c.book.invariant.1 (prefix_trans c.book.inside.book.journal.list c.publish_all.new.book.journal.list c.begin_collection.new.book.journal.list (published_grows g.W.WorldName.world c.args.process.now c.publish_all.new.process c.book.inside.book c.publish_all.new.book c.publish_all.ensures) (one_grows _ _ _ _ c.begin_collection.ensures.events)),
  ),
)
