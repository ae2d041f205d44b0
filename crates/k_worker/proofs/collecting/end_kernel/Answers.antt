use Rattle.k_worker.proofs.Shows.{end_grows}
use Rattle.k_locks.proofs.ShownOn.{was_shown}
use Rattle.k_worker.proofs.collecting.end_kernel.Goals as goal

pub show-requires : goal.show-requires
show-requires g c = λ κs lives. (
  lives,
  (
    c.end_kernel_collection.ensures.book.stands,
    was_shown g.W.WorldName.watched g.W.WorldName.world.trace c.book.inside.book.journal.list c.end_kernel_collection.new.book.journal.list c.book.inside.pen c.book.invariant.1 (end_grows _ _ _ c.end_kernel_collection.ensures.events),
  ),
)
