use Rattle.k_locks.proofs.ShownOn.{was_shown}
use Rattle.k_operate.proofs.Grown.{prefix_by}
use Rattle.k_worker.proofs.collecting.leave.Goals as goal

pub show-requires : goal.show-requires
show-requires g c = λ κs lives. (
  lives,
  (
    c.absorb_orphan.ensures.book.stands,
    was_shown g.W.WorldName.watched g.W.WorldName.world.trace c.book.inside.book.journal.list c.absorb_orphan.new.book.journal.list c.book.inside.pen c.book.invariant.1 (prefix_by c.book.inside.book.journal.list c.absorb_orphan.new.book.journal.list _ c.absorb_orphan.ensures.journal),
  ),
)
