use Rattle.k_ends.proofs.Collected.{begun, can_begin, publishes}
use Rattle.k_ends.proofs.collecting.do_begin.Goals as goal

pub publish-requires : goal.publish-requires
publish-requires g c = publishes g.basis c.args.guest.now c.args.book.now c.requires.can

pub begin_heap-requires : goal.begin_heap-requires
begin_heap-requires g c = can_begin g.basis c.args.guest.now c.args.book.now c.requires.can c.publish.new.cell c.publish.new.book c.publish.ensures c.requires.idle

pub returns : goal.returns
returns g c =
    begun g.basis c.args.guest.now c.args.book.now c.requires.can c.publish.new.cell c.publish.new.book c.publish.ensures c.begin_heap.new.cell c.begin_heap.new.book c.begin_heap.result c.begin_heap.ensures
