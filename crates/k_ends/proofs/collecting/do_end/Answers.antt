use Rattle.k_ends.proofs.Collected.{can_end, ended, publishes}
use Rattle.k_ends.proofs.collecting.do_end.Goals as goal

pub publish-requires : goal.publish-requires
publish-requires g c = publishes g.basis c.args.guest.now c.args.book.now c.requires.can

pub end_heap-requires : goal.end_heap-requires
end_heap-requires g c = can_end g.basis c.args.guest.now c.args.book.now c.requires.can c.publish.new.cell c.publish.new.book c.publish.ensures c.requires.marked

pub returns : goal.returns
returns g c =
    ended g.basis c.args.guest.now c.args.book.now c.requires.can c.publish.new.cell c.publish.new.book c.publish.ensures c.end_heap.new.cell c.end_heap.new.book c.end_heap.result c.end_heap.ensures
