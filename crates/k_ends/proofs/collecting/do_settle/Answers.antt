use Rattle.k_ends.proofs.Collected.{can_settle, settled}
use Rattle.k_ends.proofs.collecting.do_settle.Goals as goal

pub settle_heap-requires : goal.settle_heap-requires
settle_heap-requires g c = can_settle g.basis c.args.guest.now c.args.book.now c.requires

pub returns : goal.returns
returns g c = settled g.basis c.args.guest.now c.args.book.now c.requires c.settle_heap.new.cell c.settle_heap.new.book c.settle_heap.ensures
