use Rattle.k_operate.proofs.Collected.{can_begin, has_begun}
use Rattle.k_operate.proofs.collecting.begin_collection.Goals as goal

pub begin_heap-requires : goal.begin_heap-requires
begin_heap-requires g c = can_begin g.world' c.args.process.now c.args.book.now c.requires

pub returns : goal.returns
returns g c = has_begun g.world' c.args.process.now c.args.book.now c.requires c.begin_heap.new.cell c.begin_heap.new.book c.begin_heap.result c.begin_heap.ensures
