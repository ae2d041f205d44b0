use Rattle.k_operate.proofs.Collected.{can_mark, has_marked}
use Rattle.k_operate.proofs.collecting.mark_collection.Goals as goal

pub mark_heap-requires : goal.mark_heap-requires
mark_heap-requires g c = can_mark g.world' c.args.process.now c.requires

pub returns : goal.returns
returns g c = has_marked g.world' c.args.process.now c.requires c.mark_heap.new.cell c.mark_heap.ensures.rest c.mark_heap.ensures.marked
