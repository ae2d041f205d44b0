use Rattle.k_operate.proofs.Collected.{can_sweep, has_swept}
use Rattle.k_operate.proofs.collecting.sweep_collection.Goals as goal

pub sweep_heap-requires : goal.sweep_heap-requires
sweep_heap-requires g c = can_sweep g.world' c.args.process.now c.requires

pub returns : goal.returns
returns g c = has_swept g.world' c.args.process.now c.requires c.sweep_heap.new.cell c.sweep_heap.result c.sweep_heap.ensures
