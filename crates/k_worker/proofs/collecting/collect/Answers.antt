use Rattle.std.proofs.Common.{subst}
use Rattle.k_types.specs.declared.op.Op.TheVariants.{Collect}
use Rattle.k_locks.specs.k_process.k_heap.Heaps.{HeapRecord}
use Rattle.k_locks.specs.k_process.BetweenSteps.{HasDone}
use Rattle.k_worker.proofs.Stepped.{done_before}
use Rattle.k_worker.proofs.collecting.collect.Goals as goal

pub returns : goal.returns
returns g c =
    let t = g.W.WorldName.world.trace in
    let marked = done_before t Collect c.process.inside.process.cell c.begin.new.process.cell c.mark_collection.new.process.cell c.begin.ensures.done c.mark_collection.ensures.same in
    let swept = done_before t Collect c.process.inside.process.cell c.mark_collection.new.process.cell c.sweep_collection-freed.new.process.cell marked c.sweep_collection-freed.ensures.same in
    let ended = done_before t Collect c.process.inside.process.cell c.sweep_collection-freed.new.process.cell c.end.new.process.cell swept c.end.ensures.same in
    subst (λ (x : HeapRecord). HasDone t Collect x c.end.new.process.cell) c.process.view_is ended
