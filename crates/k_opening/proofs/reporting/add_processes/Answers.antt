use Rattle.std.proofs.Common.{ap, ◌∙◌, arith}
use Rattle.k_laws.specs.Counts.{stores_in}
use Rattle.k_still.proofs.Passes.{own_short}
use Rattle.k_opening.proofs.Reported.{all_processes_added, one_process_added}
use Rattle.k_opening.proofs.reporting.add_processes.Goals as goal

pub stores_in-requires : goal.stores_in-requires
stores_in-requires c =
    rw c.deref.ensures.value (own_short c.args.trace.now c.requires c.deref-ops-items.result.now c.deref-ops-items.ensures.value c.loop-ops.ops-index c.ops-item.result c.loop-ops-test.true c.ops-item.is)

pub loop-ops-preserved : goal.loop-ops-preserved
loop-ops-preserved c =
    one_process_added c.args.trace.now c.deref-ops-items.result.now c.deref-ops-items.ensures.value c.loop-ops.ops-index c.ops-item.result c.loop-ops-test.true c.ops-item.is c.args.rooms.now c.loop-ops.rooms _
    c.stores_in.result c.loop-ops.invariant (c.stores_in.ensures ∙ ap stores_in c.deref.ensures.value) c.in_ok-add_heap.ensures

pub returns : goal.returns
returns c =
    all_processes_added c.args.trace.now c.deref-ops-items.result.now c.deref-ops-items.ensures.value c.loop-ops.ops-index (omega arith) c.args.rooms.now c.loop-ops.rooms c.loop-ops.invariant
