use Rattle.std.proofs.Common.{◌∙◌, sym, ap}
use Rattle.k_trace.specs.OperationLists.{with_no_operations}
use Rattle.k_spawn.proofs.Gathered.{idle_none, idle_next}
use Rattle.k_spawn.proofs.translation.idle.Goals as goal

pub loop-init : goal.loop-init
loop-init c = c.new-operations.ensures ∙ idle_none

pub loop-preserved : goal.loop-preserved
loop-preserved c = c.in_ok-add_process.ensures.ok ∙ ap with_no_operations c.loop.invariant ∙ sym (idle_next c.loop.counter)
