use Rattle.std.proofs.Common.{sym, subst}
use Rattle.k_locks.specs.k_process.k_heap.Heaps.{HeapRecord}
use Rattle.k_locks.specs.k_process.BetweenSteps.{ComesNext}
use Rattle.k_worker.specs.Running.{HasDoneUnless}
use Rattle.k_worker.proofs.Stepped.{inside_unless}
use Rattle.k_worker.proofs.stepping.do_inside.Goals as goal

pub returns : goal.returns
returns g c =
    subst (λ (x : HeapRecord). HasDoneUnless g.W.WorldName.world.trace c.args.op.now x c.do_inside.new.process.cell c.do_inside.result) c.process.view_is
    (inside_unless g.W.WorldName.world c.args.op.now c.process.inside.process c.do_inside.new.process c.do_inside.result
    (subst (λ (x : HeapRecord). ComesNext g.W.WorldName.world.trace x c.args.op.now) (sym c.process.view_is) c.requires) c.do_inside.ensures)
