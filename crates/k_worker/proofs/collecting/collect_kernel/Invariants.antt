use Rattle.k_types.specs.declared.op.Op.TheVariants.{KCollect}
use Rattle.k_operate.specs.Collecting.{HasSameLeft}
use Rattle.k_locks.specs.k_process.BetweenSteps.{ComesNext}
use Rattle.k_worker.proofs.collecting.collect_kernel.Given as goal

abbrev pub invariant-loop : goal.invariant-loop
invariant-loop g l = record {
  next : ComesNext g.W.WorldName.world.trace l.process KCollect;
  same : HasSameLeft g.W.WorldName.world.trace l.fn.process l.process;
}
