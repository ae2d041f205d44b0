use Rattle.std.proofs.Common.{subst}
use Rattle.k_types.specs.declared.op.Op.TheVariants.{Collect, Exit, KCollect}
use Rattle.k_operate.proofs.Since.{steps_else}
use Rattle.k_locks.specs.k_process.BetweenSteps.{ComesNext}
use Rattle.k_worker.proofs.Stepped.{turn_of}
use Rattle.k_worker.proofs.turning.do_any.Goals as goal

pub operate-requires-clause-steps : goal.operate-requires-clause-steps
operate-requires-clause-steps g c = λ κs lives. steps_else c.args.op.now c.in_default.not-Collect c.in_default.not-KCollect c.in_default.not-Exit

pub returns-in-Collect : goal.returns-in-Collect
returns-in-Collect g c = (Collect, c.collect.ensures)

pub returns-in-KCollect : goal.returns-in-KCollect
returns-in-KCollect g c =
    turn_of g.W.WorldName.world KCollect c.args.process.now (subst (ComesNext g.W.WorldName.world.trace c.args.process.now) c.in-KCollect.is c.requires) c.collect_kernel.new.process
    c.collect_kernel.result c.of.result c.of.ensures c.collect_kernel.ensures.done c.collect_kernel.ensures.left

pub returns-in-Exit : goal.returns-in-Exit
returns-in-Exit g c = (Exit, c.exit.ensures)
