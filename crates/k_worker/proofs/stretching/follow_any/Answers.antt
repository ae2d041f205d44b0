use Rattle.k_operate.proofs.Since.{steps_else}
use Rattle.k_worker.proofs.stretching.follow_any.Goals as goal

pub follow_step-requires-clause-steps : goal.follow_step-requires-clause-steps
follow_step-requires-clause-steps g c = λ κs lives. steps_else c.args.op.now c.in_default.not-Collect c.in_default.not-KCollect c.in_default.not-Exit
