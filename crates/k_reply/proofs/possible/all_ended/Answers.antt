use Rattle.std.proofs.Common.{ap, length, arith}
use Rattle.k_types.specs.Trace.{Trace}
use Rattle.k_reply.proofs.possible.all_ended.Goals as goal

pub overflow_cast-p : goal.overflow_cast-p
overflow_cast-p c = omega (arith, ap (λ (t : Trace). length t.procs) c.setup.ensures.setup, c.setup.ensures.shape.setup.processes)
