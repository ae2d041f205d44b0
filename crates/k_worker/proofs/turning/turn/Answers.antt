use Rattle.k_worker.proofs.Stepped.{none_next}
use Rattle.k_worker.proofs.turning.turn.Goals as goal

pub returns-in-None : goal.returns-in-None
returns-in-None g c = λ op next. absurd (none_next g.W.WorldName.world.trace c.args.process.now op c.in-None.ensures next)
