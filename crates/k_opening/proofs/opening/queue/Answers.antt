use Rattle.std.proofs.lemmas.Result.{IfOk-weaker}
use Rattle.k_opening.proofs.Opened.{made_free}
use Rattle.k_opening.proofs.opening.queue.Goals as goal

pub returns : goal.returns
returns g c = IfOk-weaker c.make.result _ _ (λ made h. made_free made.0 c.min.result made.1.items h) c.make.ensures.passes
