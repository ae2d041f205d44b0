use Rattle.std.proofs.Common.{◌∙◌, ◌∷◌, ◌++◌, List, ap}
use Rattle.k_types.specs.declared.op.Op.{Op}
use Rattle.k_types.specs.declared.op.Op.TheVariants.{Dir}
use Rattle.k_big.specs.Workload.{r, round}
use Rattle.k_big.proofs.Rounds.{pieces_more}
use Rattle.k_big.proofs.operating.operations_for.Goals as goal

pub loop-object-preserved : goal.loop-object-preserved
loop-object-preserved c =
    c.in_ok-push_round.ensures
    ∙ ap (λ (ops : List Op). ops ++ round c.args.process c.loop-object.object) c.loop-object.invariant
    ∙ ap (λ (ops : List Op). Dir (r 15) ∷ ops) (pieces_more (round c.args.process) c.loop-object.object)
