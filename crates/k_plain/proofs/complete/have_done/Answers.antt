use Rattle.std.proofs.Common.{◌≡◌, List, length, ap, subst, refl, below_more, arith}
use Rattle.std.specs.Prelude.{IsFalse}
use Rattle.k_types.specs.declared.op.Op.{Op}
use Rattle.k_types.specs.Complete.{IsPrefixOf}
use Rattle.k_types.specs.Names.{among}
use Rattle.k_types.specs.Steps.{done_by}
use Rattle.k_types.specs.Trace.{Trace}
use Rattle.k_plain.proofs.complete.have_done.Goals as goal

pub loop-p-preserved : goal.loop-p-preserved
loop-p-preserved c =
    below_more _ _ c.loop-p.invariant
    (subst (λ (os : List Op). IsPrefixOf (done_by c.loop-p.p c.args.events.now) os × (IsFalse (among c.loop-p.p c.args.lists.now.state.ended) → done_by c.loop-p.p c.args.events.now ≡ os))
    c.operations.ensures (c.has_done.ensures.0 c.if-not-has_done.false))

pub returns : goal.returns
returns c =
    let count = ap (λ (t : Trace). length t.procs) c.setup-setup.ensures.setup in
    (λ on p known. c.loop-p.invariant p (omega (arith, count, known)), λ all. refl)
