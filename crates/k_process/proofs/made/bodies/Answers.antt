use Rattle.std.proofs.Common.{◌∙◌, ℕ, ◌<◌, [], sym, ap, subst}
use Rattle.k_trace.specs.Meaning.{meaning_of}
use Rattle.k_process.specs.Bodies.{bodies_of}
use Rattle.k_process.proofs.Operations.{listed, made_next, own_operations, own_typed}
use Rattle.k_process.proofs.made.bodies.Goals as goal

pub bodies_of-requires : goal.bodies_of-requires
bodies_of-requires c = record {
  known = rw c.deref.ensures.value (own_typed c.args.trace.now c.deref-ops-items.result.now c.loop-ops.ops-index c.ops-item.result c.requires c.deref-ops-items.ensures.value c.loop-ops-test.true c.ops-item.is);
}

pub loop-ops-preserved : goal.loop-ops-preserved
loop-ops-preserved c =
    let own = own_operations c.args.trace.now c.deref-ops-items.result.now c.loop-ops.ops-index c.ops-item.result c.deref-ops-items.ensures.value c.loop-ops-test.true c.ops-item.is in
    let inside = subst (λ (n : ℕ). c.loop-ops.ops-index < n) (listed c.args.trace.now c.deref-ops-items.result.now c.deref-ops-items.ensures.value) c.loop-ops-test.true in
    made_next _ (bodies_of c.args.trace.now.setup.types) _ _ _ (meaning_of c.args.trace.now).trace.operations c.loop-ops.ops-index [] c.in_ok-push.ensures.items
    (c.in_ok-bodies_of.ensures ∙ ap (bodies_of c.args.trace.now.setup.types) (c.deref.ensures.value ∙ sym own)) inside c.loop-ops.invariant
