use Rattle.std.proofs.Common.{ap, ◌∙◌, arith}
use Rattle.k_laws.specs.Counts.{stores_in}
use Rattle.k_still.proofs.Passes.{own_short, stores_all, stores_fit, stores_more}
use Rattle.k_still.proofs.rooms.all_stores.Goals as goal

pub stores_in-stores-requires : goal.stores_in-stores-requires
stores_in-stores-requires c =
    rw c.deref.ensures.value (own_short c.args.trace.now c.requires c.deref-ops-items.result.now c.deref-ops-items.ensures.value c.loop-ops.ops-index c.ops-item.result c.loop-ops-test.true c.ops-item.is)

pub overflow_add-stores : goal.overflow_add-stores
overflow_add-stores c = omega (
  arith,
  stores_fit c.args.trace.now c.requires c.deref-ops-items.result.now c.deref-ops-items.ensures.value c.loop-ops.ops-index c.ops-item.result c.loop-ops-test.true c.ops-item.is c.loop-ops.stores c.stores_in-stores.result c.loop-ops.invariant
      (c.stores_in-stores.ensures ∙ ap stores_in c.deref.ensures.value),
)

pub loop-ops-preserved : goal.loop-ops-preserved
loop-ops-preserved c =
    stores_more c.args.trace.now c.requires c.deref-ops-items.result.now c.deref-ops-items.ensures.value c.loop-ops.ops-index c.ops-item.result c.loop-ops-test.true c.ops-item.is c.loop-ops.stores c.stores_in-stores.result c.loop-ops.invariant
    (c.stores_in-stores.ensures ∙ ap stores_in c.deref.ensures.value)

pub returns : goal.returns
returns c = stores_all c.args.trace.now c.requires c.deref-ops-items.result.now c.loop-ops.stores c.loop-ops.ops-index c.deref-ops-items.ensures.value c.loop-ops.invariant (omega arith)
