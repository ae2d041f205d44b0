use Rattle.std.proofs.Common.{◌∙◌, map, get_or, sym, arith, refl, length-set, le_of_eq}
use Rattle.k_types.specs.declared.names.Pid.{Pid}
use Rattle.k_types.specs.Trace.{operations_of}
use Rattle.k_trace.specs.Meaning.{meaning_of}
use Rattle.k_spell.proofs.Ordered.{few_next, listed, listed_at, low_in, named_at, no_pid, none_done, order_next, operation_added}
use Rattle.k_spell.proofs.operations.add_operations.Goals as goal
use Rattle.k_laws.proofs.Sizes.{zeros_at}

pub loop-pid-init : goal.loop-pid-init
loop-pid-init c = record {
  empty = c.new-line.ensures;
  sized = refl;
  few = λ p. le_of_eq (zeros_at 64 p);
  left = none_done c.args.trace.now.names (operations_of (meaning_of c.args.trace.now).trace) 64 (map (λ (pid : Pid). pid.0) c.args.trace.now.order.items) c.args.text.now.items;
}

pub index-requires : goal.index-requires
index-requires c =
    let low = low_in c.args.trace.now c.deref-pid-items.result.now c.loop-pid.pid-index c.requires c.deref-pid-items.ensures.value c.loop-pid-test.true in
    let same = listed c.args.trace.now c.requires in
    omega (arith, low, same, c.args.trace.now.ops.ok)

pub bounds-done-number : goal.bounds-done-number
bounds-done-number c =
    let low = low_in c.args.trace.now c.deref-pid-items.result.now c.loop-pid.pid-index c.requires c.deref-pid-items.ensures.value c.loop-pid-test.true in
    omega (arith, low, c.requires.rules.processes)

pub add_operation-requires-clause-named : goal.add_operation-requires-clause-named
add_operation-requires-clause-named c =
    let low = low_in c.args.trace.now c.deref-pid-items.result.now c.loop-pid.pid-index c.requires c.deref-pid-items.ensures.value c.loop-pid-test.true in
    omega (arith, low, c.requires.procs_named)

pub add_operation-requires-clause-known : goal.add_operation-requires-clause-known
add_operation-requires-clause-known c =
    let low = low_in c.args.trace.now c.deref-pid-items.result.now c.loop-pid.pid-index c.requires c.deref-pid-items.ensures.value c.loop-pid-test.true in
    rw c.deref.ensures.value (named_at c.args.trace.now _ c.index.result.now c.requires low c.index.ensures)

pub bounds-done-number-in-loop-pid : goal.bounds-done-number-in-loop-pid
bounds-done-number-in-loop-pid c =
    let low = low_in c.args.trace.now c.deref-pid-items.result.now c.loop-pid.pid-index c.requires c.deref-pid-items.ensures.value c.loop-pid-test.true in
    omega (arith, low, c.requires.rules.processes)

pub bounds-done-number-in-loop-pid-2 : goal.bounds-done-number-in-loop-pid-2
bounds-done-number-in-loop-pid-2 c =
    let low = low_in c.args.trace.now c.deref-pid-items.result.now c.loop-pid.pid-index c.requires c.deref-pid-items.ensures.value c.loop-pid-test.true in
    omega (arith, low, c.requires.rules.processes)

pub loop-pid-preserved : goal.loop-pid-preserved
loop-pid-preserved c =
    let low = low_in c.args.trace.now c.deref-pid-items.result.now c.loop-pid.pid-index c.requires c.deref-pid-items.ensures.value c.loop-pid-test.true in
    record {
      empty = c.add_operation.ensures.empty;
      sized = length-set _ _ _ ∙ c.loop-pid.invariant.sized;
      few = few_next _ _ _ c.loop-pid.invariant.few;
      left = operation_added c.args.trace.now.names (operations_of (meaning_of c.args.trace.now).trace) c.loop-pid.done (get_or c.deref-pid-items.result.now c.loop-pid.pid-index no_pid).0 _ _
          c.deref.result.now _ _ _ (omega (arith, low, c.requires.rules.processes, c.loop-pid.invariant.sized)) (order_next _ _ c.loop-pid.pid-index c.deref-pid-items.ensures.value c.loop-pid-test.true)
          (listed_at c.args.trace.now _ c.index.result.now c.requires low c.index.ensures ∙ sym c.deref.ensures.value) c.in_ok-add_operation.ensures.added c.loop-pid.invariant.left;
    }
