use Rattle.std.proofs.Common.{◌∙◌, ◌<◌, length, ap, arith}
use Rattle.std.proofs.lemmas.List.{length-map}
use Rattle.k_trace.specs.OperationLists.{with_operation}
use Rattle.k_reader.proofs.Exits.{items_pushed, AreEnded_pushed, AreEnded_unchanged, lists_are, order_pushed}
use Rattle.k_reader.proofs.operations.Operations.push.Goals as goal

pub invariant_of-self-in_err-push-2 : goal.invariant_of-self-in_err-push-2
invariant_of-self-in_err-push-2 c = AreEnded_unchanged _ _ _ _ _ c.index_mut.ensures.value c.in_err-push-2.ensures.items c.self.invariant

pub invariant_of-self-2 : goal.invariant_of-self-2
invariant_of-self-2 c =
    let lt : c.args.pid.0 < length c.self.inside.ops.items = simp length-map at (rw (← c.self.view_is) at c.requires.declared) in
    AreEnded_pushed _ _ _ _ _ c.args.op _ lt c.index_mut.ensures.value c.in_ok-push-2.ensures.items (omega arith) c.requires.few c.ends_with.ensures c.self.invariant

pub returns-clause-ok : goal.returns-clause-ok
returns-clause-ok c =
    let lt : c.args.pid.0 < length c.self.inside.ops.items = simp length-map at (rw (← c.self.view_is) at c.requires.declared) in
    lists_are _ _ _ _ (items_pushed _ _ _ _ c.args.op lt c.index_mut.ensures.value c.in_ok-push-2.ensures.items) (order_pushed _ _ c.args.pid c.in_ok-push.ensures.items)
    ∙ ap (λ o. with_operation o c.args.pid.0 c.args.op) c.self.view_is
