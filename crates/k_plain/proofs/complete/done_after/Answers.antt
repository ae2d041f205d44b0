use Rattle.std.proofs.Common.{◌≡◌, [], ◌∷◌, ◌++◌, List, take, option_copied, ap, sym, subst, ◌∙◌, false, true}
use Rattle.std.proofs.lemmas.Bool.{false≢true}
use Rattle.k_types.specs.declared.op.Op.{Op}
use Rattle.k_types.specs.Complete.{IsPrefixOf}
use Rattle.k_types.specs.Steps.{done_by}
use Rattle.k_plain.specs.Histories.{one_operation}
use Rattle.k_plain.proofs.DoneOperations.{not_first, take_one, there_more}
use Rattle.k_plain.proofs.complete.done_after.Goals as goal

pub returns-then-is_at-clause-some : goal.returns-then-is_at-clause-some
returns-then-is_at-clause-some c =
    let ops = c.args.ops.now in
    let op : Op = c.in-Some.op.now in
    let one : done_by c.args.pid.0 (c.args.event.now ∷ []) ≡ op ∷ [] = c.operation_of.ensures ∙ ap (λ r. one_operation (option_copied r)) c.in-Some.is in
    let found = c.is_at.ensures.0 c.if-is_at.true in
    (there_more ops c.args.done op found, ap (λ (os : List Op). take c.args.done ops ++ os) one ∙ take_one ops c.args.done op found)

pub returns-else-is_at-clause-none : goal.returns-else-is_at-clause-none
returns-else-is_at-clause-none c =
    let ops = c.args.ops.now in
    let op : Op = c.in-Some.op.now in
    let one : done_by c.args.pid.0 (c.args.event.now ∷ []) ≡ op ∷ [] = c.operation_of.ensures ∙ ap (λ r. one_operation (option_copied r)) c.in-Some.is in
    λ rest first.
    not_first ops c.args.done op rest c.requires (λ found. false≢true (sym c.if-is_at.false ∙ c.is_at.ensures.1 found))
    (subst (λ (os : List Op). IsPrefixOf (take c.args.done ops ++ (os ++ rest)) ops) one first)
