use Rattle.std.proofs.Common.{◌≡◌, ◌≤◌, ◌<◌, ◌∙◌, ◌+◌, length, map, sym, ap, subst, arith}
use Rattle.std.proofs.lemmas.Result.{on_ok_weaker}
use Rattle.std.specs.List.{AllByRecursion, flat_map}
use Rattle.k_types.specs.declared.names.Pid.{Pid}
use Rattle.k_types.specs.declared.op.Op.TheVariants.{Resize}
use Rattle.k_types.specs.Trace.{process_count}
use Rattle.k_trace.specs.OperationLists.{with_operation}
use Rattle.k_spawn.specs.declared.script.Deed.{Deed}
use Rattle.k_spawn.specs.Families.{Family, reaped_with}
use Rattle.k_spawn.specs.Scripts.{Script, family}
use Rattle.k_spawn.specs.Translated.{with_operations}
use Rattle.k_spawn.specs.Translation.{ending, limit_id, operations_of_deed}
use Rattle.k_spawn.proofs.Gathered.{one_operation, endings_by_number, below_by_number}
use Rattle.k_spawn.proofs.Reaped.{below_more}
use Rattle.k_spawn.proofs.translation.add_line.Goals as goal

pub add_endings-requires-clause-known : goal.add_endings-requires-clause-known
add_endings-requires-clause-known c =
    let s = c.args.script.now in
    let all : c.script.inside.family.first + length c.script.inside.family.parents ≤ process_count s.header.trace + length s.parents =
    omega (arith, c.script.invariant.0, ap (λ (x : Script). process_count x.header.trace + length x.parents) c.script.view_is) in
    subst (AllByRecursion (λ (it : Pid). it.0 < process_count s.header.trace + length s.parents)) (sym c.deref.ensures.value)
    (below_by_number _ _ (below_more _ _ _ all c.in_ok-reaped-in-Reaps.ensures.known))

pub returns-in-Does-clause-added : goal.returns-in-Does-clause-added
returns-in-Does-clause-added c =
    let s = c.args.script.now in
    on_ok_weaker c.push.result (λ ok. ok ∙ one_operation c.args.operations.now c.args.line.pid.0 c.in-Does.op
    ∙ ap (λ (d : Deed). with_operations c.args.operations.now c.args.line.pid.0 (operations_of_deed s d)) (sym c.in-Does.is)) c.push.ensures.ok

pub returns-in-Spawns-clause-added : goal.returns-in-Spawns-clause-added
returns-in-Spawns-clause-added c =
    let s = c.args.script.now in
    on_ok_weaker c.push-in-Spawns.result (λ ok. ok
    ∙ ap (λ m. with_operation c.args.operations.now c.args.line.pid.0 (Resize (record { 0 = m }) c.in-Spawns.max)) c.limit_of-limit.ensures
    ∙ one_operation c.args.operations.now c.args.line.pid.0 (Resize (limit_id s c.in-Spawns.child.0) c.in-Spawns.max)
    ∙ ap (λ (d : Deed). with_operations c.args.operations.now c.args.line.pid.0 (operations_of_deed s d)) (sym c.in-Spawns.is)) c.push-in-Spawns.ensures.ok

pub returns-in_ok-reaped-in-Reaps-clause-added : goal.returns-in_ok-reaped-in-Reaps-clause-added
returns-in_ok-reaped-in-Reaps-clause-added c =
    let s = c.args.script.now in
    let same : c.script.inside.family ≡ family s = ap (λ n. let f : Family = record { first = n; parents = c.script.inside.family.parents } in f) c.script.invariant.0 ∙ ap family c.script.view_is in
    let whom : map (λ (it : Pid). it.0) c.deref.result.now ≡ reaped_with (family s) c.in-Reaps.child.0 =
    ap (map (λ (it : Pid). it.0)) c.deref.ensures.value ∙ c.in_ok-reaped-in-Reaps.ensures.list ∙ ap (λ f. reaped_with f c.in-Reaps.child.0) same in
    on_ok_weaker c.add_endings.result (λ added. added
    ∙ ap (with_operations c.args.operations.now c.args.line.pid.0) (endings_by_number s c.deref.result.now ∙ ap (flat_map (ending s)) whom)
    ∙ ap (λ (d : Deed). with_operations c.args.operations.now c.args.line.pid.0 (operations_of_deed s d)) (sym c.in-Reaps.is)) c.add_endings.ensures.added
