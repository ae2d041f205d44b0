use Rattle.std.proofs.Common.{◌≡◌, ◌∙◌, ◌+◌, length, ap}
use Rattle.k_types.specs.Trace.{process_count}
use Rattle.k_trace.specs.OperationLists.{OperationLists}
use Rattle.k_spawn.specs.Scripts.{Script}
use Rattle.k_spawn.specs.Translation.{operations_in, order_of}
use Rattle.k_spawn.proofs.Gathered.{lists, lines_are_listed, processes_below, translated_is}
use Rattle.k_spawn.proofs.translation.translate.Goals as goal

pub returns : goal.returns
returns c =
    let s = c.args.script.now in
    let n = process_count s.header.trace + length s.parents in
    let listed : c.in_ok-operations.field-0 ≡ lists (operations_in s s.lines) n (order_of s s.lines) =
    c.in_ok-operations.ensures ∙ lines_are_listed s n s.lines (processes_below s s.lines c.requires.lines) in
    translated_is s _ _ _ _ _ _ _ _ _ c.in_ok-names.ensures
    (ap (λ (x : Script). x.header.trace.ceiling) c.script.view_is) (ap (λ (x : Script). x.header.trace.dir_fields) c.script.view_is) (ap (λ (x : Script). x.header.trace.shared_heaps) c.script.view_is)
    (c.in_ok-types.ensures ∙ ap (λ (x : Script). x.header.trace.types) c.script.view_is)
    c.in_ok-limits.ensures c.in_ok-procs.ensures
    (c.into_parts-ops.ensures.operations ∙ ap (λ (o : OperationLists). o.operations) listed) (c.into_parts-ops.ensures.order ∙ ap (λ (o : OperationLists). o.order) listed)
