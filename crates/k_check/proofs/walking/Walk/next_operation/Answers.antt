use Rattle.std.proofs.Common.{◌∙◌, ap, map, get_or, subst}
use Rattle.k_state.specs.Machines.{Machine}
use Rattle.k_check.specs.Walks.{IsWalk, Walked}
use Rattle.k_check.proofs.Walks.{next_found}
use Rattle.k_check.proofs.walking.Walk.next_operation.Goals as goal

pub returns : goal.returns
returns c =
    let walk : IsWalk c.args.self.now c.self.inside.state = subst (λ (w : Walked). IsWalk w c.self.inside.state) c.self.view_is c.self.invariant in
    c.copied.ensures ∙ c.operation_at.ensures
    ∙ next_found c.args.self.now c.self.inside.state walk _ (ap (map (λ list. list.items)) c.deref.ensures.value ∙ ap (λ (w : Walked). w.trace.trace.operations) c.self.view_is) c.args.pid.0 c.done.result
    (c.done.ensures ∙ ap (λ (m : Machine). get_or m.state.done c.args.pid.0 0) c.lists.ensures.same)
