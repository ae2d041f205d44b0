use Rattle.std.proofs.Common.{◌∙◌, ap, map, subst}
use Rattle.k_check.specs.Walks.{IsWalk, Walked}
use Rattle.k_check.proofs.Walks.{complete_is}
use Rattle.k_check.proofs.walking.Walk.is_complete.Goals as goal

pub returns : goal.returns
returns c =
    let walk : IsWalk c.args.self.now c.self.inside.state = subst (λ (w : Walked). IsWalk w c.self.inside.state) c.self.view_is c.self.invariant in
    complete_is c.args.self.now c.self.inside.state _ _ c.is_complete.result walk (ap (map (λ list. list.items)) c.deref.ensures.value ∙ ap (λ (w : Walked). w.trace.trace.operations) c.self.view_is)
    (c.deref-2.ensures.value ∙ ap (λ (w : Walked). w.history) c.self.view_is) c.is_complete.ensures
