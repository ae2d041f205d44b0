use Rattle.std.proofs.Common.{◌≡◌, ◌++◌, ◌∷◌, [], List, subst, sym, ◌∙◌, length, arith}
use Rattle.k_types.specs.State.{ExitItem}
use Rattle.k_state.specs.Links.{AreLinked, Links}
use Rattle.k_state.proofs.Linked.{linked_pushed}
use Rattle.k_state.proofs.exits.Exits.push.Goals as goal

pub link-requires-clause-linked : goal.link-requires-clause-linked
link-requires-clause-linked c =
    let items : List ExitItem = c.self.inside.items.items in
    let item : ExitItem = c.args.item in
    let links : Links = c.make_room.new.self in
    let chains = length links.lasts in
    let linked = subst (λ (xs : List ExitItem). AreLinked xs (length xs) chains links) c.deref.ensures.value c.in_ok-make_room.ensures.linked.0 in
    let is : c.deref-2.result.now ≡ items ++ item ∷ [] = c.deref-2.ensures.value ∙ c.in_ok-push.ensures.stored in
    let was = c.self.inside.items.ok.0 in
    let count : c.len-at.result ≡ length items = omega (arith, c.len-at.ensures, was) in
    subst (λ k. AreLinked c.deref-2.result.now k chains links) (sym count)
    (subst (λ (xs : List ExitItem). AreLinked xs (length items) chains links) (sym is) (linked_pushed chains items (item ∷ []) links linked))
