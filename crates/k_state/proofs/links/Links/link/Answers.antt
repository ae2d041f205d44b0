use Rattle.std.proofs.Common.{◌≡◌, ◌+◌, ◌<◌, refl, ap, subst, sym, ◌∙◌, length, length-set, get_or, set, arith}
use Rattle.std.proofs.lemmas.List.{get_or_read}
use Rattle.k_lists.specs.Hash.{bucket}
use Rattle.k_types.specs.State.{ExitItem}
use Rattle.k_state.specs.Links.{AreLinked, HaveRoom, Links}
use Rattle.k_state.proofs.Linked.{linked_next}
use Rattle.k_state.proofs.links.Links.link.Goals as goal

pub returns-clause-linked : goal.returns-clause-linked
returns-clause-linked c =
    let items = c.args.items.now in
    let at = c.args.at in
    let lasts = c.self.inside.lasts.items in
    let befores = c.self.inside.befores.items in
    let chain = c.chain_of-chain.result in
    let chains = length lasts in
    let e : ExitItem = c.index-items-at.result in
    let linked = subst (λ (l : Links). AreLinked items at (length l.lasts) l) (sym c.self.view_is) c.requires.linked in
    let room = subst (λ (l : Links). HaveRoom (length items) l) (sym c.self.view_is) c.requires.room in
    let counted : c.len.result ≡ chains = omega (arith, c.len.ensures) in
    let is : (d : ExitItem) → bucket chains (get_or items at d).target ≡ chain
    = λ d.
    ap (λ (x : ExitItem). bucket chains x.target) (sym (get_or_read items at e c.requires.place c.index-items-at.is d))
    ∙ ap (bucket chains) (sym c.target.ensures)
    ∙ ap (λ k. bucket k c.target.result) (sym counted)
    ∙ sym c.chain_of-chain.ensures.value in
    let low : chain < chains = omega (arith, c.chain_of-chain.ensures.within, counted) in
    let was : c.index.result.now ≡ get_or lasts chain 0 = get_or_read lasts chain c.index.result.now low c.index.ensures 0 in
    let next = linked_next chains items at chain lasts befores is low refl (omega (arith, c.requires.place, room.befores)) linked in
    subst (λ k. AreLinked items (at + 1) k (record { lasts = set lasts chain (at + 1); befores = set befores at c.index.result.now })) (sym (length-set lasts chain (at + 1)))
    (subst (λ b. AreLinked items (at + 1) chains (record { lasts = set lasts chain (at + 1); befores = set befores at b })) (sym was) next)
