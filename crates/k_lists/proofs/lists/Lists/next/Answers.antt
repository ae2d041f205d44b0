use Rattle.std.proofs.Common.{◌≡◌, ◌<◌, ◌+◌, Some, length, slice_get, sym, ap, subst, ◌∙◌, add-one, arith}
use Rattle.std.proofs.lemmas.List.{get_or_default}
use Rattle.k_lists.specs.declared.lists.Links.{Links}
use Rattle.k_lists.specs.Lists.{ListsValue, members}
use Rattle.k_lists.specs.Linked.{blank, lists_of}
use Rattle.k_lists.proofs.Members.{in_at}
use Rattle.k_lists.proofs.Walks.{led_to, led_from, next_is}
use Rattle.k_lists.proofs.Steps.{member_list}
use Rattle.k_lists.proofs.lists.Lists.next.Goals as goal

pub returns-clause-value : goal.returns-clause-value
returns-clause-value c list place here =
    let links = c.self.inside.links.items in
    let heads = c.self.inside.heads.items in
    let within : c.args.i < length links = omega (arith, c.requires, ap (λ (w : ListsValue). w.room) c.self.view_is) in
    let there = subst (λ (w : ListsValue). slice_get (members w list) place ≡ Some c.args.i) (sym c.self.view_is) here in
    led_from c.checked_sub.result c.index.result.now.next c.checked_sub.ensures
    ∙ ap (λ (y : Links). led_to y.next) (c.index.ensures ∙ get_or_default links c.args.i c.index.result.now blank within)
    ∙ next_is links 0 _ (members (lists_of links heads) list) place c.args.i
    (c.self.invariant.linked.linked list (member_list links heads list c.args.i (in_at (members (lists_of links heads) list) place c.args.i there))) there
    ∙ ap (slice_get (members (lists_of links heads) list)) (sym (add-one place)) ∙ ap (λ (w : ListsValue). slice_get (members w list) (place + 1)) c.self.view_is
