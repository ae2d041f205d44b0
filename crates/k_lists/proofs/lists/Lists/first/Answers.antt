use Rattle.std.proofs.Common.{◌<◌, length, slice_get, ap, ◌∙◌, arith}
use Rattle.std.proofs.lemmas.List.{get_or_default}
use Rattle.k_lists.specs.Lists.{ListsValue, members}
use Rattle.k_lists.specs.Linked.{lists_of}
use Rattle.k_lists.proofs.Walks.{led_to, led_from, first_is}
use Rattle.k_lists.proofs.Steps.{lists_length}
use Rattle.k_lists.proofs.lists.Lists.first.Goals as goal

pub returns-clause-value : goal.returns-clause-value
returns-clause-value c =
    let links = c.self.inside.links.items in
    let heads = c.self.inside.heads.items in
    let within : c.args.list < length heads = omega (arith, c.requires, lists_length links heads c.args.self.now c.self.view_is) in
    led_from c.checked_sub.result c.index.result.now c.checked_sub.ensures ∙ ap led_to (c.index.ensures ∙ get_or_default heads c.args.list c.index.result.now 0 within)
    ∙ first_is links 0 _ (members (lists_of links heads) c.args.list) (c.self.invariant.linked.linked c.args.list within)
    ∙ ap (λ (w : ListsValue). slice_get (members w c.args.list) 0) c.self.view_is
