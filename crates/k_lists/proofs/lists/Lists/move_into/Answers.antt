use Rattle.std.proofs.Common.{◌≡◌, ◌<◌, ◌≤◌, ℕ, List, length, sym, ap, ap₂, subst, ◌∙◌, arith}
use Rattle.k_lists.specs.declared.lists.Links.{Links}
use Rattle.k_lists.specs.Lists.{ListsValue}
use Rattle.k_lists.specs.Linked.{at, lists_of}
use Rattle.k_lists.proofs.Grown.{grown}
use Rattle.k_lists.proofs.Steps.{AreLists}
use Rattle.k_lists.proofs.lists.Lists.move_into.Goals as goal

pub copy_front-requires : goal.copy_front-requires
copy_front-requires c =
    let before : length c.self.inside.links.items ≡ c.args.self.now.room = ap (λ (v : ListsValue). v.room) c.self.view_is in
    let after : length c.larger.inside.links.items ≡ c.args.larger.room = ap (λ (v : ListsValue). v.room) c.larger.view_is in
    let read : length c.deref.result.now ≡ length c.self.inside.links.items = ap (λ (ls : List Links). length ls) c.deref.ensures.value in
    omega (arith, c.requires, before, after, read)

step : (c : goal.After-drop-larger-inside) → AreLists c.copy_front.new.into.items c.self.inside.heads.items (record (lists_of c.self.inside.links.items c.self.inside.heads.items) { room = length c.copy_front.new.into.items })
step c =
    let before : length c.self.inside.links.items ≡ c.args.self.now.room = ap (λ (v : ListsValue). v.room) c.self.view_is in
    let after : length c.larger.inside.links.items ≡ c.args.larger.room = ap (λ (v : ListsValue). v.room) c.larger.view_is in
    let read : c.deref.result.now ≡ c.self.inside.links.items = c.deref.ensures.value in
    grown c.self.inside.links.items c.copy_front.new.into.items c.self.inside.heads.items c.self.invariant.linked (omega (arith, c.requires, before, after, c.copy_front.ensures.len))
    (omega (arith, c.copy_front.ensures.len, c.larger.invariant.linked.small))
    (λ i within. c.copy_front.ensures.front i (subst (λ (ls : List Links). i < length ls) (sym read) within) ∙ ap (λ (ls : List Links). at ls i) read)

pub invariant_of-self : goal.invariant_of-self
invariant_of-self c = record {
  linked = (step c).linked;
  links_reserved = omega (arith, c.copy_front.ensures.capacity, c.copy_front.ensures.len, c.larger.invariant.links_reserved);
  heads_reserved = c.self.invariant.heads_reserved;
}

pub returns-clause-moved : goal.returns-clause-moved
returns-clause-moved c =
    let after : length c.larger.inside.links.items ≡ c.args.larger.room = ap (λ (v : ListsValue). v.room) c.larger.view_is in
    (step c).value ∙ ap₂ (λ (v : ListsValue) (n : ℕ). record { lists = v.lists; room = n }) c.self.view_is (c.copy_front.ensures.len ∙ after)

pub returns-clause-apart : goal.returns-clause-apart
returns-clause-apart c = (invariant_of-self c).linked.apart
