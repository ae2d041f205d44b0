use Rattle.std.proofs.Common.{List, [], ℕ, replicate, ◌<◌, ◌^◌, length, sym, ap, subst, ◌∙◌, arith}
use Rattle.std.proofs.lemmas.List.{length-replicate}
use Rattle.k_lists.specs.declared.lists.Links.{Links}
use Rattle.k_lists.specs.Linked.{blank}
use Rattle.k_lists.proofs.Steps.{AreLists, lists_empty}
use Rattle.k_lists.proofs.lists.Lists.make.Goals as goal

made : (c : goal.In_ok-heads) → AreLists c.in_ok-links.links.items c.in_ok-heads.heads.items (record { lists = replicate c.args.lists []; room = c.args.room })
made c =
    let small : c.args.room < 2 ^ 32 = omega (arith, c.ranges.room) in
    subst (λ (hs : List ℕ). AreLists c.in_ok-links.links.items hs (record { lists = replicate c.args.lists []; room = c.args.room })) (sym (c.in_ok-heads.ensures.items))
    (subst (λ (ls : List Links). AreLists ls (replicate c.args.lists 0) (record { lists = replicate c.args.lists []; room = c.args.room })) (sym (c.in_ok-links.ensures.items))
    (lists_empty c.args.lists c.args.room blank small))

pub invariant_of-result : goal.invariant_of-result
invariant_of-result c = record {
  linked = (made c).linked;
  links_reserved = c.in_ok-links.ensures.capacity ∙ sym (ap (λ (ls : List Links). length ls) c.in_ok-links.ensures.items ∙ length-replicate c.args.room blank);
  heads_reserved = c.in_ok-heads.ensures.capacity ∙ sym (ap (λ (hs : List ℕ). length hs) c.in_ok-heads.ensures.items ∙ length-replicate c.args.lists 0);
}

pub returns : goal.returns
returns c = (made c).value
