use Rattle.std.proofs.Common.{◌≡◌, ◌<◌, ◌+◌, ℕ, suc, List, refl, sym, ap, ap₂, subst, ◌∙◌, inl, length, map, get_or, set, add-one, arith}
use Rattle.std.proofs.lemmas.List.{get_or_default}
use Rattle.k_exit.specs.declared.chains.Item.{Item}
use Rattle.k_exit.specs.Chains.{IsLinked, IsNextAbove, HasNoneAbove, at, row_of, with_next}
use Rattle.k_exit.proofs.Relinks.{linked_at, linked_head, read_at, next_rows}
use Rattle.k_exit.proofs.chains.link_in.Goals as goal

-- the place is one of the items
inside : (items : List Item) (heads : List ℕ) (end i : ℕ) → IsLinked items heads end i → i < end → i < length items
inside items heads end i linked below = omega (arith, linked.end_in, below)

pub above-requires : goal.above-requires
above-requires c =
    let is = c.deref.ensures.value in
    let heads_is = c.deref-2.ensures.value in
    let i_in = inside c.args.items.now.items c.args.heads.now.items c.args.end c.args.i c.requires.linked c.requires.place in
    record {
      chain = omega (arith, c.requires.within, c.deref-2.ensures.len, c.args.heads.now.ok.0);
      place = omega (arith, i_in, c.deref.ensures.len, c.args.items.now.ok.0);
      linked = rw (is, heads_is) (record { out = c.args.i; linked = c.requires.linked; side = inl refl });
    }

pub returns-in-Some-clause-linked : goal.returns-in-Some-clause-linked
returns-in-Some-clause-linked c =
    let items = c.args.items.now.items in
    let heads = c.args.heads.now.items in
    let above : IsNextAbove items heads c.args.end c.args.chain c.args.i c.in-Some.p = rw (c.deref.ensures.value, c.deref-2.ensures.value) at c.in-Some.ensures.some in
    let p_in : c.in-Some.p < length items = omega (arith, above.below, c.requires.linked.end_in) in
    let next : c.index.result.now.next ≡ (at items c.in-Some.p).next = ap (λ (x : Item). x.next) (read_at items c.in-Some.p c.index.result.now p_in c.index.ensures) in
    let new : c.set_next-in-Some.new.items.items ≡ with_next (with_next items c.args.i c.index.result.now.next) c.in-Some.p (suc c.args.i) =
    c.set_next-in-Some.ensures.items ∙ ap₂ (λ (xs : List Item) n. with_next xs c.in-Some.p n) c.set_next.ensures.items (add-one c.args.i) in
    subst (λ (xs : List Item). IsLinked xs heads c.args.end c.args.end) (sym new)
    (linked_at items heads c.args.end c.args.i c.in-Some.p c.index.result.now.next c.args.chain c.requires.linked c.requires.place c.requires.chain next above)

pub returns-in-Some-clause-rows : goal.returns-in-Some-clause-rows
returns-in-Some-clause-rows c =
    ap (λ (xs : List Item). map row_of xs) c.set_next-in-Some.ensures.items ∙ next_rows c.set_next.new.items.items c.in-Some.p (c.args.i + 1)
    ∙ ap (λ (xs : List Item). map row_of xs) c.set_next.ensures.items ∙ next_rows c.args.items.now.items c.args.i c.index.result.now.next

pub returns-in-None-clause-linked : goal.returns-in-None-clause-linked
returns-in-None-clause-linked c =
    let items = c.args.items.now.items in
    let heads = c.args.heads.now.items in
    let none : HasNoneAbove items heads c.args.end c.args.chain c.args.i = rw (c.deref.ensures.value, c.deref-2.ensures.value) at c.in-None.ensures.none in
    let next : c.index-next.result.now ≡ get_or heads c.args.chain 0 = c.index-next.ensures ∙ get_or_default heads c.args.chain c.index-next.result.now 0 c.requires.within in
    let new : c.set_next-in-None.new.items.items ≡ with_next items c.args.i c.index-next.result.now = c.set_next-in-None.ensures.items in
    subst (λ (xs : List Item). IsLinked xs (set heads c.args.chain (c.args.i + 1)) c.args.end c.args.end) (sym new)
    (subst (λ n. IsLinked (with_next items c.args.i c.index-next.result.now) (set heads c.args.chain n) c.args.end c.args.end) (sym (add-one c.args.i))
    (linked_head items heads c.args.end c.args.i c.index-next.result.now c.args.chain c.requires.linked c.requires.place c.requires.chain c.requires.within next none))

pub returns-in-None-clause-rows : goal.returns-in-None-clause-rows
returns-in-None-clause-rows c = ap (λ (xs : List Item). map row_of xs) c.set_next-in-None.ensures.items ∙ next_rows c.args.items.now.items c.args.i c.index-next.result.now
