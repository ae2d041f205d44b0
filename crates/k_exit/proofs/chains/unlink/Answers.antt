use Rattle.std.proofs.Common.{◌≡◌, ◌<◌, List, sym, ap, subst, ◌∙◌, inr, length, map, arith}
use Rattle.k_exit.specs.declared.chains.Item.{Item}
use Rattle.k_exit.specs.Chains.{IsLinked, IsLinkedAbove, IsNextAbove, HasNoneAbove, at, row_of}
use Rattle.k_exit.proofs.Relinks.{unlinked_at, unlinked_head, chain_here, read_at, next_rows}
use Rattle.k_exit.proofs.chains.unlink.Goals as goal

pub above-requires : goal.above-requires
above-requires c =
    let len : c.len-2.result ≡ length c.args.items.now.items = c.len-2.ensures ∙ c.args.items.now.ok.0 in
    record {
      chain = omega (arith, c.chain_of-chain.ensures.within, c.len.ensures, c.deref-2.ensures.len);
      place = omega (arith, c.requires.place, c.deref.ensures.len, c.args.items.now.ok.0);
      linked =
          subst (λ n. IsLinkedAbove c.deref.result.now c.deref-2.result.now n c.args.i) (sym len)
          (rw (c.deref.ensures.value, c.deref-2.ensures.value) (record { out = length c.args.items.now.items; linked = c.requires.linked; side = inr (omega arith) }));
    }

pub returns-in-Some-clause-linked : goal.returns-in-Some-clause-linked
returns-in-Some-clause-linked c =
    let items = c.args.items.now.items in
    let heads = c.args.heads.now.items in
    let len : c.len-2.result ≡ length items = c.len-2.ensures ∙ c.args.items.now.ok.0 in
    let chain = chain_here items heads c.args.i c.len.result c.chain_of-chain.result c.index-2.result.now c.requires.place c.index-2.ensures (c.len.ensures ∙ c.args.heads.now.ok.0) c.chain_of-chain.ensures.value in
    let above : IsNextAbove items heads (length items) c.chain_of-chain.result c.args.i c.in-Some.p = rw (c.deref.ensures.value, c.deref-2.ensures.value, len) at c.in-Some.ensures.some in
    let next : c.index.result.now.next ≡ (at items c.args.i).next = ap (λ (x : Item). x.next) (read_at items c.args.i c.index.result.now c.requires.place c.index.ensures) in
    subst (λ (xs : List Item). IsLinked xs heads (length items) c.args.i) (sym c.set_next.ensures.items)
    (unlinked_at items heads c.args.i c.in-Some.p c.index.result.now.next c.chain_of-chain.result c.requires.linked c.requires.place chain next above)

pub returns-in-Some-clause-rows : goal.returns-in-Some-clause-rows
returns-in-Some-clause-rows c = ap (λ (xs : List Item). map row_of xs) c.set_next.ensures.items ∙ next_rows c.args.items.now.items c.in-Some.p c.index.result.now.next

pub returns-in-None-clause-linked : goal.returns-in-None-clause-linked
returns-in-None-clause-linked c =
    let items = c.args.items.now.items in
    let heads = c.args.heads.now.items in
    let len : c.len-2.result ≡ length items = c.len-2.ensures ∙ c.args.items.now.ok.0 in
    let chain = chain_here items heads c.args.i c.len.result c.chain_of-chain.result c.index-2.result.now c.requires.place c.index-2.ensures (c.len.ensures ∙ c.args.heads.now.ok.0) c.chain_of-chain.ensures.value in
    let none : HasNoneAbove items heads (length items) c.chain_of-chain.result c.args.i = rw (c.deref.ensures.value, c.deref-2.ensures.value, len) at c.in-None.ensures.none in
    let chain_in : c.chain_of-chain.result < length heads = omega (arith, c.chain_of-chain.ensures.within, c.len.ensures, c.args.heads.now.ok.0) in
    let next : c.index.result.now.next ≡ (at items c.args.i).next = ap (λ (x : Item). x.next) (read_at items c.args.i c.index.result.now c.requires.place c.index.ensures) in
    unlinked_head items heads c.args.i c.index.result.now.next c.chain_of-chain.result c.requires.linked c.requires.place chain chain_in next none
