use Rattle.std.proofs.Common.{◌≡◌, ◌-◌, ◌<◌, ℕ, suc, sym, ap, subst, ◌∙◌, refl, arith, length}
use Rattle.k_lists.specs.Hash.{bucket}
use Rattle.k_exit.specs.Chains.{at, last, in_chain}
use Rattle.k_exit.proofs.Last.{last_within}
use Rattle.k_exit.proofs.Links.{IsWalk, walk_begins, walk_goes, differs_of}
use Rattle.k_exit.proofs.chains.find_in.Goals as goal

pub loop-next-init : goal.loop-next-init
loop-next-init c =
    walk_begins c.args.items.now c.args.heads.now c.args.target _
    (c.requires.linked.firsts c.args.chain c.requires.within
    ∙ ap (λ b. last (in_chain c.args.items.now (length c.args.heads.now) (length c.args.items.now) b) (length c.args.items.now)) c.requires.chain)

pub loop-next-smaller : goal.loop-next-smaller
loop-next-smaller c =
    let i = c.loop-next.next - 1 in
    let within : i < length c.args.items.now = omega (arith, c.loop-next.invariant.within) in
    let next = c.requires.linked.nexts i within (λ s. omega (arith, within, s)) in
    let less = last_within (in_chain c.args.items.now (length c.args.heads.now) (length c.args.items.now) (bucket (length c.args.heads.now) (at c.args.items.now i).target)) i in
    omega (arith, next, less)

pub loop-next-preserved : goal.loop-next-preserved
loop-next-preserved c =
    let i = c.loop-next.next - 1 in
    let one : c.loop-next.next ≡ suc i = omega arith in
    walk_goes c.args.items.now c.args.heads.now c.args.target i _ c.requires.linked
    (subst (λ (n : ℕ). IsWalk c.args.items.now c.args.heads.now c.args.target n) one c.loop-next.invariant)
    (differs_of (at c.args.items.now i).target c.args.target (sym c.eq.ensures ∙ c.if-eq.false)) refl
