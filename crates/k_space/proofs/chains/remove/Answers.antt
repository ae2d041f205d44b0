use Rattle.std.proofs.Common.{◌≡◌, ◌-◌, ◌<◌, List, suc, length, sym, ap, subst, ◌∙◌, set, arith}
use Rattle.std.proofs.lemmas.List.{get_or_default, length-set}
use Rattle.k_space.specs.declared.chains.Spot.{Spot}
use Rattle.k_space.specs.Chains.{AreLinked, IsRemoved, before_at, blank, chain_by, serial_at}
use Rattle.k_space.proofs.ChainWalks.{live_inside, reached_in, removed_first, removed_passed, spot_passed, spot_removed}
use Rattle.k_space.proofs.chains.remove.Goals as goal

pub index-requires : goal.index-requires
index-requires c =
    let reached = reached_in c.args.spots.now.items c.deref.result.now c.args.heads.now.items c.deref-2.result.now c.args.serial c.reach-reached.result.newer c.reach-reached.result.at c.deref.ensures.value c.deref-2.ensures.value c.reach-reached.ensures in
    let one : c.reach-reached.result.at ≡ suc (c.reach-reached.result.at - 1) = omega (arith, c.if-reached-ne0.true) in
    omega (arith, live_inside c.args.spots.now.items (c.reach-reached.result.at - 1) (reached.live (c.reach-reached.result.at - 1) one), c.args.spots.now.ok.0)

pub set_before-requires : goal.set_before-requires
set_before-requires c =
    let reached = reached_in c.args.spots.now.items c.deref.result.now c.args.heads.now.items c.deref-2.result.now c.args.serial c.reach-reached.result.newer c.reach-reached.result.at c.deref.ensures.value c.deref-2.ensures.value c.reach-reached.ensures in
    let one : c.reach-reached.result.at ≡ suc (c.reach-reached.result.at - 1) = omega (arith, c.if-reached-ne0.true) in
    let past : c.reach-reached.result.newer ≡ suc (c.reach-reached.result.newer - 1) = omega (arith, c.if-reached-eq0.false) in
    let more : c.args.serial < serial_at c.args.spots.now.items (c.reach-reached.result.newer - 1) = (reached.passed (c.reach-reached.result.at - 1) (c.reach-reached.result.newer - 1) one past).1 in
    omega (arith, live_inside c.args.spots.now.items (c.reach-reached.result.newer - 1) (omega (arith, more)), length-set c.args.spots.now.items (c.reach-reached.result.at - 1) blank)

pub returns-then-reached-eq0-clause-linked : goal.returns-then-reached-eq0-clause-linked
returns-then-reached-eq0-clause-linked c = λ made linked.
    let spots = c.args.spots.now.items in
    let heads = c.args.heads.now.items in
    let reached = reached_in c.args.spots.now.items c.deref.result.now c.args.heads.now.items c.deref-2.result.now c.args.serial c.reach-reached.result.newer c.reach-reached.result.at c.deref.ensures.value c.deref-2.ensures.value c.reach-reached.ensures in
    let slot = c.reach-reached.result.at - 1 in
    let one : c.reach-reached.result.at ≡ suc (c.reach-reached.result.at - 1) = omega (arith, c.if-reached-ne0.true) in
    let read : c.index.result.now.before ≡ before_at c.args.spots.now.items (c.reach-reached.result.at - 1) = ap (λ (s : Spot). s.before) (c.index.ensures ∙ get_or_default spots slot c.index.result.now blank (live_inside spots slot (reached.live slot one))) in
    let len : c.len.result ≡ length c.args.heads.now.items = c.len.ensures ∙ c.args.heads.now.ok.0 in
    let is : c.chain_of-chain.result ≡ chain_by (length c.args.heads.now.items) c.args.serial = c.chain_of-chain.ensures.value ∙ ap (λ n. chain_by n c.args.serial) len in
    let within : chain_by (length c.args.heads.now.items) c.args.serial < length c.args.heads.now.items = omega (arith, is, len, c.chain_of-chain.ensures.within) in
    subst (λ n. AreLinked (set c.args.spots.now.items (c.reach-reached.result.at - 1) blank) (set c.args.heads.now.items n c.index.result.now.before) made) (sym is)
    (spot_removed spots heads made c.args.serial c.reach-reached.result.newer c.reach-reached.result.at slot c.index.result.now.before linked reached one c.if-reached-eq0.true read within)

pub returns-then-reached-eq0-clause-removed : goal.returns-then-reached-eq0-clause-removed
returns-then-reached-eq0-clause-removed c =
    let reached = reached_in c.args.spots.now.items c.deref.result.now c.args.heads.now.items c.deref-2.result.now c.args.serial c.reach-reached.result.newer c.reach-reached.result.at c.deref.ensures.value c.deref-2.ensures.value c.reach-reached.ensures in
    let one : c.reach-reached.result.at ≡ suc (c.reach-reached.result.at - 1) = omega (arith, c.if-reached-ne0.true) in
    removed_first c.args.spots.now.items c.args.heads.now.items c.requires.made c.args.serial c.reach-reached.result.newer c.reach-reached.result.at (c.reach-reached.result.at - 1) c.requires.linked reached one

pub returns-else-reached-eq0-clause-linked : goal.returns-else-reached-eq0-clause-linked
returns-else-reached-eq0-clause-linked c = λ made linked.
    let spots = c.args.spots.now.items in
    let heads = c.args.heads.now.items in
    let reached = reached_in c.args.spots.now.items c.deref.result.now c.args.heads.now.items c.deref-2.result.now c.args.serial c.reach-reached.result.newer c.reach-reached.result.at c.deref.ensures.value c.deref-2.ensures.value c.reach-reached.ensures in
    let slot = c.reach-reached.result.at - 1 in
    let one : c.reach-reached.result.at ≡ suc (c.reach-reached.result.at - 1) = omega (arith, c.if-reached-ne0.true) in
    let past : c.reach-reached.result.newer ≡ suc (c.reach-reached.result.newer - 1) = omega (arith, c.if-reached-eq0.false) in
    let read : c.index.result.now.before ≡ before_at c.args.spots.now.items (c.reach-reached.result.at - 1) = ap (λ (s : Spot). s.before) (c.index.ensures ∙ get_or_default spots slot c.index.result.now blank (live_inside spots slot (reached.live slot one))) in
    subst (λ (xs : List Spot). AreLinked xs c.args.heads.now.items made) (sym c.set_before.ensures.items)
    (spot_passed spots heads made c.args.serial c.reach-reached.result.newer c.reach-reached.result.at slot (c.reach-reached.result.newer - 1) c.index.result.now.before linked reached one past read)

pub returns-else-reached-eq0-clause-removed : goal.returns-else-reached-eq0-clause-removed
returns-else-reached-eq0-clause-removed c =
    let spots = c.args.spots.now.items in
    let slot = c.reach-reached.result.at - 1 in
    let reached = reached_in c.args.spots.now.items c.deref.result.now c.args.heads.now.items c.deref-2.result.now c.args.serial c.reach-reached.result.newer c.reach-reached.result.at c.deref.ensures.value c.deref-2.ensures.value c.reach-reached.ensures in
    let one : c.reach-reached.result.at ≡ suc (c.reach-reached.result.at - 1) = omega (arith, c.if-reached-ne0.true) in
    subst (λ (xs : List Spot). IsRemoved c.args.spots.now.items xs c.args.serial) (sym c.set_before.ensures.items)
    (removed_passed spots (set spots slot blank) c.args.serial (c.reach-reached.result.newer - 1) c.index.result.now.before
    (removed_first spots c.args.heads.now.items c.requires.made c.args.serial c.reach-reached.result.newer c.reach-reached.result.at slot c.requires.linked reached one))
