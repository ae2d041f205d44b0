use Rattle.std.proofs.Common.{◌≡◌, ◌-◌, ◌<◌, suc, length, sym, ap, ◌∙◌, arith}
use Rattle.std.proofs.lemmas.List.{get_or_default}
use Rattle.k_space.specs.declared.marks.Place.TheVariants.{At}
use Rattle.k_space.specs.Chains.{blank, spot_at}
use Rattle.k_space.specs.Stamps.{mark_of}
use Rattle.k_space.proofs.ChainWalks.{live_inside, reached_in, sought_in}
use Rattle.k_space.proofs.SpotViews.{place_none, place_there, places_seen}
use Rattle.k_space.proofs.marks.Places.at.Goals as goal

pub reach-at-requires : goal.reach-at-requires
reach-at-requires c =
    let seen = places_seen c.self.inside.spots.items c.self.inside.epoch c.self.inside.made c.self.inside.spots.cap c.args.self.now c.self.view_is in
    sought_in c.self.inside.spots.items c.deref.result.now c.self.inside.heads.items c.deref-2.result.now c.self.inside.made c.args.serial c.deref.ensures.value c.deref-2.ensures.value c.self.invariant.linked (omega (arith, seen.len, c.requires))

pub returns-then-at-eq0 : goal.returns-then-at-eq0
returns-then-at-eq0 c =
    let seen = places_seen c.self.inside.spots.items c.self.inside.epoch c.self.inside.made c.self.inside.spots.cap c.args.self.now c.self.view_is in
    let reached = reached_in c.self.inside.spots.items c.deref.result.now c.self.inside.heads.items c.deref-2.result.now c.args.serial c.reach-at.result.newer c.reach-at.result.at c.deref.ensures.value c.deref-2.ensures.value c.reach-at.ensures in
    sym (place_none c.self.inside.spots.items c.self.inside.heads.items c.self.inside.epoch c.self.inside.made c.self.inside.spots.cap c.args.serial c.reach-at.result.newer c.reach-at.result.at c.args.self.now c.self.view_is c.self.invariant.linked (omega (arith, seen.len, c.requires)) reached c.if-at-eq0.true)

pub index-requires : goal.index-requires
index-requires c =
    let reached = reached_in c.self.inside.spots.items c.deref.result.now c.self.inside.heads.items c.deref-2.result.now c.args.serial c.reach-at.result.newer c.reach-at.result.at c.deref.ensures.value c.deref-2.ensures.value c.reach-at.ensures in
    let one : c.reach-at.result.at ≡ suc (c.reach-at.result.at - 1) = omega (arith, c.if-at-eq0.false) in
    omega (arith, live_inside c.self.inside.spots.items (c.reach-at.result.at - 1) (reached.live (c.reach-at.result.at - 1) one), c.self.inside.spots.ok.0)

pub returns : goal.returns
returns c =
    let seen = places_seen c.self.inside.spots.items c.self.inside.epoch c.self.inside.made c.self.inside.spots.cap c.args.self.now c.self.view_is in
    let reached = reached_in c.self.inside.spots.items c.deref.result.now c.self.inside.heads.items c.deref-2.result.now c.args.serial c.reach-at.result.newer c.reach-at.result.at c.deref.ensures.value c.deref-2.ensures.value c.reach-at.ensures in
    let slot = c.reach-at.result.at - 1 in
    let one : c.reach-at.result.at ≡ suc (c.reach-at.result.at - 1) = omega (arith, c.if-at-eq0.false) in
    let within : c.reach-at.result.at - 1 < length c.self.inside.spots.items = live_inside c.self.inside.spots.items slot (reached.live slot one) in
    let read : c.index.result.now ≡ spot_at c.self.inside.spots.items (c.reach-at.result.at - 1) = c.index.ensures ∙ get_or_default c.self.inside.spots.items slot c.index.result.now blank within in
    ap (At slot) (c.mark_of.ensures ∙ ap (mark_of c.self.inside.epoch) read) ∙ sym (place_there c.self.inside.spots.items c.self.inside.heads.items c.self.inside.epoch c.self.inside.made c.self.inside.spots.cap c.args.serial c.reach-at.result.newer c.reach-at.result.at slot c.args.self.now c.self.view_is c.self.invariant.linked (omega (arith, seen.len, c.requires)) reached one)
