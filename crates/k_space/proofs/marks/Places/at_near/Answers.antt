use Rattle.std.proofs.Common.{◌≡◌, ◌<◌, length, sym, ap, ◌∙◌, arith}
use Rattle.std.proofs.lemmas.List.{get_or_default}
use Rattle.k_space.specs.declared.marks.Place.TheVariants.{At}
use Rattle.k_space.specs.Chains.{blank, spot_at}
use Rattle.k_space.proofs.SpotViews.{place_hinted, places_seen}
use Rattle.k_space.proofs.marks.Places.at_near.Goals as goal

pub returns-then-spot-serial : goal.returns-then-spot-serial
returns-then-spot-serial c =
    let seen = places_seen c.self.inside.spots.items c.self.inside.epoch c.self.inside.made c.self.inside.spots.cap c.args.self.now c.self.view_is in
    let within : c.args.hint < length c.self.inside.spots.items = omega (arith, c.if-hint-len.true, c.len.ensures, c.self.inside.spots.ok.0) in
    let read : c.index-spot.result.now ≡ spot_at c.self.inside.spots.items c.args.hint = c.index-spot.ensures ∙ get_or_default c.self.inside.spots.items c.args.hint c.index-spot.result.now blank within in
    ap (At c.args.hint) c.mark_of.ensures
    ∙ sym (place_hinted c.self.inside.spots.items c.self.inside.heads.items c.self.inside.epoch c.self.inside.made c.self.inside.spots.cap c.args.serial c.args.hint c.index-spot.result.now c.args.self.now c.self.view_is c.self.invariant.linked (omega (arith, seen.len, c.requires)) read (omega (arith, c.if-spot-serial.true)) c.if-serial-gt0.true)
