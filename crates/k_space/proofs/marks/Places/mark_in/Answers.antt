use Rattle.std.proofs.Common.{◌≡◌, ap, ◌∙◌, arith}
use Rattle.std.proofs.lemmas.List.{get_or_default}
use Rattle.k_space.specs.declared.chains.Spot.{Spot}
use Rattle.k_space.specs.Chains.{blank, spot_at}
use Rattle.k_space.proofs.SpotViews.{held_inside, marked_kept, marked_seen}
use Rattle.k_space.proofs.marks.Places.mark_in.Goals as goal

pub index-requires : goal.index-requires
index-requires c =
    let within = held_inside c.self.inside.spots.items c.self.inside.epoch c.self.inside.made c.self.inside.spots.cap c.args.slot c.args.self.now c.self.view_is c.requires in
    omega (arith, within, c.self.inside.spots.ok.0)

pub index_mut-requires : goal.index_mut-requires
index_mut-requires c =
    let within = held_inside c.self.inside.spots.items c.self.inside.epoch c.self.inside.made c.self.inside.spots.cap c.args.slot c.args.self.now c.self.view_is c.requires in
    omega (arith, within, c.self.inside.spots.ok.0)

pub invariant_of-self : goal.invariant_of-self
invariant_of-self c =
    let within = held_inside c.self.inside.spots.items c.self.inside.epoch c.self.inside.made c.self.inside.spots.cap c.args.slot c.args.self.now c.self.view_is c.requires in
    let read : c.index.result.now ≡ spot_at c.self.inside.spots.items c.args.slot = c.index.ensures ∙ get_or_default c.self.inside.spots.items c.args.slot c.index.result.now blank within in
    marked_kept c.self.inside.spots.items c.self.inside.heads.items c.self.inside.made c.self.inside.epoch c.self.inside.spots.cap c.args.slot c.marked.result c.self.invariant within
    (c.marked.ensures.serial ∙ ap (λ (s : Spot). s.serial) read) (c.marked.ensures.before ∙ ap (λ (s : Spot). s.before) read) c.marked.ensures.stamp

pub returns : goal.returns
returns c = λ serial was here.
    let within = held_inside c.self.inside.spots.items c.self.inside.epoch c.self.inside.made c.self.inside.spots.cap c.args.slot c.args.self.now c.self.view_is c.requires in
    let read : c.index.result.now ≡ spot_at c.self.inside.spots.items c.args.slot = c.index.ensures ∙ get_or_default c.self.inside.spots.items c.args.slot c.index.result.now blank within in
    let kept =
    marked_kept c.self.inside.spots.items c.self.inside.heads.items c.self.inside.made c.self.inside.epoch c.self.inside.spots.cap c.args.slot c.marked.result c.self.invariant within
    (c.marked.ensures.serial ∙ ap (λ (s : Spot). s.serial) read) (c.marked.ensures.before ∙ ap (λ (s : Spot). s.before) read) c.marked.ensures.stamp in
    marked_seen c.self.inside.spots.items c.self.inside.heads.items c.self.inside.epoch c.self.inside.made c.self.inside.spots.cap serial c.args.slot c.marked.result was c.args.mark c.args.self.now c.self.view_is kept.linked within
    (c.marked.ensures.serial ∙ ap (λ (s : Spot). s.serial) read) c.marked.ensures.mark here
