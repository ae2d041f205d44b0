use Rattle.std.proofs.Common.{◌≡◌, ◌++◌, List, map, length, take, drop, sym, ap, ◌∙◌}
use Rattle.std.proofs.lemmas.List.{length-map}
use Rattle.k_space.specs.declared.chains.Spot.{Spot}
use Rattle.k_space.specs.Stamps.{plain}
use Rattle.k_space.proofs.Rows.{front_whole}
use Rattle.k_space.proofs.SpotViews.{later_seen, plain_kept, plain_seen}
use Rattle.k_space.proofs.marks.Places.whiten.Goals as goal

-- what the pass leaves
after : (c : goal.After-self-else-self-lt4294967290-2-1) → take c.self.inside.spots.len (c.restamp.new.spots ++ drop (length c.restamp.new.spots) c.self.inside.spots.items) ≡ map plain c.self.inside.spots.items
after c =
    let spots = c.self.inside.spots.items in
    let new : c.restamp.new.spots ≡ map plain spots = c.restamp.ensures ∙ ap (λ (xs : List Spot). map plain xs) c.deref_mut.ensures.value in
    let len : length c.restamp.new.spots ≡ c.self.inside.spots.len = ap (λ (xs : List Spot). length xs) new ∙ length-map spots plain ∙ sym c.self.inside.spots.ok.0 in
    front_whole c.restamp.new.spots (drop (length c.restamp.new.spots) spots) c.self.inside.spots.len len ∙ new

pub invariant_of-self-else-self-lt4294967290 : goal.invariant_of-self-else-self-lt4294967290
invariant_of-self-else-self-lt4294967290 c =
    plain_kept c.self.inside.spots.items (take c.self.inside.spots.len (c.restamp.new.spots ++ drop (length c.restamp.new.spots) c.self.inside.spots.items)) c.self.inside.heads.items c.self.inside.made c.self.inside.epoch c.self.inside.spots.cap c.self.invariant (after c)

pub returns-then-self-lt4294967290 : goal.returns-then-self-lt4294967290
returns-then-self-lt4294967290 c = later_seen c.self.inside.spots.items c.self.inside.heads.items c.self.inside.epoch c.self.inside.made c.self.inside.spots.cap c.args.self.now c.self.view_is c.self.invariant

pub returns-else-self-lt4294967290 : goal.returns-else-self-lt4294967290
returns-else-self-lt4294967290 c =
    plain_seen c.self.inside.spots.items (take c.self.inside.spots.len (c.restamp.new.spots ++ drop (length c.restamp.new.spots) c.self.inside.spots.items)) c.self.inside.heads.items c.self.inside.epoch c.self.inside.made c.self.inside.spots.cap c.args.self.now c.self.view_is c.self.invariant (after c)
