use Rattle.std.proofs.Common.{refl, arith}
use Rattle.k_space.proofs.ChainWalks.{sought_in}
use Rattle.k_space.proofs.SpotViews.{places_seen, take_kept, take_seen}
use Rattle.k_space.proofs.marks.Places.take.Goals as goal

pub remove-requires : goal.remove-requires
remove-requires c =
    let seen = places_seen c.self.inside.spots.items c.self.inside.epoch c.self.inside.made c.self.inside.spots.cap c.args.self.now c.self.view_is in
    sought_in c.self.inside.spots.items c.self.inside.spots.items c.self.inside.heads.items c.self.inside.heads.items c.self.inside.made c.args.serial refl refl c.self.invariant.linked (omega (arith, seen.len, c.requires))

pub invariant_of-self : goal.invariant_of-self
invariant_of-self c =
    take_kept c.self.inside.spots.items c.remove.new.spots.items c.self.inside.heads.items c.remove.new.heads.items c.self.inside.made c.self.inside.epoch c.self.inside.spots.cap c.remove.new.spots.cap c.args.serial c.self.invariant c.remove.ensures.capacity
    (c.remove.ensures.linked c.self.inside.made c.self.invariant.linked) c.remove.ensures.removed

pub returns : goal.returns
returns c =
    let seen = places_seen c.self.inside.spots.items c.self.inside.epoch c.self.inside.made c.self.inside.spots.cap c.args.self.now c.self.view_is in
    take_seen c.self.inside.spots.items c.remove.new.spots.items c.remove.new.heads.items c.self.inside.epoch c.self.inside.made c.self.inside.spots.cap c.remove.new.spots.cap c.args.serial c.args.self.now c.self.view_is c.remove.ensures.capacity
    (c.remove.ensures.linked c.self.inside.made c.self.invariant.linked) c.remove.ensures.removed (omega (arith, seen.len, c.requires))
