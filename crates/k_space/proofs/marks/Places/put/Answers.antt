use Rattle.std.proofs.Common.{arith}
use Rattle.k_space.proofs.SpotViews.{places_seen, put_kept, put_seen, slot_free}
use Rattle.k_space.proofs.marks.Places.put.Goals as goal

pub insert-requires-clause-free : goal.insert-requires-clause-free
insert-requires-clause-free c =
    slot_free c.self.inside.spots.items c.self.inside.heads.items c.self.inside.epoch c.self.inside.made c.self.inside.spots.cap c.args.slot c.args.self.now c.self.view_is c.self.invariant.linked c.requires.free

pub overflow_add-self : goal.overflow_add-self
overflow_add-self c =
    let seen = places_seen c.self.inside.spots.items c.self.inside.epoch c.self.inside.made c.self.inside.spots.cap c.args.self.now c.self.view_is in
    omega (arith, seen.len, c.requires.few)

pub invariant_of-self : goal.invariant_of-self
invariant_of-self c =
    let seen = places_seen c.self.inside.spots.items c.self.inside.epoch c.self.inside.made c.self.inside.spots.cap c.args.self.now c.self.view_is in
    put_kept c.self.inside.spots.items c.insert.new.spots.items c.self.inside.heads.items c.insert.new.heads.items c.self.inside.made c.self.inside.epoch c.self.inside.spots.cap c.insert.new.spots.cap c.args.slot c.self.invariant c.insert.ensures.capacity
    c.insert.ensures.linked c.insert.ensures.inserted (omega (arith, seen.len, c.requires.few))

pub returns : goal.returns
returns c =
    put_seen c.self.inside.spots.items c.insert.new.spots.items c.self.inside.heads.items c.insert.new.heads.items c.self.inside.epoch c.self.inside.made c.self.inside.spots.cap c.insert.new.spots.cap c.args.slot c.args.self.now c.self.view_is c.self.invariant c.insert.ensures.capacity
    c.insert.ensures.linked c.insert.ensures.inserted c.requires.free
