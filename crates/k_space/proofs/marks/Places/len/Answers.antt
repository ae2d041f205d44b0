use Rattle.std.proofs.Common.{sym, arith}
use Rattle.k_space.specs.Stamps.{mark_at}
use Rattle.k_space.specs.Chains.{serial_at}
use Rattle.k_space.proofs.SpotPlaces.{places_apart}
use Rattle.k_space.proofs.SpotViews.{places_seen}
use Rattle.k_space.proofs.marks.Places.len.Goals as goal

pub returns-clause-value : goal.returns-clause-value
returns-clause-value c = sym (places_seen c.self.inside.spots.items c.self.inside.epoch c.self.inside.made c.self.inside.spots.cap c.args.self.now c.self.view_is).len

pub returns-clause-small : goal.returns-clause-small
returns-clause-small c =
    let seen = places_seen c.self.inside.spots.items c.self.inside.epoch c.self.inside.made c.self.inside.spots.cap c.args.self.now c.self.view_is in
    omega (arith, seen.len, c.self.invariant.few)

pub returns-clause-apart : goal.returns-clause-apart
returns-clause-apart c = λ i j slot a b.
    places_apart (serial_at c.self.inside.spots.items) (mark_at c.self.inside.epoch c.self.inside.spots.items) c.self.inside.made c.args.self.now.items i j slot a b
    (places_seen c.self.inside.spots.items c.self.inside.epoch c.self.inside.made c.self.inside.spots.cap c.args.self.now c.self.view_is)
