use Rattle.std.proofs.Common.{◌≡◌, ℕ, List, ap₂, arith}
use Rattle.k_space.specs.declared.marks.Place.{Place}
use Rattle.k_space.proofs.SpotViews.{first_seen}
use Rattle.k_space.proofs.marks.Places.make.Goals as goal

pub returns : goal.returns
returns c =
    let room : c.in_ok-spots.spots.cap ≡ c.args.slots = grind arith in
    ap₂ (λ (xs : List Place) (n : ℕ). record { items = xs; capacity = n }) (first_seen c.in_ok-spots.spots.items c.in_ok-spots.ensures.items) room
