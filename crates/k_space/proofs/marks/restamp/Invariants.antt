use Rattle.std.proofs.Common.{◌≡◌, ◌++◌, map, take, drop}
use Rattle.k_space.specs.Stamps.{plain}
use Rattle.k_space.proofs.marks.restamp.Given as goal

abbrev pub invariant-loop-spot : goal.invariant-loop-spot
invariant-loop-spot l = l.spots ≡ map plain (take l.spot-index l.fn.spots) ++ drop l.spot-index l.fn.spots
