use Rattle.std.proofs.Common.{◌≡◌, ◌++◌, map, take, drop}
use Rattle.k_space.specs.Areas.{blackened_in}
use Rattle.k_space.proofs.area.blacken.Given as goal

abbrev pub invariant-loop-segment : goal.invariant-loop-segment
invariant-loop-segment l = l.segments ≡ map (blackened_in l.fn.bound) (take l.segment-index l.fn.segments) ++ drop l.segment-index l.fn.segments
