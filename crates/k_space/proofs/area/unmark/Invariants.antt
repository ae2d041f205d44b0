use Rattle.std.proofs.Common.{◌≡◌, ◌++◌, map, take, drop}
use Rattle.k_space.specs.Segments.{unmarked_segment}
use Rattle.k_space.proofs.area.unmark.Given as goal

abbrev pub invariant-loop-segment : goal.invariant-loop-segment
invariant-loop-segment l = l.segments ≡ map unmarked_segment (take l.segment-index l.fn.segments) ++ drop l.segment-index l.fn.segments
