use Rattle.std.proofs.Common.{◌≡◌, map}
use Rattle.std.specs.Arc.{arc_value}
use Rattle.k_parts.specs.Parts.{shared_seen}
use Rattle.k_parts.proofs.splitting.split_heaps.Given as goal

abbrev pub invariant-loop-heap : goal.invariant-loop-heap
invariant-loop-heap g l = l.made.items ≡ map (shared_seen (arc_value l.head)) l.yielded
