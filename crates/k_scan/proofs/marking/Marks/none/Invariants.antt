use Rattle.std.proofs.Common.{◌≡◌, map}
use Rattle.k_types.specs.Numbers.{numbers_below}
use Rattle.k_scan.proofs.Marks.{blank}
use Rattle.k_scan.proofs.marking.Marks.none.Given as goal

abbrev pub invariant-loop-seg : goal.invariant-loop-seg
invariant-loop-seg l = l.segments.items ≡ map (blank l.lists.setup l.lists.state l.heap) (numbers_below l.seg)
