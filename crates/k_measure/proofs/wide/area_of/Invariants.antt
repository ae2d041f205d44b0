use Rattle.std.proofs.Common.{◌≡◌, length}
use Rattle.k_measure.specs.Inside.{AreInside}
use Rattle.k_measure.proofs.Several.{AreBelow}
use Rattle.k_measure.proofs.wide.area_of.Given as goal

abbrev pub invariant-loop-number : goal.invariant-loop-number
invariant-loop-number l = record {
  inside : AreInside l.area.segments;
  below : AreBelow l.area.segments l.number;
  count : length l.area.segments ≡ l.number;
  room : l.area.room ≡ 129;
}
