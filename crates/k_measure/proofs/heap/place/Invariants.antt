use Rattle.std.proofs.Common.{◌≡◌, ◌+◌, ◌<◌, ◌≤◌, length}
use Rattle.std.specs.Vec.Iter.{into_iter_items}
use Rattle.k_measure.specs.Inside.{AreNew, KeepsInside}
use Rattle.k_measure.proofs.heap.place.Given as goal

abbrev pub invariant-loop-body : goal.invariant-loop-body
invariant-loop-body l = record {
  begun : 0 < length l.segment.rows;
  room : length l.segment.rows + length (into_iter_items l.body-iterator) ≤ l.segment.room + 1;
  new : AreNew (into_iter_items l.body-iterator);
  inside : KeepsInside l.segment;
  number : l.segment.number ≡ l.fn.segment.number;
}
