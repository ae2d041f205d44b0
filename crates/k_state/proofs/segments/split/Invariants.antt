use Rattle.std.proofs.Common.{◌≡◌, ◌++◌, length}
use Rattle.std.specs.Vec.Iter.{into_iter_items, into_iter_len}
use Rattle.k_state.specs.Segments.{AreOf, joined}
use Rattle.k_state.proofs.segments.split.Given as goal

abbrev pub invariant-loop-object : goal.invariant-loop-object
invariant-loop-object l = record {
  parts : l.yielded ++ into_iter_items l.object-iterator ≡ into_iter_items l.initial.object-iterator;
  left : into_iter_len l.object-iterator ≡ length (into_iter_items l.object-iterator);
  of : AreOf 0 l.lists.items;
  count : length l.lists.items ≡ l.fn.count;
  all : joined l.lists.items ≡ l.yielded;
}
