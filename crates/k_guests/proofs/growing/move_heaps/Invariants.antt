use Rattle.std.proofs.Common.{◌≡◌, ◌+◌, length}
use Rattle.k_guests.specs.Growing.{OfEach, changed_first, heap_with_tables}
use Rattle.k_guests.proofs.growing.move_heaps.Given as goal

abbrev pub invariant-loop-i : goal.invariant-loop-i
invariant-loop-i l = record {
  shared_are : l.shared.items ≡ changed_first (heap_with_tables l.exits) l.i l.fn.shared.items;
  count : length l.larger.items + l.i ≡ length l.fn.shared.items;
  each : OfEach (λ room. room ≡ l.exits) l.larger.items;
}
