use Rattle.std.proofs.Common.{◌≡◌, ℕ, ◌<◌, [], length, map, get_or}
use Rattle.k_types.specs.Trace.{segment_count}
use Rattle.k_text.specs.Shown.{exits_of}
use Rattle.k_text.specs.Heaps.{heap_at}
use Rattle.k_solo.proofs.targets.all_targets.Given as goal

abbrev pub invariant-loop-seg : goal.invariant-loop-seg
invariant-loop-seg l = record {
  all : l.count ≡ segment_count l.lists.setup;
  sized : length l.rows.items ≡ l.seg;
  each : (k : ℕ) → k < l.seg → get_or (map (λ row. row.items) l.rows.items) k [] ≡ exits_of l.lists.state.exits (heap_at l.lists.setup k);
}
