use Rattle.std.proofs.Common.{◌≡◌}
use Rattle.k_types.specs.Updates.{keep_objects}
use Rattle.k_scan.proofs.Kept.{kept_below}
use Rattle.k_scan.proofs.collecting.keep_reached.Given as goal

abbrev pub invariant-loop-s : goal.invariant-loop-s
invariant-loop-s l = record {
  setup : l.lists.setup ≡ l.fn.lists.setup;
  state : l.lists.state ≡ keep_objects (kept_below l.fn.lists.setup l.fn.lists.state l.heap l.s) l.fn.lists.state;
}
