use Rattle.std.proofs.Common.{◌≡◌, length}
use Rattle.k_types.specs.Owners.{object_bytes}
use Rattle.k_types.specs.Totals.{total}
use Rattle.k_scan.proofs.Going.{gone_below}
use Rattle.k_scan.proofs.collecting.what_goes.Given as goal

abbrev pub invariant-loop-s : goal.invariant-loop-s
invariant-loop-s l = record {
  objects : l.objects ≡ length (gone_below l.lists.setup l.lists.state l.heap l.s);
  bytes : l.bytes ≡ total object_bytes (gone_below l.lists.setup l.lists.state l.heap l.s);
}
