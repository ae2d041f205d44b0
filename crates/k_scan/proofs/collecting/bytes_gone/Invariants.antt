use Rattle.std.proofs.Common.{◌≡◌, ◌+◌, ◌*◌, ◌≤◌, not, map, drop}
use Rattle.k_types.specs.Owners.{object_bytes}
use Rattle.k_types.specs.Totals.{total}
use Rattle.k_state.specs.Marks.{marked}
use Rattle.k_scan.proofs.collecting.bytes_gone.Given as goal

abbrev pub invariant-loop-at : goal.invariant-loop-at
invariant-loop-at l = record {
  small : l.sum ≤ 144 * l.at;
  sum : l.sum + total object_bytes (marked (map not (drop l.at l.stays)) (drop l.at l.objects)) ≡ total object_bytes (marked (map not l.stays) l.objects);
}
