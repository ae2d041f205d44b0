use Rattle.std.proofs.Common.{◌≡◌, ◌*◌, ◌≤◌, take}
use Rattle.k_types.specs.Owners.{object_bytes}
use Rattle.k_types.specs.Totals.{total}
use Rattle.k_state.proofs.keeping.bytes_of.Given as goal

abbrev pub invariant-loop-object : goal.invariant-loop-object
invariant-loop-object l = record {
  small : l.sum ≤ 144 * l.object-index;
  sum : l.sum ≡ total object_bytes (take l.object-index l.objects);
}
