use Rattle.std.proofs.Common.{◌≡◌, ◌*◌, ◌≤◌, take}
use Rattle.k_types.specs.Totals.{total}
use Rattle.k_plain.specs.Owned.{references_in}
use Rattle.k_plain.proofs.counting.references_of.Given as goal

abbrev pub invariant-loop-object : goal.invariant-loop-object
invariant-loop-object l = record {
  few : l.count ≤ 16 * l.object-index;
  counted : l.count ≡ total references_in (take l.object-index l.objects);
}
