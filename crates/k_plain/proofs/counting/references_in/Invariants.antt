use Rattle.std.proofs.Common.{◌≡◌, ◌≤◌, take}
use Rattle.std.specs.Prelude.{count_by}
use Rattle.k_plain.specs.Owned.{is_reference}
use Rattle.k_plain.proofs.counting.references_in.Given as goal

abbrev pub invariant-loop-i : goal.invariant-loop-i
invariant-loop-i l = record {
  few : l.count ≤ l.i;
  counted : l.count ≡ count_by is_reference (take l.i l.object.fields);
}
