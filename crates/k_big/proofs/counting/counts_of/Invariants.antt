use Rattle.std.proofs.Common.{◌≡◌, ◌≤◌, ◌*◌, take}
use Rattle.k_types.specs.Totals.{total}
use Rattle.k_big.specs.Counts.{faults_in, freed_in, operations_in}
use Rattle.k_big.proofs.counting.counts_of.Given as goal

abbrev pub invariant-loop-i : goal.invariant-loop-i
invariant-loop-i g l = record {
  operations_are : l.operations ≡ total operations_in (take l.i (g.V.View.events l.view));
  faults_are : l.faults ≡ total faults_in (take l.i (g.V.View.events l.view));
  freed_are : l.freed ≡ total freed_in (take l.i (g.V.View.events l.view));
  few_operations : l.operations ≤ l.i;
  few_faults : l.faults ≤ l.i;
  few_freed : l.freed ≤ l.i * 4294967295;
}
