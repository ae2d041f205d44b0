use Rattle.std.proofs.Common.{◌≡◌, map}
use Rattle.std.specs.List.{flat_map}
use Rattle.k_types.specs.Numbers.{numbers_below}
use Rattle.k_big.specs.Workload.{operations_for, turns}
use Rattle.k_big.proofs.operating.all_operations.Given as goal

abbrev pub invariant-loop-process : goal.invariant-loop-process
invariant-loop-process l = record {
  operations : map (λ ops. ops.items) l.lists.items ≡ map (operations_for l.objects) (numbers_below l.process);
  order : map (λ pid. pid.0) l.order.items ≡ flat_map (turns l.objects) (numbers_below l.process);
}
