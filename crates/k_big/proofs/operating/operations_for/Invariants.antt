use Rattle.std.proofs.Common.{◌≡◌, ◌∷◌}
use Rattle.std.specs.List.{flat_map}
use Rattle.k_types.specs.declared.op.Op.TheVariants.{Dir}
use Rattle.k_types.specs.Numbers.{numbers_below}
use Rattle.k_big.specs.Workload.{r, round}
use Rattle.k_big.proofs.operating.operations_for.Given as goal

abbrev pub invariant-loop-object : goal.invariant-loop-object
invariant-loop-object l = l.ops.items ≡ Dir (r 15) ∷ flat_map (round l.process) (numbers_below l.object)
