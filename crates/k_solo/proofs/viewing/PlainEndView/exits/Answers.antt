use Rattle.std.proofs.Common.{ap, length, arith, List}
use Rattle.k_types.specs.declared.names.Name.{Name}
use Rattle.k_solo.specs.Runs.{Run}
use Rattle.k_text.proofs.Arranged.{exits_length}
use Rattle.k_solo.proofs.viewing.PlainEndView.exits.Goals as goal

pub overflow_cast-result : goal.overflow_cast-result
overflow_cast-result c =
    omega (
      arith,
      ap (λ (ns : List Name). length ns) c.targets_of.ensures,
      exits_length c.args.self.now.machine.state.exits c.args.heap,
      ap (λ (r : Run). length r.machine.state.exits) c.self.view_is,
      c.setup-shape.ensures.shape.few_exits,
    )
