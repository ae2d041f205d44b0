use Rattle.std.proofs.Common.{◌≡◌}
use Rattle.k_commit.specs.k_cell.Changes.{HasGrayed}
use Rattle.k_collect.proofs.Grayed.{held_by_first}
use Rattle.k_collect.proofs.graying.gray_held.Given as goal

abbrev pub invariant-loop-r : goal.invariant-loop-r
invariant-loop-r l = record {
  rest : l.cell ≡ record l.fn.cell { value = l.cell.value };
  gray : HasGrayed (held_by_first l.r l.fn.cell.value) l.fn.cell.value l.cell.value;
}
