use Rattle.std.proofs.Common.{ap₂, ◌∙◌}
use Rattle.k_types.specs.declared.names.Heap.{Heap}
use Rattle.k_cell.specs.Looks.{field_among}
use Rattle.k_process.specs.Over.{OutcomeValue}
use Rattle.k_outcome.specs.Cells.{cell_at}
use Rattle.k_outcome.proofs.Told.{field_there}
use Rattle.k_outcome.proofs.outcome.Outcome.field.Goals as goal

pub returns : goal.returns
returns c =
    c.field.ensures
    ∙ ap₂ (λ (o : OutcomeValue) (h : Heap). field_among (cell_at o h).objects c.args.name c.args.field) c.cells.ensures.cells c.holder.ensures.owner
    ∙ field_there c.args.self.now c.cells.ensures.end c.args.name c.args.field c.requires
