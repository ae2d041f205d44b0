use Rattle.std.proofs.Common.{ap, ◌∙◌}
use Rattle.k_types.specs.Owners.{object_bytes}
use Rattle.k_types.specs.Totals.{total}
use Rattle.k_process.specs.Over.{OutcomeValue}
use Rattle.k_outcome.specs.Cells.{cell_at}
use Rattle.k_outcome.proofs.Told.{bytes_told}
use Rattle.k_outcome.proofs.viewing.OutcomeView.bytes.Goals as goal

pub returns : goal.returns
returns c =
    c.bytes.ensures
    ∙ ap (λ (o : OutcomeValue). total object_bytes (cell_at o c.args.heap).objects) c.cells.ensures.cells
    ∙ bytes_told c.args.self.now c.cells.ensures.end c.args.heap c.requires
