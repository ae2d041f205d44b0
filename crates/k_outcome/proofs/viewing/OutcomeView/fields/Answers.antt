use Rattle.std.proofs.Common.{◌≤◌, sym, ap₂, ◌∙◌, subst}
use Rattle.k_types.specs.declared.names.Heap.{Heap}
use Rattle.k_cell.specs.Looks.{field_count_among}
use Rattle.k_process.specs.Over.{OutcomeValue}
use Rattle.k_outcome.specs.Cells.{cell_at}
use Rattle.k_outcome.proofs.Told.{count_there, few_fields}
use Rattle.k_outcome.proofs.viewing.OutcomeView.fields.Goals as goal

pub returns-clause-count : goal.returns-clause-count
returns-clause-count c =
    c.field_count.ensures
    ∙ ap₂ (λ (o : OutcomeValue) (h : Heap). field_count_among (cell_at o h).objects c.args.name) c.cells.ensures.cells c.holder.ensures.owner
    ∙ count_there c.args.self.now c.cells.ensures.end c.args.name c.requires

pub returns-clause-few : goal.returns-clause-few
returns-clause-few c = subst (λ n. n ≤ 16) (sym (returns-clause-count c)) (few_fields c.args.self.now c.cells.ensures.end c.args.name)
