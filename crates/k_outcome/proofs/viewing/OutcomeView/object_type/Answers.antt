use Rattle.std.proofs.Common.{◌<◌, sym, ap₂, ◌∙◌, subst, length, Option}
use Rattle.std.specs.Prelude.{IfSome}
use Rattle.k_types.specs.declared.names.Heap.{Heap}
use Rattle.k_types.specs.declared.names.TypeId.{TypeId}
use Rattle.k_cell.specs.Looks.{type_among}
use Rattle.k_process.specs.Over.{OutcomeValue}
use Rattle.k_outcome.specs.Cells.{cell_at}
use Rattle.k_outcome.proofs.Told.{type_known, type_there}
use Rattle.k_outcome.proofs.viewing.OutcomeView.object_type.Goals as goal

pub returns-clause-exact : goal.returns-clause-exact
returns-clause-exact c =
    c.type_of.ensures
    ∙ ap₂ (λ (o : OutcomeValue) (h : Heap). type_among (cell_at o h).objects c.args.name) c.cells.ensures.cells c.holder.ensures.owner
    ∙ type_there c.args.self.now c.cells.ensures.end c.args.name c.requires

pub returns-clause-known : goal.returns-clause-known
returns-clause-known c =
    subst (λ (r : Option TypeId). IfSome r (λ ty. ty.0 < length c.args.self.now.setup.types)) (sym (returns-clause-exact c))
    (type_known c.args.self.now c.cells.ensures.end c.args.name)
