use Rattle.std.proofs.Common.{◌<◌, sym, ap, ◌∙◌, subst, length, Option}
use Rattle.std.specs.Prelude.{IfSome}
use Rattle.k_types.specs.declared.names.Heap.TheVariants.{User}
use Rattle.k_types.specs.declared.names.Name.{Name}
use Rattle.k_types.specs.Known.{IsKnownName}
use Rattle.k_laws.specs.PartUpdates.{held_in}
use Rattle.k_laws.proofs.Held.{held_known}
use Rattle.k_process.specs.Over.{OutcomeValue}
use Rattle.k_outcome.specs.Cells.{cell_at}
use Rattle.k_outcome.specs.Ends.{last_state}
use Rattle.k_outcome.proofs.Told.{register_told, sound}
use Rattle.k_outcome.proofs.viewing.OutcomeView.reg.Goals as goal

pub reg-requires-clause-there : goal.reg-requires-clause-there
reg-requires-clause-there c =
    subst (λ (o : OutcomeValue). c.args.pid.0 < length o.processes) (sym c.cells.ensures.cells) (c.cells.ensures.end.there (User c.args.pid) c.requires.process)

pub returns-clause-held : goal.returns-clause-held
returns-clause-held c =
    c.reg.ensures
    ∙ ap (λ (o : OutcomeValue). held_in (cell_at o (User c.args.pid)).process c.args.r.0) c.cells.ensures.cells
    ∙ register_told c.args.self.now c.cells.ensures.end c.args.pid c.args.r.0 c.requires.process

pub returns-clause-known : goal.returns-clause-known
returns-clause-known c =
    let e = c.args.self.now in
    subst (λ (r : Option Name). IfSome r (IsKnownName e.setup)) (sym (returns-clause-held c))
    (held_known e.setup (last_state e) c.args.pid.0 c.args.r.0 (sound e c.cells.ensures.end))
