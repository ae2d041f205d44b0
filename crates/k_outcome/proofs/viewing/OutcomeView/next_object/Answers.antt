use Rattle.k_outcome.specs.Ends.{last_state}
use Rattle.k_text.proofs.Known.{next_known}
use Rattle.k_outcome.proofs.Told.{sound}
use Rattle.k_outcome.proofs.viewing.OutcomeView.next_object.Goals as goal

pub returns-clause-ordered : goal.returns-clause-ordered
returns-clause-ordered c = (sound c.args.self.now c.cells-cells.ensures.end).names.ordered

pub returns-clause-known : goal.returns-clause-known
returns-clause-known c =
    let e = c.args.self.now in
    next_known e.setup (last_state e) (sound e c.cells-cells.ensures.end) c.args.after c.next_after.result c.next_after.ensures
