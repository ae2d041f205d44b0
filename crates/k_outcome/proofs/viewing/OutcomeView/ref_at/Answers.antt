use Rattle.std.proofs.Common.{sym, ap}
use Rattle.k_types.specs.Replies.{reference}
use Rattle.k_text.proofs.Known.{field_known}
use Rattle.k_outcome.specs.Ends.{last_state}
use Rattle.k_outcome.proofs.Told.{sound}
use Rattle.k_outcome.proofs.viewing.OutcomeView.ref_at.Goals as goal

pub returns-in-Refers-clause-known : goal.returns-in-Refers-clause-known
returns-in-Refers-clause-known c =
    let e = c.args.self.now in
    field_known e.setup (last_state e) (sound e c.cells-cells.ensures.end) c.args.name c.args.field c.in-Refers.target.name (ap reference (sym c.in-Refers.ensures))
