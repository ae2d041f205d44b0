use Rattle.std.proofs.Common.{arith}
use Rattle.k_still.proofs.Preparation.{can_open_with}
use Rattle.k_still.proofs.first.first_cells.Goals as goal

pub open_with-requires : goal.open_with-requires
open_with-requires c =
    can_open_with c.args.trace c.in_ok-prepared.prepared c.in_ok-journal.journal.0 c.in_ok-journal.journal.1 c.in_ok-journal.journal.2.items c.len.result c.requires c.in_ok-prepared.ensures c.in_ok-journal.ensures.journal
    c.in_ok-journal.ensures.notes (omega (arith, c.len.ensures))

pub returns : goal.returns
returns c = c.open_with.ensures
