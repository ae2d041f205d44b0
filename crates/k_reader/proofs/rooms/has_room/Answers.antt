use Rattle.std.proofs.Common.{sym}
use Rattle.k_reader.proofs.Reservations.{room_found, no_room_found}
use Rattle.k_reader.proofs.rooms.has_room.Goals as goal

pub returns-in-Ok-charge : goal.returns-in-Ok-charge
returns-in-Ok-charge c =
    rw c.if-not-hard.false (sym (room_found c.args.rows.now c.args.parent.0 c.args.max c.requires.rows c.requires.parent (rw c.in-Ok.ensures.made.0 at c.in-Ok-charge.ensures.charged.1)))

pub returns-in-Ok : goal.returns-in-Ok
returns-in-Ok c =
    rw c.if-not-hard.false (sym (no_room_found c.args.rows.now c.args.parent.0 c.args.max _ c.requires.rows c.requires.parent (rw c.in-Ok.ensures.made.0 at c.in-Err.ensures.full.1)))
