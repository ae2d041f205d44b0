use Rattle.k_guests.proofs.Made.{guest_made}
use Rattle.k_guests.proofs.making.make_guest.Goals as goal

pub returns : goal.returns
returns c =
    guest_made c.args.terms.now c.requires.can c.args.pid c.args.note c.in_ok-bodies.bodies.items c.in_ok-cell.cell c.requires c.in_ok-bodies.ensures c.in_ok-cell.ensures
