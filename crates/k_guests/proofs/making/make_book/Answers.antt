use Rattle.k_limits.proofs.Fits.{none_refused}
use Rattle.k_process.proofs.Lists.{nothing_is_something}
use Rattle.k_guests.proofs.Made.{book_made}
use Rattle.k_guests.proofs.making.make_book.Goals as goal

pub unreachable-requires : goal.unreachable-requires
unreachable-requires c =
    nothing_is_something _ _ ((none_refused c.args.terms.now.setup.limits.items c.requires.can.rules.limits.tree).1 c.requires.can.rules.limits.fits)
    (rw c.in-Err-ReserveFull.field-0-is at c.in-Err-ReserveFull.ensures.refused)

pub returns-in-Ok : goal.returns-in-Ok
returns-in-Ok c = book_made c.args.terms.now c.requires.can c.in-Ok.book c.args.seat c.args.tie c.requires.empty c.in-Ok.ensures.made.0
