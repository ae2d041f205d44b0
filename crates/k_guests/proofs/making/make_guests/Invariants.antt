use Rattle.k_guests.specs.Making.{AreGuestsSoFar}
use Rattle.k_guests.proofs.making.make_guests.Given as goal

abbrev pub invariant-loop-p : goal.invariant-loop-p
invariant-loop-p l = AreGuestsSoFar l.terms l.book.journal.table l.p l.guests.items l.notes.items
