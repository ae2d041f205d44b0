use Rattle.std.proofs.Common.{◌+◌, sym, subst, arith}
use Rattle.k_guests.specs.Making.{AreGuestsSoFar}
use Rattle.k_guests.proofs.Made.{guests_made, one_guest_more}
use Rattle.k_guests.proofs.making.make_guests.Goals as goal

pub loop-p-preserved : goal.loop-p-preserved
loop-p-preserved c =
    subst (λ xs. AreGuestsSoFar c.args.terms.now c.args.book.now.journal.table (c.loop-p.p + 1) xs c.take_note-note.new.notes.items) (sym c.in_ok-push.ensures.items)
    (one_guest_more c.args.terms.now c.requires.can c.args.book.now.journal.table (record { 0 = c.loop-p.p }) c.loop-p.guests.items c.loop-p.notes.items c.take_note-note.new.notes.items c.take_note-note.result
    c.in_ok-make_guest.field-0 c.loop-p.invariant c.take_note-note.ensures c.in_ok-make_guest.ensures.0 c.in_ok-make_guest.ensures.1 c.in_ok-make_guest.ensures.2)

pub returns : goal.returns
returns c =
    guests_made c.args.terms.now c.requires.can c.args.book.now.journal.table c.loop-p.p c.loop-p.guests.items c.loop-p.notes.items
    (omega (arith, c.loop-p-test.false, c.loop-p.auto.p-end, c.procs-p-end.ensures, c.requires.procs)) c.loop-p.invariant
