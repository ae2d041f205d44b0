use Rattle.std.proofs.Common.{◌+◌, sym, subst, arith}
use Rattle.k_guests.specs.Making.{AreHeapsSoFar}
use Rattle.k_guests.proofs.Made.{heaps_made, one_heap_more}
use Rattle.k_guests.proofs.making.make_heaps.Goals as goal

pub loop-s-preserved : goal.loop-s-preserved
loop-s-preserved c =
    subst (λ xs. AreHeapsSoFar c.args.terms.now c.args.book.now.journal.table (c.loop-s.s + 1) xs c.take_note-note.new.notes.items) (sym c.in_ok-push.ensures.items)
    (one_heap_more c.args.terms.now c.requires.can c.args.book.now.journal.table (record { 0 = c.loop-s.s }) c.loop-s.shared.items c.loop-s.notes.items c.take_note-note.new.notes.items c.take_note-note.result
    c.in_ok-make_heap.field-0 c.loop-s.invariant c.take_note-note.ensures c.in_ok-make_heap.ensures.0 c.in_ok-make_heap.ensures.1)

pub returns : goal.returns
returns c =
    heaps_made c.args.terms.now c.requires.can c.args.book.now.journal.table c.loop-s.s c.loop-s.shared.items c.loop-s.notes.items
    (omega (arith, c.loop-s-test.false, c.loop-s.auto.s-end, c.shared_heaps-s-end.ensures, c.requires.heaps)) c.loop-s.invariant
