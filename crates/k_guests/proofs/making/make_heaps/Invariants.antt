use Rattle.k_guests.specs.Making.{AreHeapsSoFar}
use Rattle.k_guests.proofs.making.make_heaps.Given as goal

abbrev pub invariant-loop-s : goal.invariant-loop-s
invariant-loop-s l = AreHeapsSoFar l.terms l.book.journal.table l.s l.shared.items l.notes.items
