use Rattle.std.proofs.Common.{◌≡◌, ◌<◌, ℕ, Some, slice_get}
use Rattle.k_shared.specs.SharedHeaps.{SharedRecord}
use Rattle.k_complete.specs.Meetings.{HeapsAndBook}
use Rattle.k_complete.proofs.ending.meet_heaps.Given as goal

abbrev pub ghost-meet_shared : goal.ghost-meet_shared
ghost-meet_shared g a = g.world'.trace

abbrev pub invariant-loop-heap : goal.invariant-loop-heap
invariant-loop-heap g l = record {
  stand : HeapsAndBook g.world' l.heap-items l.book;
  met : (k : ℕ) (s : SharedRecord) → k < l.heap-index → slice_get l.heap-items k ≡ Some s → s.note.list ≡ l.book.journal.list;
  book_is : l.book ≡ l.fn.book;
}
