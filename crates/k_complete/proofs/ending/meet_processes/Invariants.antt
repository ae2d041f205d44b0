use Rattle.std.proofs.Common.{◌≡◌, ◌<◌, ℕ, Some, slice_get}
use Rattle.k_operate.specs.k_process.declared.process.Process.{Process}
use Rattle.k_complete.specs.Meetings.{AreSameButNotes, ProcessesAndBook}
use Rattle.k_complete.proofs.ending.meet_processes.Given as goal

abbrev pub ghost-meet_heap : goal.ghost-meet_heap
ghost-meet_heap g a = g.world'.trace

abbrev pub invariant-loop-process : goal.invariant-loop-process
invariant-loop-process g l = record {
  stand : ProcessesAndBook g.world' l.process-items l.book;
  same : AreSameButNotes l.fn.processes.items l.process-items;
  met : (k : ℕ) (p : Process) → k < l.process-index → slice_get l.process-items k ≡ Some p → p.cell.note.list ≡ l.book.journal.list;
  book_is : l.book ≡ l.fn.book;
}
