use Rattle.k_laws.specs.BookChanges.{registers_in}
use Rattle.k_commit.specs.k_heap.Heaps.{own_segment}
use Rattle.k_own.proofs.Unpinned.{IsUnpinning}
use Rattle.k_own.proofs.unpinning.unpin_registers.Given as goal

abbrev pub invariant-loop-r : goal.invariant-loop-r
invariant-loop-r l = IsUnpinning (own_segment l.cell.pid) (registers_in l.cell.value.process) l.r l.fn.book l.book
