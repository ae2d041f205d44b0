use Rattle.std.proofs.Common.{◌≡◌, length}
use Rattle.k_commit.specs.k_book.Calls.{ChangesEntries}
use Rattle.k_collect.proofs.Left.{IsLeaving}
use Rattle.k_collect.proofs.leaving.leave_unmarked.Given as goal

abbrev pub invariant-loop-target : goal.invariant-loop-target
invariant-loop-target l = record {
  rest : l.cell ≡ record l.fn.cell { value = l.cell.value };
  book : ChangesEntries l.fn.book l.book;
  leaving : IsLeaving l.fn.cell.value l.cell.value l.fn.book.value l.book.value;
}

abbrev pub decreases-loop-target : goal.decreases-loop-target
decreases-loop-target l = length l.cell.value.exits
