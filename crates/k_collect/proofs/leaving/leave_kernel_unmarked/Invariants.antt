use Rattle.std.proofs.Common.{◌≡◌, length}
use Rattle.k_commit.specs.k_book.Calls.{ChangesEntries}
use Rattle.k_collect.proofs.Left.{IsLeaving}
use Rattle.k_collect.proofs.leaving.leave_kernel_unmarked.Given as goal

abbrev pub invariant-loop-gone : goal.invariant-loop-gone
invariant-loop-gone l = record {
  rest : l.kernel ≡ record l.fn.kernel { value = l.kernel.value };
  book : ChangesEntries l.fn.book l.book;
  leaving : IsLeaving l.fn.kernel.value l.kernel.value l.fn.book.value l.book.value;
}

abbrev pub decreases-loop-gone : goal.decreases-loop-gone
decreases-loop-gone l = length l.kernel.value.exits
