use Rattle.std.proofs.Common.{◌≡◌, length, take}
use Rattle.k_types.specs.Steps.{state_after}
use Rattle.k_outcome.proofs.listing.count_made.Given as goal

abbrev pub invariant-loop-i : goal.invariant-loop-i
invariant-loop-i g l = record {
  all : l.count ≡ length l.book.journal.list;
  counted : l.made ≡ (state_after g.trace (take l.i l.book.journal.list)).made;
}
