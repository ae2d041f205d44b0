use Rattle.std.proofs.Common.{◌≡◌, ◌<◌, ℕ, true, length}
use Rattle.k_types.specs.Names.{among}
use Rattle.k_complete.proofs.closing.all_have_ended.Given as goal

abbrev pub invariant-loop-p : goal.invariant-loop-p
invariant-loop-p g l = record {
  all : l.count ≡ length l.book.procs;
  ended : (q : ℕ) → q < l.p → among q l.book.value.ended ≡ true;
}
