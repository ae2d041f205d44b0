use Rattle.k_mark.proofs.Lower.{AreLower}
use Rattle.k_mark.proofs.keeping.are_lower.Given as goal

abbrev pub invariant-loop-field : goal.invariant-loop-field
invariant-loop-field l = AreLower l.fn.held l.field l.fn.next
