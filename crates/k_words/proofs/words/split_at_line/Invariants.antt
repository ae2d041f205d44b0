use Rattle.std.proofs.Common.{length}
use Rattle.k_words.proofs.Cuts.{AreCut}
use Rattle.k_words.proofs.words.split_at_line.Given as goal

abbrev pub invariant-loop-rest : goal.invariant-loop-rest
invariant-loop-rest l = AreCut l.wanted l.bytes l.rest

abbrev pub decreases-loop-rest : goal.decreases-loop-rest
decreases-loop-rest l = length l.rest
