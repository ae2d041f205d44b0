use Rattle.std.proofs.Common.{List, ℕ, take, ◌++◌}
use Rattle.k_history.specs.Difference.{Compares}
use Rattle.k_history.proofs.matching.MatchSinkSink.write.Given as goal

abbrev pub invariant-loop-byte : goal.invariant-loop-byte
invariant-loop-byte l = (given xs : List ℕ) → Compares l.initial.self given xs → Compares l.self given (xs ++ take l.byte-index l.piece)
