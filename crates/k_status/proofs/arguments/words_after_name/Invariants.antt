use Rattle.std.proofs.Common.{◌≡◌, map, string_bytes, ◌++◌}
use Rattle.std.specs.Vec.Iter.{into_iter_items, into_iter_len}
use Rattle.k_status.proofs.arguments.words_after_name.Given as goal

abbrev pub invariant-loop-word : goal.invariant-loop-word
invariant-loop-word l = map string_bytes (l.words.items ++ into_iter_items l.args) ≡ map string_bytes (into_iter_items l.initial.args)

abbrev pub decreases-loop-word : goal.decreases-loop-word
decreases-loop-word l = into_iter_len l.args
