use Rattle.std.proofs.Common.{◌≡◌, [], ◌++◌, drop, map}
use Rattle.k_words.specs.Words.{text_of}
use Rattle.k_trace.specs.Spelling.{shared_words}
use Rattle.k_spell.proofs.declared.add_shared.Given as goal

abbrev pub invariant-loop-number : goal.invariant-loop-number
invariant-loop-number l = record {
  empty : l.line ≡ [];
  left : l.text.items ++ text_of (map shared_words (drop l.number l.names.shared)) ≡ l.initial.text.items ++ text_of (map shared_words l.names.shared);
}
