use Rattle.std.proofs.Common.{◌≡◌, [], ◌++◌, drop}
use Rattle.k_words.specs.Words.{text_of}
use Rattle.k_trace.specs.Spelling.{declarations, type_words}
use Rattle.k_spell.proofs.declared.add_types.Given as goal

abbrev pub invariant-loop-number : goal.invariant-loop-number
invariant-loop-number l = record {
  empty : l.line ≡ [];
  left : l.text.items ++ text_of (declarations type_words (drop l.number l.names.types) (drop l.number l.types)) ≡ l.initial.text.items ++ text_of (declarations type_words l.names.types l.types);
}
