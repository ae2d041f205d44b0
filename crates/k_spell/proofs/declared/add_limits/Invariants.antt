use Rattle.std.proofs.Common.{◌≡◌, [], ◌++◌, drop}
use Rattle.k_words.specs.Words.{text_of}
use Rattle.k_trace.specs.Spelling.{declarations, limit_words}
use Rattle.k_spell.proofs.declared.add_limits.Given as goal

abbrev pub invariant-loop-number : goal.invariant-loop-number
invariant-loop-number l = record {
  empty : l.line ≡ [];
  left : l.text.items ++ text_of (declarations (limit_words l.names) (drop l.number l.names.limits) (drop l.number l.rows)) ≡ l.initial.text.items ++ text_of (declarations (limit_words l.names) l.names.limits l.rows);
}
