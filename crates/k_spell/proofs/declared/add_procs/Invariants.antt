use Rattle.std.proofs.Common.{◌≡◌, [], ◌++◌, drop}
use Rattle.k_words.specs.Words.{text_of}
use Rattle.k_trace.specs.Spelling.{declarations, proc_words}
use Rattle.k_spell.proofs.declared.add_procs.Given as goal

abbrev pub invariant-loop-number : goal.invariant-loop-number
invariant-loop-number l = record {
  empty : l.line ≡ [];
  left : l.text.items ++ text_of (declarations (proc_words l.names) (drop l.number l.names.procs) (drop l.number l.procs)) ≡ l.initial.text.items ++ text_of (declarations (proc_words l.names) l.names.procs l.procs);
}
