use Rattle.std.proofs.Common.{◌≡◌, [], ◌++◌, take}
use Rattle.std.specs.List.{flat_map}
use Rattle.k_words.specs.Words.{text_of}
use Rattle.k_print.specs.Done.{line_done}
use Rattle.k_print.proofs.tracing.add_lines.Given as goal

abbrev pub invariant-loop-i : goal.invariant-loop-i
invariant-loop-i l = record {
  empty : l.line ≡ [];
  added : l.text.items ≡ l.fn.text.items ++ text_of (flat_map (line_done l.names) (take l.i l.end.events));
}
