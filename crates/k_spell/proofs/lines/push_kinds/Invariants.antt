use Rattle.std.proofs.Common.{◌≡◌, ◌+◌, ◌*◌, ◌++◌, length, drop, map}
use Rattle.k_types.specs.Types.{type_row}
use Rattle.k_words.specs.Spaced.{spaced}
use Rattle.k_trace.specs.Spelling.{field_word}
use Rattle.k_spell.proofs.lines.push_kinds.Given as goal

abbrev pub invariant-loop-field : goal.invariant-loop-field
invariant-loop-field l = record {
  left : l.line ++ spaced (map field_word (drop l.field (type_row l.types l.ty))) ≡ l.initial.line ++ spaced (map field_word (type_row l.types l.ty));
  short : length l.line ≡ length l.initial.line + 4 * l.field;
}
