use Rattle.std.proofs.Common.{map, codes}
use Rattle.k_types.specs.Types.{type_row}
use Rattle.k_trace.specs.Spelling.{field_word}
use Rattle.k_spell.proofs.Added.{line_behind_two}
use Rattle.k_spell.proofs.lines.push_type.Goals as goal

pub returns-clause-text : goal.returns-clause-text
returns-clause-text c =
    line_behind_two (codes "type") _ _ _ _ (map field_word (type_row c.args.types.now c.args.ty)) (rw c.requires.empty at c.push_text.ensures) (rw c.type_name.ensures.name at c.push_word.ensures) c.push_kinds.ensures.text
