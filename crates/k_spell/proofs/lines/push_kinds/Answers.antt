use Rattle.std.proofs.Common.{◌∙◌, ℕ, ◌+◌, map, drop, sym, ap, length, length-append, arith}
use Rattle.k_types.specs.Types.{type_row}
use Rattle.k_trace.specs.Spelling.{field_word}
use Rattle.k_spell.proofs.Added.{mapped_at, word_added}
use Rattle.k_spell.proofs.lines.push_kinds.Goals as goal

pub loop-field-preserved : goal.loop-field-preserved
loop-field-preserved c =
    let row = type_row c.args.types.now c.args.ty in
    record {
      left = word_added _ _ _ (field_word c.in-Some.kind) (map field_word (drop c.loop-field.field row)) (map field_word (drop (c.loop-field.field + 1) row))
          (mapped_at field_word row c.loop-field.field c.in-Some.kind (sym c.kind_of.ensures ∙ c.in-Some.is)) (rw c.kind_word.ensures.word at c.push_word.ensures) c.loop-field.invariant.left;
      short = omega (arith, ap length c.push_word.ensures, length-append {A = ℕ}, c.kind_word.ensures.len, c.loop-field.invariant.short);
    }
