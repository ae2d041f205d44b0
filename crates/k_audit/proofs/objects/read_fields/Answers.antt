use Rattle.std.proofs.Common.{◌≡◌, ◌∙◌, ◌+◌, ◌<◌, ◌≤◌, ◌==◌, [], ◌∷◌, None, true, false, ap, ap₂, sym, map, get_or, length, length-append, eq-eqb, ne_eqb, arith}
use Rattle.std.specs.Prelude.{option_map}
use Rattle.std.proofs.lemmas.List.{map-append}
use Rattle.k_types.specs.declared.names.Field.TheVariants.{Ref}
use Rattle.k_types.specs.Sound.{kinds_by}
use Rattle.k_types.specs.Trace.{trace_of}
use Rattle.k_words.specs.Words.{word_at, words_of}
use Rattle.k_state.specs.Contents.{content}
use Rattle.k_audit.specs.Reading.{content_of, contents_at}
use Rattle.k_audit.proofs.Fields.{field_none, field_some, fields_all, fields_other}
use Rattle.k_audit.proofs.objects.read_fields.Goals as goal

pub returns-in_default-clause-read : goal.returns-in_default-clause-read
returns-in_default-clause-read c =
    let names = c.args.names.now in
    let kinds = kinds_by (trace_of c.args.setup.now [] []) c.args.ty in
    let ws = words_of c.args.line.now in
    let i = c.loop-i.i in
    let inside : i < length kinds = omega (arith, c.loop-i-test.true, c.field_count-count.ensures.count) in
    let none : content_of names (get_or kinds i Ref) (word_at ws (3 + i)) ≡ None
    = ap₂ (content_of names) (sym c.kind_at.ensures) (sym c.word.ensures) ∙ sym c.read_content.ensures ∙ ap (option_map content) c.in_default.is in
    sym (field_none names kinds ws (contents_at names kinds ws 3) (map content c.loop-i.fields.items) i c.loop-i.invariant.read inside none)

pub loop-i-preserved : goal.loop-i-preserved
loop-i-preserved c =
    let names = c.args.names.now in
    let kinds = kinds_by (trace_of c.args.setup.now [] []) c.args.ty in
    let ws = words_of c.args.line.now in
    let i = c.loop-i.i in
    let inside : i < length kinds = omega (arith, c.loop-i-test.true, c.field_count-count.ensures.count) in
    let some = ap₂ (content_of names) (sym c.kind_at.ensures) (sym c.word.ensures) ∙ sym c.read_content.ensures ∙ ap (option_map content) c.in-Some.is in
    record {
      read = rw (c.in_ok-push.ensures.stored, map-append content c.loop-i.fields.items (c.in-Some.value ∷ []))
          (field_some names kinds ws (contents_at names kinds ws 3) (map content c.loop-i.fields.items) i (content c.in-Some.value) c.loop-i.invariant.read inside some);
      long = rw (c.in_ok-push.ensures.stored) (let l = length-append c.loop-i.fields.items (c.in-Some.value ∷ []) in omega (arith, l, c.loop-i.invariant.long));
    }

pub returns-then-word_count-count-clause-read : goal.returns-then-word_count-count-clause-read
returns-then-word_count-count-clause-read c =
    let names = c.args.names.now in
    let kinds = kinds_by (trace_of c.args.setup.now [] []) c.args.ty in
    let ws = words_of c.args.line.now in
    let i = c.loop-i.i in
    let past : length kinds ≤ i = omega (arith, c.loop-i-test.false, c.field_count-count.ensures.count) in
    let last : (length ws == 3 + i) ≡ true = eq-eqb (length ws) (3 + i) (omega (arith, c.word_count.ensures, c.if-word_count-count.true, c.loop-i-test.false, c.loop-i.auto.i-end)) in
    sym (fields_all names kinds ws (contents_at names kinds ws 3) (map content c.loop-i.fields.items) i c.loop-i.invariant.read past last)

pub returns-else-word_count-count-clause-read : goal.returns-else-word_count-count-clause-read
returns-else-word_count-count-clause-read c =
    let names = c.args.names.now in
    let kinds = kinds_by (trace_of c.args.setup.now [] []) c.args.ty in
    let ws = words_of c.args.line.now in
    let i = c.loop-i.i in
    let past : length kinds ≤ i = omega (arith, c.loop-i-test.false, c.field_count-count.ensures.count) in
    let last : (length ws == 3 + i) ≡ false = ne_eqb (length ws) (3 + i) (λ e. absurd (omega (arith, e, c.word_count.ensures, c.if-word_count-count.false, c.loop-i-test.false, c.loop-i.auto.i-end))) in
    sym (fields_other names kinds ws (contents_at names kinds ws 3) (map content c.loop-i.fields.items) i c.loop-i.invariant.read past last)
