use Rattle.std.proofs.Common.{◌≡◌, Some, [], ◌∷◌, ◌++◌, map, ap, ap₂, sym, ◌∙◌, slice_get, arith}
use Rattle.std.proofs.lemmas.List.{map-append, take_all}
use Rattle.k_types.specs.State.{fresh}
use Rattle.k_types.specs.Types.{type_row}
use Rattle.k_state.specs.Contents.{content}
use Rattle.k_state.proofs.Fields.{fields_end, fields_next}
use Rattle.k_state.proofs.creation.fresh_fields.Goals as goal

pub loop-i-preserved : goal.loop-i-preserved
loop-i-preserved c =
    let row = type_row c.args.types.now c.args.ty in
    let there : slice_get row c.loop-i.i ≡ Some c.in-Some.kind = sym c.kind_of.ensures ∙ c.in-Some.is in
    ap (map content) c.in_ok-push.ensures.items
    ∙ map-append content c.loop-i.fields.items (c.fresh.result ∷ [])
    ∙ ap₂ (λ xs y. xs ++ y ∷ []) c.loop-i.invariant c.fresh.ensures
    ∙ sym (fields_next fresh row c.loop-i.i c.in-Some.kind there)

pub returns-in_default : goal.returns-in_default
returns-in_default c =
    let row = type_row c.args.types.now c.args.ty in
    c.loop-i.invariant ∙ fields_end fresh row c.loop-i.i (sym c.kind_of.ensures ∙ c.in_default.is)

pub returns : goal.returns
returns c =
    let row = type_row c.args.types.now c.args.ty in
    c.loop-i.invariant ∙ ap (map fresh) (take_all c.loop-i.i row (let few = c.requires.few c.args.ty in omega (arith, few, c.loop-i-test.false)))
