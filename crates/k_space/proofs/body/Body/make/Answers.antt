use Rattle.std.proofs.Common.{sym, ap, ◌∙◌, map, arith, List}
use Rattle.k_types.specs.Types.{type_row}
use Rattle.k_space.specs.Objects.{content_of}
use Rattle.k_space.specs.declared.body.Stored.{Stored}
use Rattle.k_space.proofs.Fields.{fields_more}
use Rattle.k_space.proofs.body.Body.make.Goals as goal

pub loop-i-preserved : goal.loop-i-preserved
loop-i-preserved c = record {
  made =
      ap (λ (xs : List Stored). map content_of xs) c.push_reserved.ensures.items
      ∙ fields_more c.loop-i.fields.items (type_row c.args.types.now c.args.ty) c.loop-i.i c.fresh.result _ c.loop-i.invariant.made (sym c.in-Some.ensures) c.fresh.ensures;
  room = omega (arith, c.loop-i.invariant.room, c.push_reserved.ensures.capacity);
}
