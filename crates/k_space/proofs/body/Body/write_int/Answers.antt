use Rattle.std.proofs.Common.{ap, ◌∙◌, slice_set}
use Rattle.std.proofs.lemmas.List.{map-set}
use Rattle.k_types.specs.State.{Holds}
use Rattle.k_space.specs.Objects.{BodyValue, content_of}
use Rattle.k_space.specs.declared.body.Stored.TheVariants.{Holds as StoredInt}
use Rattle.k_space.proofs.body.Body.write_int.Goals as goal

pub returns : goal.returns
returns c =
    ap (λ fields. record { ty = c.self.inside.ty; fields = fields }) (map-set content_of c.self.inside.fields.items c.args.field (StoredInt c.args.value))
    ∙ ap (λ (b : BodyValue). record b { fields = slice_set b.fields c.args.field (Holds c.args.value) }) c.self.view_is
