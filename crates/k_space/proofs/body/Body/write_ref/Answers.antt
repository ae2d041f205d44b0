use Rattle.std.proofs.Common.{ap, ◌∙◌, slice_set, option_map, map}
use Rattle.std.proofs.lemmas.List.{map-set}
use Rattle.k_types.specs.Names.{name_of}
use Rattle.k_types.specs.State.{Content, Refers}
use Rattle.k_space.specs.Objects.{BodyValue, content_of}
use Rattle.k_space.proofs.body.Body.write_ref.Goals as goal

pub returns : goal.returns
returns c =
    ap (λ fields. record { ty = c.self.inside.ty; fields = fields }) (map-set content_of c.self.inside.fields.items c.args.field c.of_ref.result)
    ∙ ap (λ (new : Content). record { ty = c.self.inside.ty; fields = slice_set (map content_of c.self.inside.fields.items) c.args.field new }) c.of_ref.ensures
    ∙ ap (λ (b : BodyValue). record b { fields = slice_set b.fields c.args.field (Refers (option_map name_of c.args.value)) }) c.self.view_is
