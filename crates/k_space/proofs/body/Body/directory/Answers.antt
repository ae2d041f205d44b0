use Rattle.std.proofs.Common.{◌≡◌, None, List, map, replicate, ap, ◌∙◌}
use Rattle.k_types.proofs.Lists.{map_replicate}
use Rattle.k_space.specs.Objects.{content_of}
use Rattle.k_space.specs.declared.body.Stored.{Stored}
use Rattle.k_space.specs.declared.body.Stored.TheVariants.{Null as StoredNull}
use Rattle.k_space.proofs.body.Body.directory.Goals as goal

pub returns : goal.returns
returns c =
    let items : c.in_ok-fields.fields.items ≡ replicate c.args.fields StoredNull = c.in_ok-fields.ensures.items_if_clones_equal (λ y e. e) in
    ap (λ (xs : List Stored). record { ty = None; fields = map content_of xs }) items
    ∙ ap (λ xs. record { ty = None; fields = xs }) (map_replicate content_of c.args.fields StoredNull)
