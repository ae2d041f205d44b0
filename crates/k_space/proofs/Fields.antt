-- The fields of a new body.
use Rattle.std.proofs.Common.{◌≡◌, ℕ, zero, suc, ◌+◌, sym, ap, ap₂, ◌∙◌, List, [], ◌∷◌, ◌++◌, map, take, slice_get, Option, Some, add-one}
use Rattle.std.proofs.lemmas.List.{map-append}
use Rattle.k_types.specs.declared.names.Field.{Field}
use Rattle.k_types.specs.State.{fresh}
use Rattle.k_space.specs.declared.body.Stored.{Stored}
use Rattle.k_space.specs.Objects.{content_of}

take_next : (kinds : List Field) (i : ℕ) (kind : Field) → slice_get kinds i ≡ Some kind → take (suc i) kinds ≡ take i kinds ++ kind ∷ []
take_next [] i kind e = absurd (cc)
take_next (x ∷ xs) zero kind e = ap (λ y. y ∷ []) (same_field e)
  where
    same_field : {x y : Field} → ◌≡◌ {A = Option Field} (Some x) (Some y) → x ≡ y
    same_field e = cc
take_next (x ∷ xs) (suc i) kind e = ap (λ ys. x ∷ ys) (take_next xs i kind e)

pub fields_more : (items : List Stored) (kinds : List Field) (i : ℕ) (new : Stored) (kind : Field) → map content_of items ≡ map fresh (take i kinds) → slice_get kinds i ≡ Some kind → content_of new ≡ fresh kind →
    map content_of (items ++ new ∷ []) ≡ map fresh (take (i + 1) kinds)
fields_more items kinds i new kind made at same =
    map-append content_of items (new ∷ [])
    ∙ ap₂ (λ front x. front ++ x ∷ []) made same
    ∙ sym (map-append fresh (take i kinds) (kind ∷ []))
    ∙ ap (map fresh) (sym (ap (λ k. take k kinds) (add-one i) ∙ take_next kinds i kind at))
