-- The claimed owners, one by one.
use Rattle.std.proofs.Common.{◌≡◌, ◌↔◌, ℕ, true, List, [], ◌∷◌, map, refl, ap₂}
use Rattle.std.proofs.lemmas.Bool.{and_from, and_parts, false≢true}
use Rattle.k_types.specs.declared.names.Heap.{Heap}
use Rattle.k_types.specs.Names.{heap_eq}
use Rattle.k_types.specs.State.{Object}
use Rattle.k_types.proofs.NameTests.{heap_eq-same, heap_eq-true}
use Rattle.k_audit.specs.Agreeing.{owners_agree}

pub owners_law : (own : ℕ → Heap) (owners : List Heap) (objects : List Object) → (owners_agree own owners objects ≡ true) ↔ (owners ≡ map (λ o. own o.name.seg.0) objects)
owners_law own [] [] = (λ all. refl, λ same. refl)
owners_law own (h ∷ owners) [] = (λ all. absurd (false≢true all), λ same. absurd cc)
owners_law own [] (o ∷ objects) = (λ all. absurd (false≢true all), λ same. absurd cc)
owners_law own (h ∷ owners) (o ∷ objects) = (
  λ all.
      let parts = and_parts (heap_eq h (own o.name.seg.0)) (owners_agree own owners objects) all in
      ap₂ (λ (x : Heap) (xs : List Heap). x ∷ xs) (heap_eq-true h (own o.name.seg.0) parts.0) ((owners_law own owners objects).0 parts.1),
  λ same.
      and_from (heap_eq h (own o.name.seg.0)) (owners_agree own owners objects) (heap_eq-same h (own o.name.seg.0) (let e : h ≡ own o.name.seg.0 = cc in e))
      ((owners_law own owners objects).1 (let e : owners ≡ map (λ (x : Object). own x.name.seg.0) objects = cc in e)),
)
