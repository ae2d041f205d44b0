-- The bytes of a heap after a write.
use Rattle.std.proofs.Common.{◌≡◌, ℕ, ◌+◌, true, false, cond, refl, ap₂, List, [], ◌∷◌, map, filter, arith, length-set}
use Rattle.k_types.specs.Totals.{total}
use Rattle.k_types.specs.declared.names.Name.{Name}
use Rattle.k_types.specs.declared.names.Heap.{Heap}
use Rattle.k_types.specs.Names.{heap_eq}
use Rattle.k_types.specs.State.{Object, Content}
use Rattle.k_types.specs.Owners.{bytes_by, object_bytes}
use Rattle.k_types.specs.Updates.{object_after_write}
use Rattle.k_types.proofs.Objects.{written_name}

-- an object keeps its bytes
pub object_bytes-written : (x : Name) (i : ℕ) (c : Content) (o : Object) → object_bytes (object_after_write x i c o) ≡ object_bytes o
object_bytes-written x i c o = grind (arith, length-set o.fields i c)

bytes-written_step : (own : ℕ → Heap) (h : Heap) (x : Name) (i : ℕ) (c : Content) (o : Object) (xs : List Object) →
    total object_bytes (filter (λ o. heap_eq (own o.name.seg.0) h) (map (object_after_write x i c) xs)) ≡ total object_bytes (filter (λ o. heap_eq (own o.name.seg.0) h) xs) →
    total object_bytes (filter (λ o. heap_eq (own o.name.seg.0) h) (map (object_after_write x i c) (o ∷ xs))) ≡ total object_bytes (filter (λ o. heap_eq (own o.name.seg.0) h) (o ∷ xs))
bytes-written_step own h x i c o xs ih = rw (written_name x i c o)
    (elim (heap_eq (own o.name.seg.0) h) as (λ b. total object_bytes (cond b (object_after_write x i c o ∷ filter (λ o. heap_eq (own o.name.seg.0) h) (map (object_after_write x i c) xs)) (filter (λ o. heap_eq (own o.name.seg.0) h) (map (object_after_write x i c) xs)))
    ≡ total object_bytes (cond b (o ∷ filter (λ o. heap_eq (own o.name.seg.0) h) xs) (filter (λ o. heap_eq (own o.name.seg.0) h) xs))) [
      | true ↦ ap₂ (λ a b. a + b) (object_bytes-written x i c o) ih
      | false ↦ ih
    ])

pub bytes-written : (own : ℕ → Heap) (h : Heap) (x : Name) (i : ℕ) (c : Content) (xs : List Object) → bytes_by own h (map (object_after_write x i c) xs) ≡ bytes_by own h xs
unfolding bytes_by
bytes-written own h x i c [] = refl
bytes-written own h x i c (o ∷ xs) = bytes-written_step own h x i c o xs (bytes-written own h x i c xs)
