-- Exit items, counted by what they lead to.
use Rattle.std.proofs.Common.{◌≡◌, ◌&&◌, ◌||◌, ◌+◌, ◌<◌, Bool, true, false, cond, inl, inr, List, [], ◌∷◌, arith, ap, refl, filter, map}
use Rattle.std.proofs.lemmas.Bool.{false≢true, and_parts, or_cases}
use Rattle.k_types.specs.declared.names.Heap.{Heap}
use Rattle.k_types.specs.declared.names.Name.{Name}
use Rattle.k_types.specs.Names.{heap_eq, name_eq, name_among}
use Rattle.k_types.specs.State.{ExitItem, has_exit}
use Rattle.k_types.specs.Totals.{total}

-- an exit item is counted
pub exit_counted : (exits : List ExitItem) (h : Heap) (n : Name) → has_exit exits h n ≡ true → 0 < total (λ (e : ExitItem). cond (name_eq e.target n) 1 0) exits
exit_counted [] h n t = absurd (false≢true t)
exit_counted (e ∷ exits) h n t = go (exit_counted exits h n) (name_eq e.target n) t
  where
    go : (has_exit exits h n ≡ true → 0 < total (λ (e : ExitItem). cond (name_eq e.target n) 1 0) exits) → (b : Bool) → ((heap_eq e.heap h && b) || has_exit exits h n) ≡ true → 0 < cond b 1 0 + total (λ (e : ExitItem). cond (name_eq e.target n) 1 0) exits
    go rest true u = omega arith
    go rest false u = elim (or_cases (heap_eq e.heap h && false) (has_exit exits h n) u) [
      | inl here ↦ absurd (false≢true (and_parts (heap_eq e.heap h) false here).1)
      | inr there ↦ let least = rest there in omega (arith, least)
    ]

pub targets_among : (exits : List ExitItem) (h : Heap) (n : Name) → name_among n (map (λ e. e.target) (filter (λ e. heap_eq e.heap h) exits)) ≡ has_exit exits h n
targets_among [] h n = refl
targets_among (e ∷ exits) h n =
    elim (heap_eq e.heap h) as (λ b. name_among n (map (λ x. x.target) (cond b (e ∷ filter (λ x. heap_eq x.heap h) exits) (filter (λ x. heap_eq x.heap h) exits))) ≡ ((b && name_eq e.target n) || has_exit exits h n)) [
      | true ↦ ap (λ (b : Bool). name_eq e.target n || b) (targets_among exits h n)
      | false ↦ targets_among exits h n
    ]
