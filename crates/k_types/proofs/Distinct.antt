-- What has a name of its own, each counted once at most, has distinct names.
use Rattle.std.proofs.Common.{◌≡◌, ℕ, ◌+◌, ◌≤◌, ◌||◌, true, false, refl, sym, ap, ◌∙◌, List, [], ◌∷◌, map, count_by, arith}
use Rattle.std.proofs.lemmas.Bool.{false≢true}
use Rattle.std.proofs.lemmas.List.Sums.{sum_by-cons}
use Rattle.k_types.specs.declared.names.Name.{Name}
use Rattle.k_types.specs.Names.{name_eq, name_among}
use Rattle.k_types.specs.Distinct.{AreDistinctNames}
use Rattle.k_types.proofs.NameTests.{name_eq-true, name_eq_refl}
use Rattle.k_types.proofs.Sums.{bit}

module _ {A : Type 0} (key : A → Name) where
  -- how many have that name
  abbrev times : Name → List A → ℕ
  times t xs = count_by (λ x. name_eq (key x) t) xs

  times-cons : (t : Name) (x : A) (xs : List A) → times t (x ∷ xs) ≡ bit (name_eq (key x) t) + times t xs
  times-cons t x xs = sum_by-cons (λ y. bit (name_eq (key y) t)) x xs

  pub none_among : (t : Name) (xs : List A) → times t xs ≡ 0 → name_among t (map key xs) ≡ false
  none_among t [] none = refl
  none_among t (x ∷ xs) none =
      elim (name_eq (key x) t) as (λ b. name_eq (key x) t ≡ b → (b || name_among t (map key xs)) ≡ false) [
        | true ↦ λ is. absurd (let one : bit (name_eq (key x) t) ≡ 1 = ap bit is in omega (arith, times-cons t x xs, one, none))
        | false ↦ λ is. none_among t xs (omega (arith, times-cons t x xs, none))
      ] refl

  pub not_among : (t : Name) (xs : List A) → name_among t (map key xs) ≡ false → times t xs ≡ 0
  not_among t [] none = refl
  not_among t (x ∷ xs) none =
      elim (name_eq (key x) t) as (λ b. name_eq (key x) t ≡ b → (b || name_among t (map key xs)) ≡ false → times t (x ∷ xs) ≡ 0) [
        | true ↦ λ is off. absurd (false≢true (sym off))
        | false ↦ λ is off. let zero_here : bit (name_eq (key x) t) ≡ 0 = ap bit is in omega (arith, times-cons t x xs, zero_here, not_among t xs off)
      ] refl none

  pub distinct_names : (xs : List A) → ((t : Name) → times t xs ≤ 1) → AreDistinctNames (map key xs)
  distinct_names [] once = tt
  distinct_names (x ∷ xs) once = (
    none_among (key x) xs (let one : bit (name_eq (key x) (key x)) ≡ 1 = ap bit (name_eq_refl (key x)) in omega (arith, times-cons (key x) x xs, one, once (key x))),
    distinct_names xs (λ t. omega (arith, times-cons t x xs, once t)),
  )

  pub counted_once : (xs : List A) → AreDistinctNames (map key xs) → (t : Name) → times t xs ≤ 1
  counted_once [] distinct t = omega arith
  counted_once (x ∷ xs) distinct t =
      elim (name_eq (key x) t) as (λ b. name_eq (key x) t ≡ b → times t (x ∷ xs) ≤ 1) [
        | true ↦ λ is.
            let one : bit (name_eq (key x) t) ≡ 1 = ap bit is in
            let none = not_among t xs (ap (λ n. name_among n (map key xs)) (sym (name_eq-true (key x) t is)) ∙ distinct.0) in
            omega (arith, times-cons t x xs, one, none)
        | false ↦ λ is. let zero_here : bit (name_eq (key x) t) ≡ 0 = ap bit is in omega (arith, times-cons t x xs, zero_here, counted_once xs distinct.1 t)
      ] refl
