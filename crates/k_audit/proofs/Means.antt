-- What a test of all elements says, and where it holds.
use Rattle.std.proofs.Common.{◌≡◌, ◌⊎◌, ℕ, ◌<◌, ◌≤◌, nat_lt, Bool, true, false, inl, inr, refl, List, [], ◌∷◌, ltb-false, ltb-true, ◌||◌, ◌∙◌, ap, sym, None, Some}
use Rattle.std.specs.List.{list_all, list_any}
use Rattle.std.proofs.lemmas.Bool.{and_from, and_parts, false≢true, or_cases, or_left, or_right}
use Rattle.k_types.specs.declared.names.Heap.{Heap}
use Rattle.k_types.specs.declared.names.Name.{Name}
use Rattle.k_types.specs.State.{Scan, scan_of}

-- what each element that passes says of what it leads to holds of all that any of them leads to
pub all_say : {A N : Type 0} (leads : N → A → Bool) (says : N → Type 0) (test : A → Bool) → ((a : A) (n : N) → test a ≡ true → leads n a ≡ true → says n) →
    (xs : List A) → list_all test xs ≡ true → (n : N) → list_any (leads n) xs ≡ true → says n
all_say leads says test each [] all n there = absurd (false≢true there)
all_say leads says test each (x ∷ xs) all n there =
    let parts = and_parts (test x) (list_all test xs) all in
    elim (or_cases (leads n x) (list_any (leads n) xs) there) [
      | inl here ↦ each x n parts.0 here
      | inr later ↦ all_say leads says test each xs parts.1 n later
    ]

-- where it holds of all that any of them leads to, each element passes
pub said_of_all : {A N : Type 0} (leads : N → A → Bool) (says : N → Type 0) (test : A → Bool) → ((a : A) → ((n : N) → leads n a ≡ true → says n) → test a ≡ true) →
    (xs : List A) → ((n : N) → list_any (leads n) xs ≡ true → says n) → list_all test xs ≡ true
said_of_all leads says test each [] holds = refl
said_of_all leads says test each (x ∷ xs) holds =
    and_from (test x) (list_all test xs)
    (each x (λ n here. holds n (or_left (leads n x) (list_any (leads n) xs) here)))
    (said_of_all leads says test each xs (λ n later. holds n (or_right (leads n x) (list_any (leads n) xs) later)))

-- one number is below the other, or is not
pub order : (a b : ℕ) → (a < b) ⊎ (b ≤ a)
order a b =
    (elim (nat_lt a b) as (λ t. nat_lt a b ≡ t → (a < b) ⊎ (b ≤ a)) [
      | true ↦ λ e. inl (ltb-true a b e)
      | false ↦ λ e. inr (ltb-false a b e)
    ]) refl

-- the second of two tests holds where the first does not
pub or_where : (a b : Bool) → (a ≡ false → b ≡ true) → (a || b) ≡ true
or_where true b e = refl
or_where false b e = e refl

-- where no collection is open none is of the heap
pub no_scan : (scans : List Scan) (h : Heap) → scans ≡ [] → scan_of scans h ≡ None
no_scan scans h none = ap (λ (xs : List Scan). scan_of xs h) none

pub none_scanned : (scans : List Scan) (h : Heap) (roots : List Name) → scans ≡ [] → scan_of scans h ≡ Some roots → ⊥
none_scanned scans h roots none is = let bad = sym (no_scan scans h none) ∙ is in absurd cc
