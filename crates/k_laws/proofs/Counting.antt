-- Counts over lists.
use Rattle.std.proofs.Common.{◌≡◌, ℕ, ◌+◌, ◌≤◌, Bool, true, false, cond, refl, List, [], ◌∷◌, filter, filter_map, length, Option, Some, None, arith, zero-le}
use Rattle.std.specs.List.{cons_option}
use Rattle.k_types.specs.Totals.{total}
use Rattle.k_laws.specs.Counts.{one_if}

pub one_if_low : (b : Bool) → one_if b ≤ 1
one_if_low true = omega arith
one_if_low false = omega arith

-- a test counts at most the length
pub count_low : {A : Type 0} (p : A → Bool) (xs : List A) → total (λ x. one_if (p x)) xs ≤ length xs
count_low p [] = zero-le
count_low p (x ∷ xs) = omega (arith, count_low p xs, one_if_low (p x))

-- fewer elements count less
pub total_fewer : {A : Type 0} (f : A → ℕ) (q : A → Bool) (xs : List A) → total f (filter q xs) ≤ total f xs
total_fewer f q [] = zero-le
total_fewer f q (x ∷ xs) =
    let rest = total_fewer f q xs in
    elim (q x) as (λ b. total f (cond b (x ∷ filter q xs) (filter q xs)) ≤ f x + total f xs) [
      | true ↦ omega (arith, rest)
      | false ↦ omega (arith, rest)
    ]

-- what an element becomes counts at most what it counted
abbrev pub option_count : {B : Type 0} → (B → ℕ) → Option B → ℕ
option_count f None = 0
option_count f (Some y) = f y

total_cons_option : {B : Type 0} (f : B → ℕ) (o : Option B) (ys : List B) → total f (cons_option o ys) ≡ option_count f o + total f ys
total_cons_option f None ys = omega arith
total_cons_option f (Some y) ys = refl

pub total_turned : {A B : Type 0} (f : A → ℕ) (g : B → ℕ) (turn : A → Option B) → ((x : A) → option_count g (turn x) ≤ f x) → (xs : List A) → total g (filter_map turn xs) ≤ total f xs
total_turned f g turn less [] = zero-le
total_turned f g turn less (x ∷ xs) = omega (arith, total_cons_option g (turn x) (filter_map turn xs), less x, total_turned f g turn less xs)
