-- How many go, by the marks of what stays.
use Rattle.std.proofs.Common.{◌≡◌, ℕ, zero, suc, ◌+◌, ◌<◌, ◌≤◌, not, cond, Bool, true, false, refl, sym, ap, ap₂, ◌∙◌, List, [], ◌∷◌, ◌++◌, map, filter, drop, take, get_or, length, count_by, arith}
use Rattle.std.proofs.lemmas.List.{drop_more}
use Rattle.std.proofs.lemmas.List.Sums.{sum_by-cons}
use Rattle.k_types.specs.Totals.{total}
use Rattle.k_state.specs.Marks.{marked}

free : Bool → ℕ
free b = cond (not b) 1 0

pub items_gone : {A : Type 0} (stays : A → Bool) (xs : List A) → count_by not (map stays xs) ≡ count_by (λ x. not (stays x)) xs
unfolding free
items_gone stays [] = refl
items_gone stays (x ∷ xs) =
    sum_by-cons free (stays x) (map stays xs)
    ∙ ap (λ n. free (stays x) + n) (items_gone stays xs)
    ∙ sym (sum_by-cons (λ y. free (stays y)) x xs)

drop_past : {A : Type 0} (xs : List A) (i : ℕ) → length xs ≤ i → drop i xs ≡ []
drop_past [] zero past = refl
drop_past [] (suc i) past = refl
drop_past (x ∷ xs) zero past = absurd (omega (arith, past))
drop_past (x ∷ xs) (suc i) past = drop_past xs i (omega (arith, past))

-- of those that are marked to stay the others go
pub gone_is : {A : Type 0} (stays : A → Bool) (xs : List A) → marked (map not (map stays xs)) xs ≡ filter (λ x. not (stays x)) xs
gone_is stays [] = refl
gone_is stays (x ∷ xs) =
    elim (stays x) as (λ b. marked (not b ∷ map not (map stays xs)) (x ∷ xs) ≡ cond (not b) (x ∷ filter (λ y. not (stays y)) xs) (filter (λ y. not (stays y)) xs)) [
      | true ↦ gone_is stays xs
      | false ↦ ap (λ ys. x ∷ ys) (gone_is stays xs)
    ]

pub count_gone : {A : Type 0} (stays : A → Bool) (xs : List A) → count_by not (map stays xs) ≡ length (filter (λ x. not (stays x)) xs)
unfolding free
count_gone stays [] = refl
count_gone stays (x ∷ xs) =
    sum_by-cons free (stays x) (map stays xs)
    ∙ elim (stays x) as (λ b. free b + count_by not (map stays xs) ≡ length (cond (not b) (x ∷ filter (λ y. not (stays y)) xs) (filter (λ y. not (stays y)) xs))) [
      | true ↦ omega (arith, count_gone stays xs)
      | false ↦ omega (arith, count_gone stays xs)
    ]

-- one object more of those that are left
pub gone_next : {A : Type 0} (size : A → ℕ) (stays : List Bool) (xs : List A) (i : ℕ) (x : A) → i < length xs → length stays ≡ length xs → x ≡ get_or xs i x →
    total size (marked (map not (drop i stays)) (drop i xs)) ≡ cond (not (get_or stays i false)) (size x) 0 + total size (marked (map not (drop (i + 1) stays)) (drop (i + 1) xs))
gone_next size stays xs i x inside same is =
    let rest = marked (map not (drop (i + 1) stays)) (drop (i + 1) xs) in
    ap₂ (λ ms ys. total size (marked (map not ms) ys)) (drop_more stays i false (omega (arith, inside, same))) (drop_more xs i x inside ∙ ap (λ y. y ∷ drop (i + 1) xs) (sym is))
    ∙ elim (get_or stays i false) as (λ b. total size (marked (not b ∷ map not (drop (i + 1) stays)) (x ∷ drop (i + 1) xs)) ≡ cond (not b) (size x) 0 + total size rest) [
      | true ↦ omega arith
      | false ↦ refl
    ]

pub gone_last : {A : Type 0} (size : A → ℕ) (stays : List Bool) (xs : List A) (i : ℕ) → length xs ≤ i → length stays ≡ length xs →
    total size (marked (map not (drop i stays)) (drop i xs)) ≡ 0
gone_last size stays xs i past same = ap (λ (ms : List Bool). total size (marked (map not ms) (drop i xs))) (drop_past stays i (omega (arith, past, same)))

-- the marked ones of a front that is one longer
pub marked_take : {A : Type 0} (ms : List Bool) (xs : List A) (i : ℕ) (x : A) → i < length xs → length ms ≡ length xs → x ≡ get_or xs i x →
    marked (take (i + 1) ms) (take (i + 1) xs) ≡ marked (take i ms) (take i xs) ++ cond (get_or ms i false) (x ∷ []) []
marked_take ms [] i x inside same is = absurd (omega (arith, inside))
marked_take [] (y ∷ ys) i x inside same is = absurd (omega (arith, same))
marked_take (true ∷ ms) (y ∷ ys) zero x inside same is = ap (λ z. z ∷ []) (sym is)
marked_take (false ∷ ms) (y ∷ ys) zero x inside same is = refl
marked_take (true ∷ ms) (y ∷ ys) (suc i) x inside same is =
    let shift : suc i + 1 ≡ suc (i + 1) = omega arith in
    ap (λ k. marked (take k (true ∷ ms)) (take k (y ∷ ys))) shift
    ∙ ap (λ zs. y ∷ zs) (marked_take ms ys i x (omega (arith, inside)) (omega (arith, same)) is)
marked_take (false ∷ ms) (y ∷ ys) (suc i) x inside same is =
    let shift : suc i + 1 ≡ suc (i + 1) = omega arith in
    ap (λ k. marked (take k (false ∷ ms)) (take k (y ∷ ys))) shift
    ∙ marked_take ms ys i x (omega (arith, inside)) (omega (arith, same)) is
