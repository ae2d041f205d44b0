-- Lists of distinct numbers, and the operations that are left of a list.
use Rattle.std.proofs.Common.{◌≡◌, ◌≢◌, ℕ, zero, suc, ◌+◌, ◌<◌, ◌≤◌, ◌==◌, Bool, true, false, cond, refl, sym, ap, ◌∙◌, inl, inr, List, [], ◌∷◌, ◌++◌, filter, length, take, drop, count_by, slice_get, Some, arith, eqb-true, eq-eqb, IsTrue, IsFalse, nat_lt, map, get_or}
use Rattle.std.specs.List.{list_all}
use Rattle.std.proofs.lemmas.Bool.{false≢true, cases_eq, or_cases, or_left, or_right, and_parts, and_from, false_from_ne_true}
use Rattle.std.proofs.lemmas.List.Recursion.{is_count_by}
use Rattle.k_types.specs.Names.{among}
use Rattle.k_types.specs.Numbers.{numbers_below, numbers_from}
use Rattle.std.proofs.lemmas.Bool.Decides.{nat_tests}
use Rattle.k_types.specs.declared.names.Pid.{Pid}
use Rattle.std.proofs.lemmas.List.{drop_more, at_drop_all}

-- no number stands twice
abbrev pub AreDistinctNumbers : List ℕ → Type 0
AreDistinctNumbers [] = Unit {0}
AreDistinctNumbers (n ∷ ns) = IsFalse (among n ns) × AreDistinctNumbers ns

-- the filtered numbers from the first one up
abbrev kept : (ℕ → Bool) → ℕ → ℕ → List ℕ
kept p first n = filter p (numbers_from first n)

from_low_step : (p : ℕ → Bool) (first n k : ℕ) (b : Bool) → (IsTrue (among k (kept p (suc first) n)) → suc first ≤ k) → IsTrue (among k (cond b (first ∷ kept p (suc first) n) (kept p (suc first) n))) → first ≤ k
from_low_step p first n k true ih t = elim (or_cases (first == k) (among k (kept p (suc first) n)) t) [
  | inl here ↦ let same = eqb-true first k here in omega arith
  | inr there ↦ let low = ih there in omega arith
]
from_low_step p first n k false ih t = let low = ih t in omega arith

from_low : (p : ℕ → Bool) (first n k : ℕ) → IsTrue (among k (filter p (numbers_from first n))) → first ≤ k
from_low p first zero k t = absurd (false≢true t)
from_low p first (suc n) k t = from_low_step p first n k (p first) (from_low p (suc first) n k) t

distinct_step : (p : ℕ → Bool) (first n : ℕ) (b : Bool) → AreDistinctNumbers (kept p (suc first) n) → AreDistinctNumbers (cond b (first ∷ kept p (suc first) n) (kept p (suc first) n))
distinct_step p first n true ih = (false_from_ne_true _ (λ t. let low = from_low p (suc first) n first t in absurd (omega arith)), ih)
distinct_step p first n false ih = ih

distinct_from : (p : ℕ → Bool) (first n : ℕ) → AreDistinctNumbers (filter p (numbers_from first n))
distinct_from p first zero = tt
distinct_from p first (suc n) = distinct_step p first n (p first) (distinct_from p (suc first) n)

pub distinct_below : (p : ℕ → Bool) (n : ℕ) → AreDistinctNumbers (filter p (numbers_below n))
distinct_below p n = distinct_from p 0 n

-- what stands among those that pass passes and is below the bound
passes_step : (p : ℕ → Bool) (first n k : ℕ) (b : Bool) → p first ≡ b → (IsTrue (among k (kept p (suc first) n)) → (k < suc first + n) × IsTrue (p k)) → IsTrue (among k (cond b (first ∷ kept p (suc first) n) (kept p (suc first) n))) → (k < first + suc n) × IsTrue (p k)
passes_step p first n k true e ih t = elim (or_cases (first == k) (among k (kept p (suc first) n)) t) [
  | inl here ↦ let same = eqb-true first k here in (omega (arith, same), ap p (sym same) ∙ e)
  | inr there ↦ let rest = ih there in (omega (arith, rest.0), rest.1)
]
passes_step p first n k false e ih t = let rest = ih t in (omega (arith, rest.0), rest.1)

passes_from : (p : ℕ → Bool) (first n k : ℕ) → IsTrue (among k (filter p (numbers_from first n))) → (k < first + n) × IsTrue (p k)
passes_from p first zero k t = absurd (false≢true t)
passes_from p first (suc n) k t = passes_step p first n k (p first) refl (passes_from p (suc first) n k) t

pub passes_below : (p : ℕ → Bool) (n k : ℕ) → IsTrue (among k (filter p (numbers_below n))) → (k < n) × IsTrue (p k)
passes_below p n k t = let both = passes_from p 0 n k t in (omega (arith, both.0), both.1)

listed_step : (p : ℕ → Bool) (first n k : ℕ) (b : Bool) → p first ≡ b → IsTrue (p k) → (first ≢ k → IsTrue (among k (kept p (suc first) n))) → IsTrue (among k (cond b (first ∷ kept p (suc first) n) (kept p (suc first) n)))
listed_step p first n k true e t ih = elim (cases_eq first k) [
  | inl same ↦ or_left (first == k) _ (eq-eqb first k same)
  | inr ne ↦ or_right (first == k) _ (ih ne)
]
listed_step p first n k false e t ih = elim (cases_eq first k) [
  | inl same ↦ absurd (false≢true (sym e ∙ ap p same ∙ t))
  | inr ne ↦ ih ne
]

pub listed_from : (p : ℕ → Bool) (first n k : ℕ) → first ≤ k → k < first + n → IsTrue (p k) → IsTrue (among k (filter p (numbers_from first n)))
listed_from p first zero k low high t = absurd (omega arith)
listed_from p first (suc n) k low high t = listed_step p first n k (p first) refl t (λ ne. listed_from p (suc first) n k (omega (arith, ne, low)) (omega arith) t)

pub listed_below : (p : ℕ → Bool) (n k : ℕ) → k < n → IsTrue (p k) → IsTrue (among k (filter p (numbers_below n)))
listed_below p n k inside t = listed_from p 0 n k (omega arith) (omega arith) t

all_from : (f : ℕ → Bool) (first n : ℕ) → ((k : ℕ) → k < first + n → f k ≡ true) → list_all f (numbers_from first n) ≡ true
all_from f first zero each = refl
all_from f first (suc n) each = and_from _ _ (each first (omega arith)) (all_from f (suc first) n (λ k inside. each k (omega (arith, inside))))

pub all_below : (f : ℕ → Bool) (n : ℕ) → ((k : ℕ) → k < n → f k ≡ true) → list_all f (numbers_below n) ≡ true
all_below f n each = all_from f 0 n (λ k inside. each k (omega (arith, inside)))

all_of_from : (f : ℕ → Bool) (first n k : ℕ) → list_all f (numbers_from first n) ≡ true → first ≤ k → k < first + n → f k ≡ true
all_of_from f first zero k all low high = absurd (omega arith)
all_of_from f first (suc n) k all low high =
    let parts = and_parts (f first) (list_all f (numbers_from (suc first) n)) all in
    elim (cases_eq first k) [
      | inl same ↦ ap f (sym same) ∙ parts.0
      | inr ne ↦ all_of_from f (suc first) n k parts.1 (omega (arith, ne, low)) (omega arith)
    ]

pub all_at_below : (f : ℕ → Bool) (n k : ℕ) → list_all f (numbers_below n) ≡ true → k < n → f k ≡ true
all_at_below f n k all inside = all_of_from f 0 n k all (omega arith) (omega arith)

-- how often the number stands in the list
abbrev pub occurrences : ℕ → List ℕ → ℕ
occurrences p [] = 0
occurrences p (q ∷ qs) = cond (q == p) (1 + occurrences p qs) (occurrences p qs)

pub occurrences_count : (p : ℕ) (qs : List ℕ) → occurrences p qs ≡ count_by (λ q. q == p) qs
occurrences_count p qs = is_count_by (occurrences p) (λ q. q == p) refl (λ x xs. refl) qs

-- what a test of all says of one
pub all_at : {A : Type 0} (test : A → Bool) (xs : List A) (i : ℕ) (x : A) → list_all test xs ≡ true → slice_get xs i ≡ Some x → test x ≡ true
all_at test [] i x all found = grind arith
all_at test (y ∷ ys) zero x all found = let parts = and_parts (test y) (list_all test ys) all in grind arith
all_at test (y ∷ ys) (suc i) x all found = all_at test ys i x (and_parts (test y) (list_all test ys) all).1 found

-- the element at a place inside the list, and what stands before and after it
pub element_at : {A : Type 0} (xs : List A) (i : ℕ) → i < length xs → (x : A) × (slice_get xs i ≡ Some x) × (drop i xs ≡ x ∷ drop (i + 1) xs) × (xs ≡ take i xs ++ x ∷ drop (i + 1) xs)
element_at [] i inside = absurd (omega arith)
element_at (y ∷ ys) zero inside = (y, refl, refl, refl)
element_at (y ∷ ys) (suc i) inside =
    let rest = element_at ys i (omega arith) in
    let one : suc i + 1 ≡ suc (i + 1) = omega arith in
    (rest.0, rest.1, rest.2 ∙ ap (λ n. rest.0 ∷ drop n (y ∷ ys)) (sym one), ap (λ zs. y ∷ zs) rest.3 ∙ ap (λ n. y ∷ take i ys ++ rest.0 ∷ drop n (y ∷ ys)) (sym one))

pub drop_all : {A : Type 0} (xs : List A) (n : ℕ) → length xs ≤ n → drop n xs ≡ []
drop_all [] zero past = refl
drop_all [] (suc n) past = refl
drop_all (x ∷ xs) zero past = absurd (omega (arith, past))
drop_all (x ∷ xs) (suc n) past = drop_all xs n (omega (arith, past))

pub length_drop : {A : Type 0} (xs : List A) (n : ℕ) → n ≤ length xs → drop n xs ≡ [] → n ≡ length xs
length_drop [] zero low none = refl
length_drop [] (suc n) low none = absurd (omega (arith, low))
length_drop (x ∷ xs) zero low none = absurd (cc none)
length_drop (x ∷ xs) (suc n) low none = ap suc (length_drop xs n (omega (arith, low)) none)

-- each process of the order is one of the trace's
pub process_known : (n : ℕ) (pids : List Pid) (i : ℕ) (d : Pid) → list_all (λ p. nat_lt p n) (map (λ (pid : Pid). pid.0) pids) ≡ true → i < length pids → (get_or pids i d).0 < n
process_known n [] i d all inside = absurd (omega arith)
process_known n (pid ∷ pids) zero d all inside =
    let parts = and_parts (nat_lt pid.0 n) (list_all (λ p. nat_lt p n) (map (λ (q : Pid). q.0) pids)) all in
    grind (arith, nat_tests)
process_known n (pid ∷ pids) (suc i) d all inside =
    process_known n pids i d (and_parts (nat_lt pid.0 n) (list_all (λ p. nat_lt p n) (map (λ (q : Pid). q.0) pids)) all).1 (omega arith)

-- the next process of what is left of the order
pub order_next : (pids : List Pid) (i : ℕ) (d : Pid) → i < length pids →
    map (λ (pid : Pid). pid.0) (drop i pids) ≡ (get_or pids i d).0 ∷ map (λ (pid : Pid). pid.0) (drop (i + 1) pids)
order_next pids i d inside = ap (map (λ (pid : Pid). pid.0)) (drop_more pids i d inside)

pub order_over : (pids : List Pid) (i : ℕ) → length pids ≤ i → map (λ (pid : Pid). pid.0) (drop i pids) ≡ []
order_over pids i past = at_drop_all (map (λ (pid : Pid). pid.0)) pids i past
