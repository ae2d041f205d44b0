-- The last place below a number that passes a test.
use Rattle.std.proofs.Common.{◌≡◌, ◌≢◌, ℕ, zero, suc, ◌<◌, ◌≤◌, ◌⊎◌, Bool, true, false, cond, refl, sym, ap, ap₂, ◌∙◌, inl, inr, arith}
use Rattle.std.proofs.lemmas.Bool.{cases_eq, cases_lt, false≢true}
use Rattle.k_exit.specs.Chains.{last}

-- it passes
pub last_hit : (p : ℕ → Bool) (k i : ℕ) → last p k ≡ suc i → (i < k) × (p i ≡ true)
unfolding last
last_hit p zero i e = absurd (omega arith)
last_hit p (suc k) i e = by_test (p k) refl e (last_hit p k i)
  where
    by_test : (t : Bool) → p k ≡ t → cond t (suc k) (last p k) ≡ suc i → (last p k ≡ suc i → (i < k) × (p i ≡ true)) → (i < suc k) × (p i ≡ true)
    by_test true is e ih = let same : k ≡ i = omega (arith, e) in (omega (arith, same), ap p (sym same) ∙ is)
    by_test false is e ih = let more = ih e in (omega (arith, more.0), more.1)

-- no place between it and k passes
pub last_skips : (p : ℕ → Bool) (k j : ℕ) → last p k ≤ j → j < k → p j ≡ false
unfolding last
last_skips p zero j low high = absurd (omega (arith, high))
last_skips p (suc k) j low high = by_test (p k) refl low (last_skips p k j)
  where
    by_test : (t : Bool) → p k ≡ t → cond t (suc k) (last p k) ≤ j → (last p k ≤ j → j < k → p j ≡ false) → p j ≡ false
    by_test true is low ih = absurd (omega (arith, low, high))
    by_test false is low ih =
        elim (cases_eq j k) [
          | inl same ↦ ap p same ∙ is
          | inr differs ↦ ih low (omega (arith, high, differs))
        ]

pub last_within : (p : ℕ → Bool) (k : ℕ) → last p k ≤ k
unfolding last
last_within p zero = omega arith
last_within p (suc k) = by_test (p k) (last_within p k)
  where
    by_test : (t : Bool) → last p k ≤ k → cond t (suc k) (last p k) ≤ suc k
    by_test true less = omega arith
    by_test false less = omega (arith, less)

-- what is above 0 is one more than a place
pred : (n : ℕ) → (n ≡ 0) ⊎ ((m : ℕ) × (n ≡ suc m))
pred zero = inl refl
pred (suc n) = inr (n, refl)

-- a place that passes is no higher
pub last_above : (p : ℕ → Bool) (k j : ℕ) → j < k → p j ≡ true → j < last p k
last_above p k j below e =
    elim (cases_lt j (last p k)) [
      | inl within ↦ within
      | inr past ↦ absurd (false≢true (sym (last_skips p k j past below) ∙ e))
    ]

-- the place that it is
pub last_is : (p : ℕ → Bool) (k r : ℕ) → r ≤ k → ((m : ℕ) → r ≡ suc m → p m ≡ true) → ((j : ℕ) → r ≤ j → j < k → p j ≡ false) → last p k ≡ r
last_is p k r within passes skips =
    elim (cases_eq (last p k) r) [
      | inl same ↦ same
      | inr differs ↦ absurd (by_side (cases_lt (last p k) r) differs)
    ]
  where
    by_side : (last p k < r) ⊎ (r ≤ last p k) → last p k ≢ r → ⊥
    by_side (inl low) differs = elim (pred r) [
      | inl none ↦ omega (arith, low, none)
      | inr some ↦
          let off = last_skips p k some.0 (omega (arith, low, some.1)) (omega (arith, within, some.1)) in
          false≢true (sym off ∙ passes some.0 some.1)
    ]
    by_side (inr high) differs = elim (pred (last p k)) [
      | inl none ↦ omega (arith, high, none, differs)
      | inr some ↦
          let hit = last_hit p k some.0 some.1 in
          false≢true (sym (skips some.0 (omega (arith, high, differs, some.1)) hit.0) ∙ hit.1)
    ]

-- tests that agree below k
pub last_same : (p q : ℕ → Bool) (k : ℕ) → ((j : ℕ) → j < k → q j ≡ p j) → last q k ≡ last p k
unfolding last
last_same p q zero same = refl
last_same p q (suc k) same = ap₂ (λ t r. cond t (suc k) r) (same k (omega arith)) (last_same p q k (λ j within. same j (omega (arith, within))))

-- nothing passes from i on
pub last_low : (p : ℕ → Bool) (i k : ℕ) → i ≤ k → ((j : ℕ) → i ≤ j → j < k → p j ≡ false) → last p k ≡ last p i
last_low p i k within none =
    last_is p k (last p i) (omega (arith, last_within p i, within)) (λ m e. (last_hit p i m e).1)
    (λ j low high. elim (cases_lt j i) [ inl below ↦ last_skips p i j low below | inr above ↦ none j above high ])

-- one place i leaves: nothing changes where some place above it passes
pub last_left_high : (p q : ℕ → Bool) (i m k : ℕ) → ((j : ℕ) → j < k → j ≢ i → q j ≡ p j) → i < m → m < k → p m ≡ true → last q k ≡ last p k
last_left_high p q i m k same above below e =
    let up = last_above p k m below e in
    last_is q k (last p k) (last_within p k)
    (λ n is. let hit = last_hit p k n is in same n hit.0 (λ s. omega (arith, up, is, s, above)) ∙ hit.1)
    (λ j low high. same j high (λ s. omega (arith, low, up, s, above)) ∙ last_skips p k j low high)

-- and below it
pub last_left_low : (p q : ℕ → Bool) (i k : ℕ) → ((j : ℕ) → j < k → j ≢ i → q j ≡ p j) → k ≤ i → last q k ≡ last p k
last_left_low p q i k same within = last_same p q k (λ j below. same j below (λ s. omega (arith, below, within, s)))

-- the last of all, where it is i that left and nothing passes above it
pub last_left_here : (p q : ℕ → Bool) (i k : ℕ) → ((j : ℕ) → j < k → j ≢ i → q j ≡ p j) → q i ≡ false → i < k → ((j : ℕ) → i < j → j < k → p j ≡ false) → last q k ≡ last p i
last_left_here p q i k same off within none =
    last_low q i k (omega (arith, within))
    (λ j low high. elim (cases_eq j i) [ inl is ↦ ap q is ∙ off | inr differs ↦ same j high differs ∙ none j (omega (arith, low, differs)) high ])
    ∙ last_left_low p q i i (λ j below apart. same j (omega (arith, below, within)) apart) (omega arith)

-- the place itself is the last where it passes and nothing above it does
pub last_here : (p : ℕ → Bool) (i k : ℕ) → p i ≡ true → i < k → ((j : ℕ) → i < j → j < k → p j ≡ false) → last p k ≡ suc i
last_here p i k e within none =
    last_is p k (suc i) (omega (arith, within)) (λ m is. let same : m ≡ i = omega (arith, is) in ap p same ∙ e) (λ j low high. none j (omega (arith, low)) high)

-- one more place, which doesn't pass
pub last_not : (p : ℕ → Bool) (k : ℕ) → p k ≡ false → last p (suc k) ≡ last p k
unfolding last
last_not p k off = ap (λ t. cond t (suc k) (last p k)) off
