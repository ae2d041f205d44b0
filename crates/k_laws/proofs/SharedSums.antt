-- What a process shares, summed over its shares and over the shared heaps.
use Rattle.std.proofs.Common.{◌≡◌, ℕ, ◌+◌, ◌<◌, ◌==◌, Bool, true, false, cond, refl, sym, ap, ap₂, ◌∙◌, List, [], ◌∷◌, filter, arith, eqb-true, eq-eqb, IsTrue}
use Rattle.std.proofs.lemmas.Bool.{and_from, or_left, or_right}
use Rattle.std.proofs.lemmas.Bool.Decides.{nat_tests}
use Rattle.k_types.specs.Totals.{total}
use Rattle.k_types.specs.Numbers.{numbers_below}
use Rattle.k_types.specs.State.{Sharing, has_share}
use Rattle.k_types.specs.Sound.{AreDistinctShares}
use Rattle.k_types.proofs.Sums.{sum-filter, one_counts, both_or, zeros, sum_both, sum_same}

one_heap : (f : ℕ → ℕ) (s n : ℕ) → s < n → total (λ t. cond (s == t) (f t) 0) (numbers_below n) ≡ f s
one_heap f s n inside =
    sum_same (λ t. cond (s == t) (f t) 0) (λ t. cond (t == s) (f t) 0) (λ t. ap (λ b. cond b (f t) 0) (turned s t)) (numbers_below n)
    ∙ one_counts f s 0 n (omega arith) (omega arith)
  where
    turned : (a b : ℕ) → (a == b) ≡ (b == a)
    turned a b = grind (arith, nat_tests)

inner : (f : ℕ → ℕ) (b : Bool) (s n : ℕ) → s < n → total (λ t. cond b (cond (s == t) (f t) 0) 0) (numbers_below n) ≡ cond b (f s) 0
inner f true s n inside = one_heap f s n inside
inner f false s n inside = zeros (numbers_below n)

-- a sum over the shares of a process is one over the heaps that it shares
pub shares_sum : (f : ℕ → ℕ) (p n : ℕ) (shares : List Sharing) → AreDistinctShares shares → ((q s : ℕ) → IsTrue (has_share shares q s) → s < n) →
    total (λ (e : Sharing). f e.heap) (filter (λ e. e.process == p) shares) ≡ total (λ t. cond (has_share shares p t) (f t) 0) (numbers_below n)
shares_sum f p n shares distinct known = sum-filter (λ e. e.process == p) (λ (e : Sharing). f e.heap) shares ∙ go shares distinct known
  where
    go : (shares : List Sharing) → AreDistinctShares shares → ((q s : ℕ) → IsTrue (has_share shares q s) → s < n) →
        total (λ (e : Sharing). cond (e.process == p) (f e.heap) 0) shares ≡ total (λ t. cond (has_share shares p t) (f t) 0) (numbers_below n)
    go [] distinct known = sym (zeros (numbers_below n))
    go (e ∷ shares) distinct known =
        ap₂ (λ a b. a + b) (sym (inner f (e.process == p) e.heap n (known e.process e.heap (or_left _ _ (and_from _ _ (eq-eqb e.process e.process refl) (eq-eqb e.heap e.heap refl))))))
        (go shares distinct.1 (λ q s t. known q s (or_right _ _ t)))
        ∙ sym (sum_both (λ t. cond (e.process == p) (cond (e.heap == t) (f t) 0) 0) (λ t. cond (has_share shares p t) (f t) 0) (numbers_below n))
        ∙ sym (sum_same (λ t. cond (has_share (e ∷ shares) p t) (f t) 0) (λ t. cond (e.process == p) (cond (e.heap == t) (f t) 0) 0 + cond (has_share shares p t) (f t) 0)
        (λ t. both_or (e.process == p) (e.heap == t) (has_share shares p t) (f t) (λ a b. ap₂ (λ x y. has_share shares x y) (sym (eqb-true e.process p a)) (sym (eqb-true e.heap t b)) ∙ distinct.0)) (numbers_below n))
