-- Another maximum of one limit: a hard one moves the difference up the path of its parent, a soft one moves nothing.
use Rattle.std.proofs.Common.{◌≡◌, ◌≢◌, ℕ, zero, suc, ◌+◌, ◌*◌, ◌<◌, ◌==◌, ◌&&◌, Bool, true, false, cond, refl, sym, ap, ap₂, ◌∙◌, List, length, filter, Some, arith, inl, inr, eq-eqb, ne_eqb}
use Rattle.std.proofs.Math.Path.{fun_ext}
use Rattle.std.proofs.lemmas.Bool.{cases_eq}
use Rattle.std.proofs.lemmas.Bool.Decides.{nat_tests}
use Rattle.k_types.specs.Totals.{total}
use Rattle.k_types.specs.declared.names.LimitId.{LimitId}
use Rattle.k_types.specs.declared.setup.LimitRow.{LimitRow}
use Rattle.k_types.specs.Trace.{row_of}
use Rattle.k_types.specs.Numbers.{numbers_below}
use Rattle.k_types.specs.Limits.{use_within, children, max_of, is_parent}
use Rattle.k_types.proofs.Sums.{bit, sum_same, sum_added, sum_both, sum-filter, one_counts}
use Rattle.k_types.proofs.Charges.{counted, bit_turned}

-- c is a hard child of q
is_hard_child : List LimitRow → ℕ → ℕ → Bool
is_hard_child rows q c = (row_of rows c).hard && is_parent (row_of rows c).parent q

hard_one_at : (rows : List LimitRow) (m q c : ℕ) →
    cond (is_parent (row_of rows c).parent q) (cond (row_of rows c).hard (bit (c == m)) 0) 0 ≡ cond (c == m) (bit (is_hard_child rows q c)) 0
unfolding is_hard_child
hard_one_at rows m q c = grind (arith, nat_tests)

-- of the hard children of q only m counts, and only where it is one
hard_one : (rows : List LimitRow) (m q : ℕ) (r : LimitId) → m < length rows → (row_of rows m).hard ≡ true → (row_of rows m).parent ≡ Some r →
    total (λ c. cond (row_of rows c).hard (bit (c == m)) 0) (children rows q) ≡ bit (q == r.0)
unfolding is_hard_child
hard_one rows m q r known hard parent =
    sum-filter (λ c. is_parent (row_of rows c).parent q) (λ c. cond (row_of rows c).hard (bit (c == m)) 0) (numbers_below (length rows))
    ∙ sum_same _ _ (hard_one_at rows m q) (numbers_below (length rows))
    ∙ one_counts (λ c. bit (is_hard_child rows q c)) m 0 (length rows) (omega arith) (omega arith)
    ∙ ap₂ (λ b o. bit (b && is_parent o q)) hard parent
    ∙ bit_turned r.0 q

-- two lists of limits that differ in maxima alone
module _ (rows others : List LimitRow) (long : length others ≡ length rows) (parents : (c : ℕ) → (row_of others c).parent ≡ (row_of rows c).parent)
    (hard : (c : ℕ) → (row_of others c).hard ≡ (row_of rows c).hard) where
  same_children : (q : ℕ) → children others q ≡ children rows q
  same_children q =
      ap (λ n. filter (λ c. is_parent (row_of others c).parent q) (numbers_below n)) long
      ∙ ap (λ (test : ℕ → Bool). filter test (numbers_below (length rows))) (fun_ext (λ c. ap (λ o. is_parent o q) (parents c)))

  -- where the maxima of hard limits are the same, so are the uses
  pub uses_stay : ((c : ℕ) → (row_of rows c).hard ≡ true → max_of others c ≡ max_of rows c) → (d : ℕ → ℕ) (depth q : ℕ) → use_within others d depth q ≡ use_within rows d depth q
  unfolding use_within
  uses_stay maxima d zero q = refl
  uses_stay maxima d (suc depth) q =
      ap (λ n. d q + n)
      (ap (total (λ c. cond (row_of others c).hard (max_of others c) (use_within others d depth c))) (same_children q)
      ∙ sum_same _ _ (λ c. at c (row_of rows c).hard refl (uses_stay maxima d depth c)) (children rows q))
    where
      at : (c : ℕ) (b : Bool) → (row_of rows c).hard ≡ b → use_within others d depth c ≡ use_within rows d depth c →
          cond (row_of others c).hard (max_of others c) (use_within others d depth c) ≡ cond (row_of rows c).hard (max_of rows c) (use_within rows d depth c)
      at c true e same = ap₂ (λ b n. cond b n (use_within others d depth c)) (hard c ∙ e) (maxima c e) ∙ sym (ap (λ b. cond b (max_of rows c) (use_within rows d depth c)) e)
      at c false e same = ap₂ (λ b n. cond b (max_of others c) n) (hard c ∙ e) same ∙ sym (ap (λ b. cond b (max_of rows c) (use_within rows d depth c)) e)

  -- where the maximum of one hard limit is another, the difference counts as a charge at its parent does
  module _ (m old max : ℕ) (r : LimitId) (known : m < length rows) (is_hard : (row_of rows m).hard ≡ true) (parent : (row_of rows m).parent ≡ Some r)
      (here : max_of others m ≡ max) (was : max_of rows m ≡ old) (elsewhere : (c : ℕ) → c ≢ m → max_of others c ≡ max_of rows c) where
    max_moved : (c : ℕ) → max_of others c + old * bit (c == m) ≡ max_of rows c + max * bit (c == m)
    max_moved c = elim (cases_eq c m) [
      | inl e ↦ rw (eq-eqb c m e) (let now = ap (max_of others) e in let before = ap (max_of rows) e in omega (arith, here, was, now, before))
      | inr ne ↦ rw (ne_eqb c m ne) (let same = elsewhere c ne in omega (arith, same))
    ]

    pub use_moved : (d : ℕ → ℕ) (depth q : ℕ) → use_within others d depth q + old * counted rows r.0 depth q ≡ use_within rows d depth q + max * counted rows r.0 depth q
    unfolding use_within counted
    use_moved d zero q = omega arith
    use_moved d (suc depth) q =
        let f : ℕ → ℕ = λ c. cond (row_of others c).hard (max_of others c) (use_within others d depth c) in
        let g : ℕ → ℕ = λ c. cond (row_of rows c).hard (max_of rows c) (use_within rows d depth c) in
        let k : ℕ → ℕ = λ c. cond (row_of rows c).hard (bit (c == m)) 0 + cond (row_of rows c).hard 0 (counted rows r.0 depth c) in
        let list : total f (children others q) ≡ total f (children rows q) = ap (total f) (same_children q) in
        let each : total (λ c. f c + old * k c) (children rows q) ≡ total (λ c. g c + max * k c) (children rows q) =
        sum_same (λ c. f c + old * k c) (λ c. g c + max * k c) (λ c. at c (row_of rows c).hard refl (use_moved d depth c)) (children rows q) in
        let left = sum_added f k old (children rows q) in
        let right = sum_added g k max (children rows q) in
        let both = sum_both (λ c. cond (row_of rows c).hard (bit (c == m)) 0) (λ c. cond (row_of rows c).hard 0 (counted rows r.0 depth c)) (children rows q) in
        let one = hard_one rows m q r known is_hard parent in
        let all : total k (children rows q) ≡ bit (q == r.0) + total (λ c. cond (row_of rows c).hard 0 (counted rows r.0 depth c)) (children rows q) = both ∙ ap (λ n. n + total (λ c. cond (row_of rows c).hard 0 (counted rows r.0 depth c)) (children rows q)) one in
        let o = ap (λ n. old * n) all in
        let x = ap (λ n. max * n) all in
        omega (arith, list, each, left, right, o, x)
      where
        at : (c : ℕ) (b : Bool) → (row_of rows c).hard ≡ b → use_within others d depth c + old * counted rows r.0 depth c ≡ use_within rows d depth c + max * counted rows r.0 depth c →
            cond (row_of others c).hard (max_of others c) (use_within others d depth c) + old * (cond (row_of rows c).hard (bit (c == m)) 0 + cond (row_of rows c).hard 0 (counted rows r.0 depth c))
            ≡ cond (row_of rows c).hard (max_of rows c) (use_within rows d depth c) + max * (cond (row_of rows c).hard (bit (c == m)) 0 + cond (row_of rows c).hard 0 (counted rows r.0 depth c))
        at c true e ih = rw (hard c, e) (let moved = max_moved c in omega (arith, moved))
        at c false e ih = rw (hard c, e) (omega (arith, ih))
