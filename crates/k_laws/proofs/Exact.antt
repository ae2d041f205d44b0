-- A charge counts exactly once on each limit of its path.
use Rattle.std.proofs.Common.{◌≡◌, ℕ, zero, suc, ◌+◌, ◌<◌, ◌≤◌, ◌==◌, Bool, true, false, cond, refl, sym, ap, ap₂, ◌∙◌, List, ◌∷◌, filter, length, Option, Some, None, arith, eqb-true, IsTrue}
use Rattle.std.proofs.lemmas.Bool.{false≢true, false_from_ne_true}
use Rattle.k_types.specs.Totals.{total}
use Rattle.k_types.specs.declared.names.LimitId.{LimitId}
use Rattle.k_types.specs.declared.setup.LimitRow.{LimitRow}
use Rattle.k_types.specs.Trace.{row_of}
use Rattle.k_types.specs.Numbers.{numbers_from}
use Rattle.k_types.specs.Limits.{is_parent}
use Rattle.k_types.specs.TraceRules.{IsTree}
use Rattle.k_types.proofs.Charges.{counted, on_path, path_counts, path_low, soft}
use Rattle.k_types.proofs.Sums.{bit}

-- of numbers below n, the same total where each that passes gives the same
pub same_below : (p : ℕ → Bool) (f g : ℕ → ℕ) (first n : ℕ) → ((c : ℕ) → c < first + n → IsTrue (p c) → f c ≡ g c) → total f (filter p (numbers_from first n)) ≡ total g (filter p (numbers_from first n))
same_below p f g first zero same = refl
same_below p f g first (suc n) same =
    let rest = same_below p f g (suc first) n (λ c low t. same c (omega arith) t) in
    elim (p first) as (λ b. p first ≡ b → total f (cond b (first ∷ filter p (numbers_from (suc first) n)) (filter p (numbers_from (suc first) n))) ≡ total g (cond b (first ∷ filter p (numbers_from (suc first) n)) (filter p (numbers_from (suc first) n)))) [
      | true ↦ λ t. ap₂ (λ a b. a + b) (same first (omega arith) t) rest
      | false ↦ λ e. rest
    ] refl

parent_lower : (rows : List LimitRow) → IsTree rows → (c q : ℕ) → c < length rows → IsTrue (is_parent (row_of rows c).parent q) → q < c
parent_lower rows tree c q known t = go (row_of rows c).parent refl t
  where
    go : (o : Option LimitId) → (row_of rows c).parent ≡ o → IsTrue (is_parent o q) → q < c
    go None e t = absurd (false≢true t)
    go (Some parent) e t = let same = eqb-true parent.0 q t in let low = tree c parent known e in omega arith

pub counted_exact : (rows : List LimitRow) → IsTree rows → (m : ℕ) → m < length rows → (depth q : ℕ) → length rows ≤ q + depth → counted rows m depth q ≡ on_path rows (length rows) m q
unfolding counted soft
counted_exact rows tree m known zero q deep =
    ap bit (sym (false_from_ne_true _ (λ t. let low = path_low rows tree (length rows) m q known t in absurd (omega arith))))
counted_exact rows tree m known (suc depth) q deep =
    let inner = same_below (λ c. is_parent (row_of rows c).parent q) (λ c. cond (row_of rows c).hard 0 (counted rows m depth c)) (λ c. cond (row_of rows c).hard 0 (on_path rows (length rows) m c)) 0 (length rows)
    (λ c below' t. let lower = parent_lower rows tree c q (omega arith) t in ap (cond (row_of rows c).hard 0) (counted_exact rows tree m known depth c (omega arith))) in
    ap (λ n. bit (q == m) + n) inner ∙ sym (path_counts rows tree (length rows) m q known known)
