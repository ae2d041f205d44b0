-- What a charge at a limit does to the uses: each limit on its path has that much more, and no other.
use Rattle.std.proofs.Common.{◌≡◌, ℕ, zero, suc, ◌+◌, ◌*◌, ◌<◌, ◌≤◌, ◌==◌, Bool, true, false, cond, refl, ap, ap₂, ◌∙◌, sym, List, length, Option, Some, None, arith}
use Rattle.std.proofs.Math.Path.{fun_ext}
use Rattle.std.proofs.lemmas.Bool.Decides.{nat_tests}
use Rattle.k_types.specs.Totals.{total}
use Rattle.k_types.specs.Numbers.{numbers_below}
use Rattle.k_types.specs.declared.names.LimitId.{LimitId}
use Rattle.k_types.specs.declared.setup.LimitRow.{LimitRow}
use Rattle.k_types.specs.Trace.{row_of}
use Rattle.k_types.specs.TraceRules.{IsTree}
use Rattle.k_types.specs.Limits.{use_within, path_within, path_above, max_of, is_parent}
use Rattle.k_limits.specs.Paths.{times_on}
use Rattle.k_types.proofs.Sums.{bit, sum-filter, same_below}
use Rattle.k_types.proofs.Charges.{soft, soft_one, soft_both, is_soft_child, not_soft_hard, soft_child, not_soft_top, bit_turned, counted, use_added}
use Rattle.k_limits.proofs.Walks.{path_low}

-- the same as a sum over all limits
pub soft_all : (rows : List LimitRow) (f : ℕ → ℕ) (q : ℕ) → soft rows f q ≡ total (λ c. cond (is_parent (row_of rows c).parent q) (cond (row_of rows c).hard 0 (f c)) 0) (numbers_below (length rows))
unfolding soft
soft_all rows f q = sum-filter (λ c. is_parent (row_of rows c).parent q) (λ c. cond (row_of rows c).hard 0 (f c)) (numbers_below (length rows))

-- what is said of a child needs to be so after the parent alone
pub child_same : (rows : List LimitRow) → IsTree rows → (q c : ℕ) → c < length rows → (x y : ℕ) → (q < c → x ≡ y) → cond (is_parent (row_of rows c).parent q) x 0 ≡ cond (is_parent (row_of rows c).parent q) y 0
child_same rows tree q c known x y same = go (row_of rows c).parent refl
  where
    go : (parent : Option LimitId) → (row_of rows c).parent ≡ parent → cond (is_parent parent q) x 0 ≡ cond (is_parent parent q) y 0
    go None is = refl
    go (Some r) is =
        elim (r.0 == q) as (λ b. (r.0 == q) ≡ b → cond b x 0 ≡ cond b y 0) [
          | true ↦ λ e. same (let lower = tree c r known is in grind (arith, nat_tests, lower, e))
          | false ↦ λ e. refl
        ] refl

pub neither : (b : Bool) → ◌≡◌ {A = ℕ} (cond b 0 0) 0
neither true = refl
neither false = refl

-- children come after their parent
pub child_after : (rows : List LimitRow) → IsTree rows → (q c : ℕ) → c < length rows → (x : ℕ) → (q < c → x ≡ 0) → cond (is_parent (row_of rows c).parent q) x 0 ≡ 0
child_after rows tree q c known x none = child_same rows tree q c known x 0 none ∙ neither (is_parent (row_of rows c).parent q)

pub soft_same_after : (rows : List LimitRow) → IsTree rows → (f g : ℕ → ℕ) (q : ℕ) → ((c : ℕ) → q < c → c < length rows → f c ≡ g c) → soft rows f q ≡ soft rows g q
soft_same_after rows tree f g q same =
    soft_all rows f q ∙ same_below _ _ 0 (length rows) (λ c below. at c (omega (arith, below))) ∙ sym (soft_all rows g q)
  where
    at : (c : ℕ) → c < length rows → cond (is_parent (row_of rows c).parent q) (cond (row_of rows c).hard 0 (f c)) 0 ≡ cond (is_parent (row_of rows c).parent q) (cond (row_of rows c).hard 0 (g c)) 0
    at c known = child_same rows tree q c known (cond (row_of rows c).hard 0 (f c)) (cond (row_of rows c).hard 0 (g c)) (λ after. ap (λ n. cond (row_of rows c).hard 0 n) (same c after known))

-- how often q stands on the path of m
abbrev pub on_path : List LimitRow → ℕ → ℕ → ℕ → ℕ
on_path rows depth m q = times_on (path_within rows depth m) q

on_path_step : (rows : List LimitRow) (depth m : ℕ) (b : Bool) (o : Option LimitId) → (row_of rows m).hard ≡ b → (row_of rows m).parent ≡ o → (q : ℕ) →
    on_path rows (suc depth) m q ≡ bit (m == q) + times_on (path_above (path_within rows depth) b o) q
unfolding path_within
on_path_step rows depth m b o h e q = ap₂ (λ b o. bit (m == q) + times_on (path_above (path_within rows depth) b o) q) h e

-- a limit stands on the path of m where it is m, and as often as its soft children do
pub path_counts : (rows : List LimitRow) → IsTree rows → (depth m q : ℕ) → m < depth → m < length rows → on_path rows depth m q ≡ bit (q == m) + soft rows (on_path rows depth m) q
path_counts rows tree zero m q deep known = absurd (omega arith)
path_counts rows tree (suc depth) m q deep known = go (row_of rows m).hard (row_of rows m).parent refl refl (path_counts rows tree depth)
  where
    alone : ((c : ℕ) → on_path rows (suc depth) m c ≡ bit (m == c) + 0) → is_soft_child rows q m ≡ false → on_path rows (suc depth) m q ≡ bit (q == m) + soft rows (on_path rows (suc depth) m) q
    alone same none =
        let each : (c : ℕ) → on_path rows (suc depth) m c ≡ bit (c == m) = λ c. omega (arith, same c, bit_turned m c) in
        let all = ap (λ f. soft rows f q) (fun_ext each) in
        let one = soft_one rows m q known in
        let none' = ap bit none in
        omega (arith, each q, all, one, none')

    go : (b : Bool) (o : Option LimitId) → (row_of rows m).hard ≡ b → (row_of rows m).parent ≡ o →
        ((r q : ℕ) → r < depth → r < length rows → on_path rows depth r q ≡ bit (q == r) + soft rows (on_path rows depth r) q) →
        on_path rows (suc depth) m q ≡ bit (q == m) + soft rows (on_path rows (suc depth) m) q
    go true o h e ih = alone (on_path_step rows depth m true o h e) (not_soft_hard rows q m h)
    go false None h e ih = alone (on_path_step rows depth m false None h e) (not_soft_top rows q m e)
    go false (Some r) h e ih =
        let lower = tree m r known e in
        let step = on_path_step rows depth m false (Some r) h e in
        let each : (c : ℕ) → on_path rows (suc depth) m c ≡ bit (c == m) + on_path rows depth r.0 c = λ c. omega (arith, step c, bit_turned m c) in
        let all = soft_both rows (λ c. bit (c == m)) (on_path rows depth r.0) (on_path rows (suc depth) m) q each in
        let one = soft_one rows m q known in
        let child = ap bit (soft_child rows q m r h e) in
        let turned = bit_turned r.0 q in
        let before = ih r.0 q (omega arith) (omega arith) in
        omega (arith, each q, all, one, child, turned, before)

-- a charge at m counts as often as the limit stands on its path
pub counted_is : (rows : List LimitRow) → IsTree rows → (m : ℕ) → m < length rows → (depth q : ℕ) → length rows ≤ depth + q → counted rows m depth q ≡ on_path rows (length rows) m q
unfolding counted soft
counted_is rows tree m known zero q deep = sym (path_low rows tree (length rows) m q known (omega arith))
counted_is rows tree m known (suc depth) q deep =
    let children_same = soft_same_after rows tree (counted rows m depth) (on_path rows (length rows) m) q (λ c after _. counted_is rows tree m known depth c (omega (arith, after, deep))) in
    let path = path_counts rows tree (length rows) m q known known in
    omega (arith, children_same, path)

-- where n more is charged at m, the use of q is n more for each time that q stands on the path of m
pub use_charged : (rows : List LimitRow) → IsTree rows → (m : ℕ) → m < length rows → (d e : ℕ → ℕ) (n : ℕ) → ((q : ℕ) → e q ≡ d q + n * bit (q == m)) → (q : ℕ) →
    use_within rows e (length rows) q ≡ use_within rows d (length rows) q + n * on_path rows (length rows) m q
use_charged rows tree m known d e n at q =
    use_added rows m d e n at (length rows) q ∙ ap (λ k. use_within rows d (length rows) q + n * k) (counted_is rows tree m known (length rows) q (omega arith))

-- the use of a limit is whole at any depth that is enough
pub use_deep : (rows : List LimitRow) → IsTree rows → (d : ℕ → ℕ) (depth more q : ℕ) → q < length rows → length rows ≤ depth + q → length rows ≤ more + q → use_within rows d depth q ≡ use_within rows d more q
unfolding use_within
use_deep rows tree d zero more q inside deep deeper = absurd (omega (arith, inside, deep))
use_deep rows tree d (suc depth) zero q inside deep deeper = absurd (omega (arith, inside, deeper))
use_deep rows tree d (suc depth) (suc more) q inside deep deeper =
    let f : ℕ → ℕ = λ c. cond (row_of rows c).hard (max_of rows c) (use_within rows d depth c) in
    let g : ℕ → ℕ = λ c. cond (row_of rows c).hard (max_of rows c) (use_within rows d more c) in
    let left = sum-filter (λ c. is_parent (row_of rows c).parent q) f (numbers_below (length rows)) in
    let right = sum-filter (λ c. is_parent (row_of rows c).parent q) g (numbers_below (length rows)) in
    let same = same_below (λ c. cond (is_parent (row_of rows c).parent q) (f c) 0) (λ c. cond (is_parent (row_of rows c).parent q) (g c) 0) 0 (length rows)
    (λ c below. child_same rows tree q c (omega (arith, below)) (f c) (g c) (λ after. ap (λ used. cond (row_of rows c).hard (max_of rows c) used) (use_deep rows tree d depth more c (omega (arith, below)) (omega (arith, after, deep)) (omega (arith, after, deeper))))) in
    omega (arith, left, right, same)
