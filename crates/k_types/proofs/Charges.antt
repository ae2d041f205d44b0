-- A charge at a limit raises the uses on its path, each by that charge, and no other.
use Rattle.std.proofs.Common.{◌≡◌, ℕ, zero, suc, ◌+◌, ◌*◌, ◌<◌, ◌≤◌, ◌==◌, ◌||◌, ◌&&◌, not, Bool, true, false, cond, refl, ap, ap₂, ◌∙◌, List, [], ◌∷◌, length, Option, Some, None, arith, eqb-true, inl, inr, IsTrue, zero-le}
use Rattle.std.proofs.lemmas.Bool.{false≢true, or_cases, and_right}
use Rattle.k_types.specs.Totals.{total}
use Rattle.std.proofs.Math.Path.{fun_ext}
use Rattle.std.proofs.lemmas.Bool.Decides.{nat_tests}
use Rattle.k_types.specs.declared.names.LimitId.{LimitId}
use Rattle.k_types.specs.declared.setup.LimitRow.{LimitRow}
use Rattle.k_types.specs.Names.{among}
use Rattle.k_types.specs.Trace.{row_of, Trace, limit_of, process_count}
use Rattle.k_types.specs.Numbers.{numbers_below}
use Rattle.k_types.specs.TraceRules.{IsTree, AreLimits}
use Rattle.k_types.specs.Limits.{use_within, path_within, path_above, children, max_of, is_parent, direct_by, limits_in, use_of}
use Rattle.k_types.proofs.Sums.{bit, sum_same, sum_added, sum-filter, one_counts, passing_within}
use Rattle.k_types.specs.State.{State}
use Rattle.k_types.specs.Owners.{charge_of}
use Rattle.k_types.proofs.Maxima.{length_in}

pub or_none : (b : Bool) → (b || false) ≡ b
or_none true = refl
or_none false = refl

module _ (rows : List LimitRow) (m : ℕ) where
  -- how often a charge at m counts at q
  unfoldable pub counted : ℕ → ℕ → ℕ
  counted zero q = 0
  counted (suc depth) q = bit (q == m) + total (λ c. cond (row_of rows c).hard 0 (counted depth c)) (children rows q)

  pub use_added : (d e : ℕ → ℕ) (n : ℕ) → ((q : ℕ) → e q ≡ d q + n * bit (q == m)) → (depth q : ℕ) → use_within rows e depth q ≡ use_within rows d depth q + n * counted depth q
  unfolding use_within counted
  use_added d e n at zero q = omega arith
  use_added d e n at (suc depth) q =
      let inner = sum_same
      (λ c. cond (row_of rows c).hard (max_of rows c) (use_within rows e depth c))
      (λ c. cond (row_of rows c).hard (max_of rows c) (use_within rows d depth c) + n * cond (row_of rows c).hard 0 (counted depth c))
      (child_added d e n depth (use_added d e n at depth)) (children rows q) in
      let sums = sum_added (λ c. cond (row_of rows c).hard (max_of rows c) (use_within rows d depth c)) (λ c. cond (row_of rows c).hard 0 (counted depth c)) n (children rows q) in
      omega (arith, at q, inner, sums)
    where
      child_added : (d e : ℕ → ℕ) (n depth : ℕ) → ((q : ℕ) → use_within rows e depth q ≡ use_within rows d depth q + n * counted depth q) → (c : ℕ) →
          cond (row_of rows c).hard (max_of rows c) (use_within rows e depth c)
          ≡ cond (row_of rows c).hard (max_of rows c) (use_within rows d depth c) + n * cond (row_of rows c).hard 0 (counted depth c)
      child_added d e n depth ih c =
          elim (row_of rows c).hard as (λ b. cond b (max_of rows c) (use_within rows e depth c) ≡ cond b (max_of rows c) (use_within rows d depth c) + n * cond b 0 (counted depth c)) [
            | true ↦ omega arith
            | false ↦ ih c
          ]

-- the sum over soft children of q, of a count that is that of m and what the parent's path counts
unfoldable pub soft : List LimitRow → (ℕ → ℕ) → ℕ → ℕ
soft rows f q = total (λ c. cond (row_of rows c).hard 0 (f c)) (children rows q)

pub soft_less : (rows : List LimitRow) (f g : ℕ → ℕ) → ((c : ℕ) → f c ≤ g c) → (q : ℕ) →
    total (λ c. cond (row_of rows c).hard 0 (f c)) (children rows q) ≤ soft rows g q
unfolding soft
soft_less rows f g less q = go (children rows q)
  where
    at : (c : ℕ) → cond (row_of rows c).hard 0 (f c) ≤ cond (row_of rows c).hard 0 (g c)
    at c = elim (row_of rows c).hard as (λ b. cond b 0 (f c) ≤ cond b 0 (g c)) [ true ↦ zero-le | false ↦ less c ]

    go : (xs : List ℕ) → total (λ c. cond (row_of rows c).hard 0 (f c)) xs ≤ total (λ c. cond (row_of rows c).hard 0 (g c)) xs
    go [] = zero-le
    go (c ∷ xs) = omega (arith, at c, go xs)

-- m is a soft child of q
pub is_soft_child : List LimitRow → ℕ → ℕ → Bool
is_soft_child rows q m = not (row_of rows m).hard && is_parent (row_of rows m).parent q

soft_one_at : (rows : List LimitRow) (m q c : ℕ) →
    cond (is_parent (row_of rows c).parent q) (cond (row_of rows c).hard 0 (bit (c == m))) 0 ≡ cond (c == m) (bit (is_soft_child rows q c)) 0
unfolding is_soft_child
soft_one_at rows m q c = grind (arith, nat_tests)

pub soft_one : (rows : List LimitRow) (m q : ℕ) → m < length rows → soft rows (λ c. bit (c == m)) q ≡ bit (is_soft_child rows q m)
unfolding soft
soft_one rows m q known =
    sum-filter (λ c. is_parent (row_of rows c).parent q) (λ c. cond (row_of rows c).hard 0 (bit (c == m))) (numbers_below (length rows))
    ∙ sum_same _ _ (soft_one_at rows m q) (numbers_below (length rows))
    ∙ one_counts (λ c. bit (is_soft_child rows q c)) m 0 (length rows) (omega arith) (omega arith)

pub soft_both : (rows : List LimitRow) (f g h : ℕ → ℕ) (q : ℕ) → ((c : ℕ) → h c ≡ f c + g c) → soft rows h q ≡ soft rows f q + soft rows g q
unfolding soft
soft_both rows f g h q both = go (children rows q)
  where
    at : (c : ℕ) → cond (row_of rows c).hard 0 (h c) ≡ cond (row_of rows c).hard 0 (f c) + cond (row_of rows c).hard 0 (g c)
    at c = elim (row_of rows c).hard as (λ b. cond b 0 (h c) ≡ cond b 0 (f c) + cond b 0 (g c)) [ true ↦ omega arith | false ↦ both c ]

    go : (xs : List ℕ) → total (λ c. cond (row_of rows c).hard 0 (h c)) xs ≡ total (λ c. cond (row_of rows c).hard 0 (f c)) xs + total (λ c. cond (row_of rows c).hard 0 (g c)) xs
    go [] = omega arith
    go (c ∷ xs) = omega (arith, at c, go xs)

-- whether a charge at m is applied at q
abbrev pub on_path : List LimitRow → ℕ → ℕ → ℕ → ℕ
on_path rows depth m q = bit (among q (path_within rows depth m))

-- the path above m is empty, or that of its parent
pub above : List LimitRow → ℕ → ℕ → List ℕ
above rows depth m = path_above (path_within rows depth) (row_of rows m).hard (row_of rows m).parent

pub among_path : (rows : List LimitRow) (depth m q : ℕ) → among q (path_within rows (suc depth) m) ≡ ((m == q) || among q (above rows depth m))
unfolding path_within above
among_path rows depth m q = refl

-- what stands on the path of m is m or comes before it
pub path_low : (rows : List LimitRow) → IsTree rows → (depth m q : ℕ) → m < length rows → IsTrue (among q (path_within rows depth m)) → q ≤ m
unfolding path_within
path_low rows tree zero m q known t = absurd (false≢true t)
path_low rows tree (suc depth) m q known t =
    elim (or_cases (m == q) (among q (path_above (path_within rows depth) (row_of rows m).hard (row_of rows m).parent)) t) [
      | inl e ↦ let same = eqb-true m q e in omega arith
      | inr up ↦ go (row_of rows m).hard (row_of rows m).parent refl up (path_low rows tree depth)
    ]
  where
    go : (b : Bool) (o : Option LimitId) → (row_of rows m).parent ≡ o → IsTrue (among q (path_above (path_within rows depth) b o)) →
        ((r q : ℕ) → r < length rows → IsTrue (among q (path_within rows depth r)) → q ≤ r) → q ≤ m
    go true o e up ih = absurd (false≢true up)
    go false None e up ih = absurd (false≢true up)
    go false (Some r) e up ih = let lower = tree m r known e in omega (arith, ih r.0 q (omega arith) up)

-- the path of m counts m, and what the path of its parent counts, which doesn't count m
split_bit : (m q r : ℕ) (b : Bool) → (IsTrue b → q ≤ r) → r < m → bit ((m == q) || b) ≡ bit (q == m) + bit b
split_bit m q r b low lower = grind (arith, nat_tests, low)

pub above_is : (rows : List LimitRow) (depth m : ℕ) (b : Bool) (o : Option LimitId) → (row_of rows m).hard ≡ b → (row_of rows m).parent ≡ o →
    above rows depth m ≡ path_above (path_within rows depth) b o
unfolding above
above_is rows depth m b o h e = ap₂ (λ b o. path_above (path_within rows depth) b o) h e

pub bit_turned : (m q : ℕ) → bit (m == q) ≡ bit (q == m)
bit_turned m q = grind (arith, nat_tests)

pub not_soft_hard : (rows : List LimitRow) (q m : ℕ) → (row_of rows m).hard ≡ true → is_soft_child rows q m ≡ false
unfolding is_soft_child
not_soft_hard rows q m h = ap (λ b. not b && is_parent (row_of rows m).parent q) h

pub soft_child : (rows : List LimitRow) (q m : ℕ) (r : LimitId) → (row_of rows m).hard ≡ false → (row_of rows m).parent ≡ Some r → is_soft_child rows q m ≡ (r.0 == q)
unfolding is_soft_child
soft_child rows q m r h e = ap₂ (λ b o. not b && is_parent o q) h e

pub not_soft_top : (rows : List LimitRow) (q m : ℕ) → (row_of rows m).parent ≡ None → is_soft_child rows q m ≡ false
unfolding is_soft_child
not_soft_top rows q m e = ap (λ o. not (row_of rows m).hard && is_parent o q) e ∙ and_right _ _ refl

pub on_path_below : (rows : List LimitRow) → IsTree rows → (depth m : ℕ) (r : LimitId) → m < length rows → (row_of rows m).hard ≡ false → (row_of rows m).parent ≡ Some r → (c : ℕ) →
    on_path rows (suc depth) m c ≡ bit (c == m) + on_path rows depth r.0 c
on_path_below rows tree depth m r known h e c =
    let lower = tree m r known e in
    ap bit (among_path rows depth m c ∙ ap (λ xs. (m == c) || among c xs) (above_is rows depth m false (Some r) h e))
    ∙ split_bit m c r.0 (among c (path_within rows depth r.0)) (path_low rows tree depth r.0 c (omega arith)) lower

pub path_counts : (rows : List LimitRow) → IsTree rows → (depth m q : ℕ) → m < depth → m < length rows →
    on_path rows depth m q ≡ bit (q == m) + soft rows (on_path rows depth m) q
path_counts rows tree zero m q deep known = absurd (omega arith)
path_counts rows tree (suc depth) m q deep known = go (row_of rows m).hard (row_of rows m).parent refl refl (path_counts rows tree depth)
  where
    only : above rows depth m ≡ [] → (c : ℕ) → on_path rows (suc depth) m c ≡ bit (c == m)
    only nothing c = ap bit (among_path rows depth m c ∙ ap (λ xs. (m == c) || among c xs) nothing ∙ or_none (m == c)) ∙ bit_turned m c

    alone : ((c : ℕ) → on_path rows (suc depth) m c ≡ bit (c == m)) → is_soft_child rows q m ≡ false →
        on_path rows (suc depth) m q ≡ bit (q == m) + soft rows (on_path rows (suc depth) m) q
    alone same none =
        let all = ap (λ f. soft rows f q) (fun_ext same) in
        let one = soft_one rows m q known in
        let zero' = ap bit none in
        omega (arith, same q, all, one, zero')

    go : (b : Bool) (o : Option LimitId) → (row_of rows m).hard ≡ b → (row_of rows m).parent ≡ o →
        ((r q : ℕ) → r < depth → r < length rows → on_path rows depth r q ≡ bit (q == r) + soft rows (on_path rows depth r) q) →
        on_path rows (suc depth) m q ≡ bit (q == m) + soft rows (on_path rows (suc depth) m) q
    go true o h e ih = alone (only (above_is rows depth m true o h e)) (not_soft_hard rows q m h)
    go false None h e ih = alone (only (above_is rows depth m false None h e)) (not_soft_top rows q m e)
    go false (Some r) h e ih =
        let lower = tree m r known e in
        let each = on_path_below rows tree depth m r known h e in
        let all = soft_both rows (λ c. bit (c == m)) (on_path rows depth r.0) (on_path rows (suc depth) m) q each in
        let one = soft_one rows m q known in
        let child = ap bit (soft_child rows q m r h e) in
        let turned = bit_turned r.0 q in
        let before = ih r.0 q (omega arith) (omega arith) in
        omega (arith, each q, all, one, child, turned, before)

-- a charge at m counts once on the path of m, and nowhere else
pub counted_once : (rows : List LimitRow) → IsTree rows → (m : ℕ) → m < length rows → (depth q : ℕ) → counted rows m depth q ≤ on_path rows (length rows) m q
unfolding counted
counted_once rows tree m known zero q = zero-le
counted_once rows tree m known (suc depth) q =
    omega (arith, path_counts rows tree (length rows) m q known known, soft_less rows (counted rows m depth) (on_path rows (length rows) m) (counted_once rows tree m known depth) q)

-- what is charged at a limit is a part of its use
pub direct_within : (rows : List LimitRow) (d : ℕ → ℕ) (depth m : ℕ) → 0 < depth → d m ≤ use_within rows d depth m
unfolding use_within
direct_within rows d zero m deep = absurd (omega arith)
direct_within rows d (suc depth) m deep = omega arith

-- a process is charged no more than is used at its limit
pub charge_at_most : (trace : Trace) (st : State) (p : ℕ) → p < process_count trace → AreLimits trace → charge_of trace st p ≤ use_of trace st (limit_of trace p)
charge_at_most trace st p known rules =
    let limited = rules.limited p known in
    let long = length_in trace.limits st.maxima in
    let direct = direct_within (limits_in trace st) (direct_by trace (charge_of trace st)) (length (limits_in trace st)) (limit_of trace p) (omega arith) in
    let own : (limit_of trace p == limit_of trace p) ≡ true = grind (arith, nat_tests) in
    let here = passing_within (charge_of trace st) (λ q. limit_of trace q == limit_of trace p) p 0 (process_count trace) own (omega arith) (omega arith) in
    omega (arith, here, direct)
