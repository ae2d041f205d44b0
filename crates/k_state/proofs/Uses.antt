-- The uses of limits, added up from the last limit to the first.
use Rattle.std.proofs.Common.{◌≡◌, ℕ, zero, suc, ◌+◌, ◌-◌, ◌<◌, ◌≤◌, ◌==◌, ◌^◌, cond, true, false, refl, ap, ap₂, sym, ◌∙◌, List, length, get_or, set, Option, Some, None, arith, ne_eqb}
use Rattle.std.specs.Prelude.{filter, min}
use Rattle.std.proofs.lemmas.Bool.Decides.{nat_tests}
use Rattle.k_types.specs.declared.setup.LimitRow.{LimitRow}
use Rattle.k_types.specs.declared.names.LimitId.{LimitId}
use Rattle.k_types.specs.Totals.{total}
use Rattle.k_types.specs.Numbers.{numbers_below, numbers_from}
use Rattle.k_types.specs.Trace.{Trace, limit_of, process_count, row_of}
use Rattle.k_types.specs.TraceRules.{IsTree}
use Rattle.k_types.specs.Limits.{direct_by, is_parent, max_of, use_within}
use Rattle.k_laws.proofs.Sums.{same_below, sum-filter, zeros}
use Rattle.k_state.specs.Sums.{AreSums}
use Rattle.k_state.proofs.Added.{neither, sums_added, sums_same}
use Rattle.k_state.proofs.Sums.{numbers_sum_left, numbers_sum_over}

-- what a child adds to the use of its parent
abbrev pub child_use : List LimitRow → (ℕ → ℕ) → ℕ → ℕ → ℕ
child_use rows direct depth c = cond (row_of rows c).hard (max_of rows c) (use_within rows direct depth c)

-- what the children from c on add
abbrev pub uses_left : List LimitRow → (ℕ → ℕ) → ℕ → ℕ → ℕ → ℕ
uses_left rows direct depth m c =
    total (child_use rows direct depth) (filter (λ k. is_parent (row_of rows k).parent m) (numbers_from c (length rows - c)))

pub uses_begin : (rows : List LimitRow) (direct : ℕ → ℕ) (depth m : ℕ) → use_within rows direct (suc depth) m ≡ direct m + uses_left rows direct depth m 0
unfolding use_within
uses_begin rows direct depth m =
    let all : length rows ≡ length rows - 0 = omega arith in
    ap (λ n. direct m + total (child_use rows direct depth) (filter (λ k. is_parent (row_of rows k).parent m) (numbers_from 0 n))) all

pub uses_next : (rows : List LimitRow) (direct : ℕ → ℕ) (depth m c : ℕ) → c < length rows →
    uses_left rows direct depth m c ≡ cond (is_parent (row_of rows c).parent m) (child_use rows direct depth c) 0 + uses_left rows direct depth m (c + 1)
uses_next rows direct depth m c inside =
    numbers_sum_left (child_use rows direct depth) (λ k. is_parent (row_of rows k).parent m) c (length rows) inside

pub uses_over : (rows : List LimitRow) (direct : ℕ → ℕ) (depth m c : ℕ) → length rows ≤ c → uses_left rows direct depth m c ≡ 0
uses_over rows direct depth m c past =
    numbers_sum_over (child_use rows direct depth) (λ k. is_parent (row_of rows k).parent m) c (length rows) past

module _ (rows : List LimitRow) (tree : IsTree rows) where
  -- what is said of a child needs to be so after the parent alone
  child_same : (q c x y : ℕ) → c < length rows → (q < c → x ≡ y) → cond (is_parent (row_of rows c).parent q) x 0 ≡ cond (is_parent (row_of rows c).parent q) y 0
  child_same q c x y known same = go (row_of rows c).parent refl
    where
      go : (parent : Option LimitId) → (row_of rows c).parent ≡ parent → cond (is_parent parent q) x 0 ≡ cond (is_parent parent q) y 0
      go None is = refl
      go (Some r) is =
          elim (r.0 == q) as (λ b. (r.0 == q) ≡ b → cond b x 0 ≡ cond b y 0) [
            | true ↦ λ e. same (let lower = tree c r known is in grind (arith, nat_tests, lower, e))
            | false ↦ λ e. refl
          ] refl

  module _ (direct : ℕ → ℕ) where
    -- the children of a limit come after it
    children_after : (depth m c k : ℕ) → c + k ≡ m + 1 → m < length rows → uses_left rows direct depth m c ≡ uses_left rows direct depth m (m + 1)
    children_after depth m c zero last inside = let here : c ≡ m + 1 = omega (arith, last) in ap (uses_left rows direct depth m) here
    children_after depth m c (suc k) last inside =
        let next = uses_next rows direct depth m c (omega (arith, last, inside)) in
        let none = child_same m c (child_use rows direct depth c) 0 (omega (arith, last, inside)) (λ after. absurd (omega (arith, after, last))) ∙ neither (is_parent (row_of rows c).parent m) in
        let rest = children_after depth m (c + 1) k (omega (arith, last)) inside in
        omega (arith, next, none, rest)

    mutual_left : (depth more m c k : ℕ) → c + k ≡ length rows →
        ((q : ℕ) → m < q → q < length rows → use_within rows direct depth q ≡ use_within rows direct more q) →
        uses_left rows direct depth m c ≡ uses_left rows direct more m c
    mutual_left depth more m c zero last same =
        uses_over rows direct depth m c (omega (arith, last)) ∙ sym (uses_over rows direct more m c (omega (arith, last)))
    mutual_left depth more m c (suc k) last same =
        let inside : c < length rows = omega (arith, last) in
        let here = uses_next rows direct depth m c inside in
        let there = uses_next rows direct more m c inside in
        let child = child_same m c (child_use rows direct depth c) (child_use rows direct more c) inside (λ after. ap (λ n. cond (row_of rows c).hard (max_of rows c) n) (same c after inside)) in
        let rest = mutual_left depth more m (c + 1) k (omega (arith, last)) same in
        omega (arith, here, there, child, rest)

    -- the use of a limit is whole at any depth that is enough
    pub use_deep : (depth more q : ℕ) → q < length rows → length rows ≤ depth + q → length rows ≤ more + q → use_within rows direct depth q ≡ use_within rows direct more q
    use_deep zero more q inside deep deeper = absurd (omega (arith, inside, deep))
    use_deep (suc depth) zero q inside deep deeper = absurd (omega (arith, inside, deeper))
    use_deep (suc depth) (suc more) q inside deep deeper =
        let one = uses_begin rows direct depth q in
        let other = uses_begin rows direct more q in
        let same = mutual_left depth more q 0 (length rows) (omega arith)
        (λ c after known. use_deep depth more c known (omega (arith, after, deep)) (omega (arith, after, deeper))) in
        omega (arith, one, other, same)

    -- once all limits behind it are counted, a limit's use is whole
    pub use_whole : (m c : ℕ) → m < length rows → c ≤ m + 1 → direct m + uses_left rows direct (length rows) m c ≡ use_within rows direct (length rows) m
    use_whole m c inside before =
        let first = uses_begin rows direct (length rows) m in
        let deep = use_deep (suc (length rows)) (length rows) m inside (omega arith) (omega arith) in
        let here = children_after (length rows) m c (m + 1 - c) (omega (arith, before)) inside in
        let all = children_after (length rows) m 0 (m + 1) (omega arith) inside in
        omega (arith, first, deep, here, all)

    -- one limit more from the right: what it adds is added to its parent
    uses_up : (c m used : ℕ) (row : LimitRow) → c < length rows → row ≡ row_of rows c → used ≡ use_within rows direct (length rows) c →
        direct m + uses_left rows direct (length rows) m c ≡ direct m + uses_left rows direct (length rows) m (c + 1) + cond (is_parent row.parent m) (cond row.hard row.max used) 0
    uses_up c m used row inside is whole =
        let next = uses_next rows direct (length rows) m c inside in
        let same : cond (is_parent (row_of rows c).parent m) (child_use rows direct (length rows) c) 0 ≡ cond (is_parent row.parent m) (cond row.hard row.max used) 0
        = ap₂ (λ (r : LimitRow) u. cond (is_parent r.parent m) (cond r.hard r.max u) 0) (sym is) (sym whole) in
        omega (arith, next, same)

    -- the uses as far as the last i limits have been counted
    abbrev pub counted_up : ℕ → ℕ → ℕ
    counted_up i m = direct m + uses_left rows direct (length rows) m (length rows - i)

    pub up_begins : (numbers : List ℕ) (n : ℕ) → AreSums numbers direct n → AreSums numbers (counted_up 0) n
    up_begins numbers n are =
        sums_same numbers direct (counted_up 0) n are (λ m low. let none = uses_over rows direct (length rows) m (length rows - 0) (omega arith) in omega (arith, none))

    pub up_ends : (numbers : List ℕ) (n i : ℕ) → n ≡ length rows → n ≤ i → AreSums numbers (counted_up i) n → AreSums numbers (use_within rows direct (length rows)) n
    up_ends numbers n i all past are =
        sums_same numbers (counted_up i) (use_within rows direct (length rows)) n are
        (λ m low. sym (use_whole m (length rows - i) (omega (arith, low, all)) (omega (arith, all, past))))

    module _ (numbers : List ℕ) (n i c : ℕ) (row : LimitRow) (all : n ≡ length rows) (inside : i < n) (at : c ≡ n - 1 - i) (is : row ≡ row_of rows c) (are : AreSums numbers (counted_up i) n) where
      -- the limit's own use is whole
      pub up_whole : get_or numbers c 0 ≡ min (use_within rows direct (length rows) c) (2 ^ 64 - 1)
      up_whole =
          let whole = use_whole c (length rows - i) (omega (arith, all, inside, at)) (omega (arith, all, inside, at)) in
          are c (omega (arith, inside, at)) ∙ ap (λ k. min k (2 ^ 64 - 1)) whole

      more : (m : ℕ) → counted_up (i + 1) m ≡ counted_up i m + cond (is_parent row.parent m) (cond row.hard row.max (use_within rows direct (length rows) c)) 0
      more m =
          let here : length rows - (i + 1) ≡ c = omega (arith, all, inside, at) in
          let behind : length rows - i ≡ c + 1 = omega (arith, all, inside, at) in
          ap (λ k. direct m + uses_left rows direct (length rows) m k) here
          ∙ uses_up c m (use_within rows direct (length rows) c) row (omega (arith, all, inside, at)) is refl
          ∙ ap (λ k. direct m + uses_left rows direct (length rows) m k + cond (is_parent row.parent m) (cond row.hard row.max (use_within rows direct (length rows) c)) 0) (sym behind)

      -- a limit with no parent adds nothing
      pub up_root : row.parent ≡ None → AreSums numbers (counted_up (i + 1)) n
      up_root root =
          sums_same numbers (counted_up i) (counted_up (i + 1)) n are
          (λ m low.
          let add = ap (λ p. cond (is_parent p m) (cond row.hard row.max (use_within rows direct (length rows) c)) 0) root in
          let grown = more m in
          omega (arith, grown, add))

      pub up_child : (parent : LimitId) (part : ℕ) → row.parent ≡ Some parent → row.max < 2 ^ 40 → parent.0 < length numbers → part ≡ cond row.hard row.max (get_or numbers c 0) →
          AreSums (set numbers parent.0 (min (get_or numbers parent.0 0 + part) (2 ^ 64 - 1))) (counted_up (i + 1)) n
      up_child parent part above small there adds =
          let whole = use_within rows direct (length rows) c in
          let least : cond row.hard row.max (get_or numbers c 0) ≡ min (cond row.hard row.max whole) (2 ^ 64 - 1)
          = elim row.hard as (λ b. cond b row.max (get_or numbers c 0) ≡ min (cond b row.max whole) (2 ^ 64 - 1)) [
            | true ↦ omega (arith, small)
            | false ↦ up_whole
          ] in
          sums_added numbers (counted_up i) (counted_up (i + 1)) n parent.0 (cond row.hard row.max whole) part are there (adds ∙ least)
          (λ m low. more m ∙ ap (λ p. counted_up i m + cond (is_parent p m) (cond row.hard row.max whole) 0) above)

    -- nothing is used where there is no limit
    none_left : (depth m c k : ℕ) → c + k ≡ length rows → length rows ≤ m → uses_left rows direct depth m c ≡ 0
    none_left depth m c zero last past = uses_over rows direct depth m c (omega (arith, last))
    none_left depth m c (suc k) last past =
        let inside : c < length rows = omega (arith, last) in
        let next = uses_next rows direct depth m c inside in
        let none = child_same m c (child_use rows direct depth c) 0 inside (λ after. absurd (omega (arith, after, inside, past))) ∙ neither (is_parent (row_of rows c).parent m) in
        let rest = none_left depth m (c + 1) k (omega (arith, last)) past in
        omega (arith, next, none, rest)

    pub use_past : (depth m : ℕ) → length rows ≤ m → direct m ≡ 0 → use_within rows direct depth m ≡ 0
    unfolding use_within
    use_past zero m past none = refl
    use_past (suc depth) m past none =
        let begin = uses_begin rows direct depth m in
        let left = none_left depth m 0 (length rows) (omega arith) past in
        omega (arith, begin, left, none)

-- nor is anything charged there
pub direct_past : (setup : Trace) (charge : ℕ → ℕ) (m : ℕ) → ((p : ℕ) → p < process_count setup → limit_of setup p < length setup.limits) → length setup.limits ≤ m → direct_by setup charge m ≡ 0
direct_past setup charge m limited past =
    sum-filter (λ p. limit_of setup p == m) charge (numbers_below (process_count setup))
    ∙ same_below (λ p. cond (limit_of setup p == m) (charge p) 0) (λ p. 0) 0 (process_count setup)
    (λ p low. let inside = limited p (omega (arith, low)) in ap (λ b. cond b (charge p) 0) (ne_eqb (limit_of setup p) m (λ e. absurd (omega (arith, e, inside, past)))))
    ∙ zeros (numbers_below (process_count setup))
