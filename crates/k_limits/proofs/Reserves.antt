-- A row is put after the others: what its reservation does to the uses.
use Rattle.std.proofs.Common.{◌≡◌, ℕ, zero, suc, ◌+◌, ◌*◌, ◌^◌, ◌<◌, ◌≤◌, ◌==◌, ◌&&◌, Bool, true, false, cond, refl, ap, ap₂, ◌∙◌, sym, List, [], ◌∷◌, ◌++◌, length, find, slice_index, Option, Some, None, is_some, arith, eq-eqb, ne_eqb, inl, inr, zero-le}
use Rattle.std.proofs.Math.Path.{fun_ext}
use Rattle.std.proofs.lemmas.Bool.{cases_eq}
use Rattle.std.proofs.lemmas.List.{get_or_append_left, get_or-append-add, get_or_past}
use Rattle.k_types.specs.Totals.{total}
use Rattle.k_types.specs.Numbers.{numbers_from, numbers_below}
use Rattle.k_types.specs.declared.names.LimitId.{LimitId}
use Rattle.k_types.specs.declared.setup.LimitRow.{LimitRow}
use Rattle.k_types.specs.Trace.{row_of, no_row}
use Rattle.k_types.specs.TraceRules.{IsTree}
use Rattle.k_types.specs.Limits.{use_within, max_of, is_parent}
use Rattle.k_limits.specs.Limits.{ChargedLimits, charged_limits, use_at, is_full_at}
use Rattle.k_limits.specs.Rows.{AreRows, is_refused, is_parent_full}
use Rattle.k_limits.specs.Paths.{InRows, is_over, path_from, reserved_from, times_on, AreUses}
use Rattle.k_types.proofs.Sums.{bit, sum-filter, same_below, zeros, total_append}
use Rattle.k_types.proofs.Lists.{length_push, numbers_push}
use Rattle.k_limits.proofs.Charges.{neither, child_after, use_charged, use_deep}
use Rattle.k_limits.proofs.Uses.{cases_lt, use_small, found_full, raise_small, room_for}

numbers_more : (first n : ℕ) → numbers_from first (n + 1) ≡ numbers_from first n ++ (first + n) ∷ []
numbers_more first n = let next : n + 1 ≡ suc n = omega arith in ap (λ (k : ℕ). numbers_from first k) next ∙ numbers_push first n

pub row_before : (rows : List LimitRow) (row : LimitRow) (c : ℕ) → c < length rows → row_of (rows ++ row ∷ []) c ≡ row_of rows c
row_before rows row c before = get_or_append_left rows (row ∷ []) no_row c before

pub row_last : (rows : List LimitRow) (row : LimitRow) → row_of (rows ++ row ∷ []) (length rows) ≡ row
row_last rows row = let e : length rows ≡ length rows + 0 = omega arith in ap (row_of (rows ++ row ∷ [])) e ∙ get_or-append-add rows (row ∷ []) 0 no_row

-- what a hard row reserves at its parent
abbrev pub reservation : LimitRow → ℕ → ℕ
reservation row q = cond (is_parent row.parent q) (cond row.hard row.max 0) 0

module _ (rows : List LimitRow) (row : LimitRow) (tree : IsTree (rows ++ row ∷ [])) where
  pub tree_before : IsTree rows
  tree_before m parent known is =
      tree m parent (let more = length_push rows row in omega (arith, known, more)) (ap (λ (r : LimitRow). r.parent) (row_before rows row m known) ∙ is)

  pub parent_before : InRows rows row.parent
  parent_before = go row.parent refl
    where
      go : (parent : Option LimitId) → row.parent ≡ parent → InRows rows parent
      go None is = tt
      go (Some r) is = tree (length rows) r (let more = length_push rows row in omega (arith, more)) (ap (λ (x : LimitRow). x.parent) (row_last rows row) ∙ is)

  pub reserved_in : InRows rows (reserved_from row)
  reserved_in = elim row.hard as (λ b. InRows rows (cond b row.parent None)) [ true ↦ parent_before | false ↦ tt ]

  module _ (d : ℕ → ℕ) (none : d (length rows) ≡ 0) where
    -- a child's part in its parent's use
    part_of : List LimitRow → (ℕ → ℕ) → ℕ → ℕ → ℕ
    part_of all e depth c = cond (row_of all c).hard (max_of all c) (use_within all e depth c)

    -- nothing is used at the last row
    pub use_last : (depth : ℕ) → use_within (rows ++ row ∷ []) d depth (length rows) ≡ 0
    unfolding use_within part_of
    use_last zero = refl
    use_last (suc depth) =
        let all = rows ++ row ∷ [] in
        let others = same_below (λ c. cond (is_parent (row_of all c).parent (length rows)) (part_of all d depth c) 0) (λ c. 0) 0 (length all)
        (λ c below. child_after all tree (length rows) c (omega (arith, below)) (part_of all d depth c) (λ after. absurd (let more = length_push rows row in omega (arith, below, after, more)))) in
        let sums = sum-filter (λ c. is_parent (row_of all c).parent (length rows)) (part_of all d depth) (numbers_below (length all)) in
        let nothing = zeros (numbers_below (length all)) in
        omega (arith, none, sums, others, nothing)

    -- the uses of the others are as if the reservation were charged at the parent
    pub use_before : (depth q : ℕ) → q < length rows → use_within (rows ++ row ∷ []) d depth q ≡ use_within rows (λ q. d q + reservation row q) depth q
    unfolding use_within part_of
    use_before zero q inside = refl
    use_before (suc depth) q inside =
        let all = rows ++ row ∷ [] in
        let e : ℕ → ℕ = λ q. d q + reservation row q in
        let sums = sum-filter (λ c. is_parent (row_of all c).parent q) (part_of all d depth) (numbers_below (length all)) in
        let numbers = ap (λ ns. total (λ c. cond (is_parent (row_of all c).parent q) (part_of all d depth c) 0) ns) (ap numbers_below (length_push rows row) ∙ numbers_more 0 (length rows)) in
        let split = total_append (λ c. cond (is_parent (row_of all c).parent q) (part_of all d depth c) 0) (numbers_below (length rows)) ((0 + length rows) ∷ []) in
        let before = same_below (λ c. cond (is_parent (row_of all c).parent q) (part_of all d depth c) 0) (λ c. cond (is_parent (row_of rows c).parent q) (part_of rows e depth c) 0) 0 (length rows)
        (λ c below. same_part depth c q (omega (arith, below)) (use_before depth c)) in
        let after = sum-filter (λ c. is_parent (row_of rows c).parent q) (part_of rows e depth) (numbers_below (length rows)) in
        let last = last_part depth q in
        omega (arith, sums, numbers, split, before, after, last)
      where
        same_part : (depth c q : ℕ) → c < length rows → (c < length rows → use_within (rows ++ row ∷ []) d depth c ≡ use_within rows (λ q. d q + reservation row q) depth c) →
            cond (is_parent (row_of (rows ++ row ∷ []) c).parent q) (cond (row_of (rows ++ row ∷ []) c).hard (max_of (rows ++ row ∷ []) c) (use_within (rows ++ row ∷ []) d depth c)) 0
            ≡ cond (is_parent (row_of rows c).parent q) (cond (row_of rows c).hard (max_of rows c) (use_within rows (λ q. d q + reservation row q) depth c)) 0
        same_part depth c q known ih =
            ap₂ (λ (r : LimitRow) (used : ℕ). cond (is_parent r.parent q) (cond r.hard r.max used) 0) (row_before rows row c known) (ih known)

        last_part : (depth q : ℕ) → cond (is_parent (row_of (rows ++ row ∷ []) (0 + length rows)).parent q) (cond (row_of (rows ++ row ∷ []) (0 + length rows)).hard (max_of (rows ++ row ∷ []) (0 + length rows)) (use_within (rows ++ row ∷ []) d depth (0 + length rows))) 0 ≡ reservation row q
        last_part depth q =
            let e : 0 + length rows ≡ length rows = omega arith in
            ap₂ (λ (r : LimitRow) (used : ℕ). cond (is_parent r.parent q) (cond r.hard r.max used) 0) (ap (row_of (rows ++ row ∷ [])) e ∙ row_last rows row) (ap (use_within (rows ++ row ∷ []) d depth) e ∙ use_last depth)

-- the facts on a walk, where there may be no limit to walk from
module _ (limits : ChargedLimits) (uses : List ℕ) (kept : AreUses limits uses) where
  pub found_from : (from : Option LimitId) → InRows limits.rows from → (n : ℕ) → find (is_over limits.rows uses n) (path_from limits.rows from) ≡ find (is_full_at limits n) (path_from limits.rows from)
  found_from None inside n = refl
  found_from (Some r) inside n = found_full limits uses kept r.0 inside n

  pub raise_small_from : (from : Option LimitId) → InRows limits.rows from → (n : ℕ) → n < 2 ^ 40 → (m : ℕ) → m < length limits.rows → slice_index uses m + n * times_on (path_from limits.rows from) m < 2 ^ 64
  raise_small_from None inside n small m known = omega (arith, use_small limits uses kept m known)
  raise_small_from (Some r) inside n small m known = raise_small limits uses kept r.0 inside n small m known

  pub room_from : (from : Option LimitId) → InRows limits.rows from → (n : ℕ) → find (is_full_at limits n) (path_from limits.rows from) ≡ None → (m : ℕ) → m < length limits.rows →
      use_at limits m + n * times_on (path_from limits.rows from) m ≤ max_of limits.rows m
  room_from None inside n none m known = omega (arith, kept.fit m known)
  room_from (Some r) inside n none m known = room_for limits kept.rows.tree r.0 inside kept.fit n none m known

-- a row is refused where a limit on the path of its reservation is full
pub refused_is : (limits : ChargedLimits) (row : LimitRow) → is_refused limits row ≡ is_some (find (is_full_at limits row.max) (path_from limits.rows (reserved_from row)))
refused_is limits row = go row.hard row.parent
  where
    go : (hard : Bool) (parent : Option LimitId) → (hard && is_parent_full limits parent row.max) ≡ is_some (find (is_full_at limits row.max) (path_from limits.rows (cond hard parent None)))
    go true None = refl
    go true (Some r) = refl
    go false parent = refl

-- past a list, and at a 0 put after it, a read gives 0
past_zero : (xs : List ℕ) (q : ℕ) → length xs ≤ q → slice_index (xs ++ 0 ∷ []) q ≡ 0
past_zero [] zero past = refl
past_zero [] (suc q) past = get_or_past {X = ℕ} [] q 0 zero-le
past_zero (x ∷ xs) zero past = absurd (omega (arith, past))
past_zero (x ∷ xs) (suc q) past = past_zero xs q (omega (arith, past))

module _ (limits : ChargedLimits) (row : LimitRow) (tree : IsTree (limits.rows ++ row ∷ [])) (charges : length limits.direct ≡ length limits.rows) where
  direct_same : (q : ℕ) → slice_index (limits.direct ++ 0 ∷ []) q ≡ slice_index limits.direct q
  direct_same q =
      elim (cases_lt q (length limits.direct)) [
        | inl before ↦ get_or_append_left limits.direct (0 ∷ []) 0 q before
        | inr after ↦ past_zero limits.direct q after ∙ sym (get_or_past limits.direct q 0 after)
      ]

  -- what the reservation adds to each use
  pub use_reserved : (m : ℕ) → m < length limits.rows → use_at (charged_limits (limits.rows ++ row ∷ []) (limits.direct ++ 0 ∷ [])) m ≡ use_at limits m + row.max * times_on (path_from limits.rows (reserved_from row)) m
  use_reserved m known =
      let more = length_push limits.rows row in
      use_before limits.rows row tree (slice_index (limits.direct ++ 0 ∷ [])) (direct_same (length limits.rows) ∙ get_or_past limits.direct (length limits.rows) 0 (omega (arith, charges))) (length (limits.rows ++ row ∷ [])) m known
      ∙ use_deep limits.rows (tree_before limits.rows row tree) (λ q. slice_index (limits.direct ++ 0 ∷ []) q + reservation row q) (length (limits.rows ++ row ∷ [])) (length limits.rows) m known (omega (arith, more)) (omega arith)
      ∙ go row.hard row.parent (parent_before limits.rows row tree)
    where
      same_uses : (e : ℕ → ℕ) → ((q : ℕ) → e q ≡ slice_index limits.direct q) → use_within limits.rows e (length limits.rows) m ≡ use_at limits m + row.max * 0
      same_uses e same = let all = ap (λ d. use_within limits.rows d (length limits.rows) m) (fun_ext same) in omega (arith, all)

      go : (hard : Bool) (parent : Option LimitId) → InRows limits.rows parent →
          use_within limits.rows (λ q. slice_index (limits.direct ++ 0 ∷ []) q + cond (is_parent parent q) (cond hard row.max 0) 0) (length limits.rows) m
          ≡ use_at limits m + row.max * times_on (path_from limits.rows (cond hard parent None)) m
      go true None inside = same_uses (λ q. slice_index (limits.direct ++ 0 ∷ []) q + 0) (λ q. omega (arith, direct_same q))
      go true (Some r) inside =
          use_charged limits.rows (tree_before limits.rows row tree) r.0 inside (slice_index limits.direct) (λ q. slice_index (limits.direct ++ 0 ∷ []) q + cond (r.0 == q) row.max 0) row.max (λ q. at_parent q) m
        where
          at_parent : (q : ℕ) → slice_index (limits.direct ++ 0 ∷ []) q + cond (r.0 == q) row.max 0 ≡ slice_index limits.direct q + row.max * bit (q == r.0)
          at_parent q =
              elim (cases_eq r.0 q) [
                | inl e ↦ (let here = ap (λ b. cond b row.max 0) (eq-eqb r.0 q e) in let once = ap (λ b. row.max * bit b) (eq-eqb q r.0 (sym e)) in omega (arith, direct_same q, here, once))
                | inr ne ↦ (let here = ap (λ b. cond b row.max 0) (ne_eqb r.0 q ne) in let once = ap (λ b. row.max * bit b) (ne_eqb q r.0 (λ e. ne (sym e))) in omega (arith, direct_same q, here, once))
              ]
      go false None inside = same_uses (λ q. slice_index (limits.direct ++ 0 ∷ []) q + 0) (λ q. omega (arith, direct_same q))
      go false (Some r) inside = same_uses (λ q. slice_index (limits.direct ++ 0 ∷ []) q + cond (r.0 == q) 0 0) (λ q. let nothing = neither (r.0 == q) in omega (arith, direct_same q, nothing))

  pub use_of_last : use_at (charged_limits (limits.rows ++ row ∷ []) (limits.direct ++ 0 ∷ [])) (length limits.rows) ≡ 0
  use_of_last = use_last limits.rows row tree (slice_index (limits.direct ++ 0 ∷ [])) (direct_same (length limits.rows) ∙ get_or_past limits.direct (length limits.rows) 0 (omega (arith, charges))) (length (limits.rows ++ row ∷ []))

module _ (limits : ChargedLimits) (uses : List ℕ) (kept : AreUses limits uses) (row : LimitRow) (fine : AreRows (limits.rows ++ row ∷ [])) where
  pub max_small : row.max < 2 ^ 40
  max_small =
      let small = fine.small (length limits.rows) (let more = length_push limits.rows row in omega (arith, more)) in
      let last = ap (λ (r : LimitRow). r.max) (row_last limits.rows row) in omega (arith, small, last)

  pub added : (uses' : List ℕ) → length limits.rows + 1 < 2 ^ 32 → find (is_full_at limits row.max) (path_from limits.rows (reserved_from row)) ≡ None → length uses' ≡ length uses
      → ((m : ℕ) → m < length limits.rows → slice_index uses' m ≡ slice_index uses m + row.max * times_on (path_from limits.rows (reserved_from row)) m)
      → AreUses (charged_limits (limits.rows ++ row ∷ []) (limits.direct ++ 0 ∷ [])) (uses' ++ 0 ∷ [])
  added uses' few none same raised = record {
    rows = fine;
    few = let more = length_push limits.rows row in omega (arith, few, more);
    charges = (let more = length_push limits.rows row in let also = length_push limits.direct 0 in omega (arith, more, also, kept.charges));
    all = (let more = length_push limits.rows row in let also = length_push uses' 0 in omega (arith, more, also, same, kept.all));
    each = each';
    fit = fit';
  }
    where
      at_last : (m : ℕ) → length limits.rows ≤ m → m < length (limits.rows ++ row ∷ []) → m ≡ length limits.rows
      at_last m after inside = let more = length_push limits.rows row in omega (arith, after, inside, more)

      each' : (m : ℕ) → m < length (limits.rows ++ row ∷ []) → slice_index (uses' ++ 0 ∷ []) m ≡ use_at (charged_limits (limits.rows ++ row ∷ []) (limits.direct ++ 0 ∷ [])) m
      each' m inside =
          elim (cases_lt m (length limits.rows)) [
            | inl before ↦ (let read = get_or_append_left uses' (0 ∷ []) 0 m (omega (arith, before, same, kept.all)) in omega (arith, read, raised m before, kept.each m before, use_reserved limits row fine.tree kept.charges m before))
            | inr after ↦ past_zero uses' m (omega (arith, after, same, kept.all)) ∙ sym (ap (use_at (charged_limits (limits.rows ++ row ∷ []) (limits.direct ++ 0 ∷ []))) (at_last m after inside) ∙ use_of_last limits row fine.tree kept.charges)
          ]

      fit' : (m : ℕ) → m < length (limits.rows ++ row ∷ []) → use_at (charged_limits (limits.rows ++ row ∷ []) (limits.direct ++ 0 ∷ [])) m ≤ max_of (limits.rows ++ row ∷ []) m
      fit' m inside =
          elim (cases_lt m (length limits.rows)) [
            | inl before ↦ (let max = ap (λ (r : LimitRow). r.max) (row_before limits.rows row m before) in omega (arith, max, use_reserved limits row fine.tree kept.charges m before, room_from limits uses kept (reserved_from row) (reserved_in limits.rows row fine.tree) row.max none m before))
            | inr after ↦ (let nothing = ap (use_at (charged_limits (limits.rows ++ row ∷ []) (limits.direct ++ 0 ∷ []))) (at_last m after inside) ∙ use_of_last limits row fine.tree kept.charges in omega (arith, nothing))
          ]
