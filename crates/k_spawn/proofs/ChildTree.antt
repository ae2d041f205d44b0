-- The limits of children in the translation: the row of each, whose limits are below it, and which limits are above it.
use Rattle.std.proofs.Common.{◌≡◌, ◌⊎◌, ◌∙◌, ℕ, zero, suc, ◌+◌, ◌-◌, ◌<◌, ◌≤◌, ◌==◌, ◌||◌, cond, List, length, map, Option, Some, sym, ap, subst, arith, inl, inr, le-leb, eq-eqb, IsTrue}
use Rattle.std.proofs.lemmas.Bool.{cases_lt, lt-leb, or_left, or_right}
use Rattle.std.proofs.lemmas.List.{get_or-append-add}
use Rattle.k_types.specs.declared.names.LimitId.{LimitId}
use Rattle.k_types.specs.declared.setup.LimitRow.{LimitRow}
use Rattle.k_types.specs.Limits.{ancestors_above, ancestors_within, is_ancestor}
use Rattle.k_types.specs.Names.{among}
use Rattle.k_types.specs.Trace.{limit_of, no_row, process_count, row_of}
use Rattle.k_types.specs.TraceRules.{IsTree}
use Rattle.k_types.proofs.Lists.{some_one, at_number}
use Rattle.k_spawn.specs.Families.{children, parent_of, place_of}
use Rattle.k_spawn.specs.Scripts.{Script, family, limit_for}
use Rattle.k_spawn.specs.Translation.{child_row, limit_id, translation}
use Rattle.k_spawn.proofs.ChildLimits.{AreLimited, limits_are}

module _ (s : Script) where
  -- how many processes and limits the header has, how many processes there are, and the limits of the translation
  abbrev pub first_child : ℕ
  first_child = process_count s.header.trace

  abbrev pub front : ℕ
  front = length s.header.trace.limits

  abbrev pub all_processes : ℕ
  all_processes = process_count s.header.trace + length s.parents

  abbrev pub rows : List LimitRow
  rows = (translation s).trace.limits

  pub child_limit : (c : ℕ) → first_child ≤ c → limit_for s c ≡ front + (c - first_child)
  child_limit c low = ap (λ b. cond b (front + place_of (family s) c) (limit_of s.header.trace c)) (le-leb first_child c low)

  pub header_limit : (p : ℕ) → p < first_child → limit_for s p ≡ limit_of s.header.trace p
  header_limit p less = ap (λ b. cond b (front + place_of (family s) p) (limit_of s.header.trace p)) (lt-leb first_child p less)

  -- each child has a limit of its own
  pub limit_same : AreLimited s → (c q : ℕ) → first_child ≤ c → limit_for s q ≡ limit_for s c → q ≡ c
  limit_same limited c q low same = elim (cases_lt q first_child) [
    | inl less ↦ absurd (
        let a : limit_for s c ≡ front + (c - first_child) = child_limit c low in
        let b : limit_for s q ≡ limit_of s.header.trace q = header_limit q less in
        let h : limit_of s.header.trace q < front = limited q less in
        let e : front + (c - first_child) ≡ limit_of s.header.trace q = sym a ∙ sym same ∙ b in
        omega (arith, e, h))
    | inr more ↦
        let e : front + (q - first_child) ≡ front + (c - first_child) = sym (child_limit q more) ∙ same ∙ child_limit c low in
        omega (arith, e, low, more)
  ]

  pub child_limit_known : (c : ℕ) → first_child ≤ c → c < all_processes → limit_for s c < length rows
  child_limit_known c low high = subst (λ n. limit_for s c < n) (sym (limits_are s)) (subst (λ n. n < front + length s.parents) (sym (child_limit c low)) (omega (arith, low, high)))

  pub row_is : (c : ℕ) → first_child ≤ c → c < all_processes → row_of rows (limit_for s c) ≡ child_row s c
  row_is c low high =
      let back : first_child + (c - first_child) ≡ c = omega (arith, low) in
      ap (row_of rows) (child_limit c low)
      ∙ get_or-append-add s.header.trace.limits (map (child_row s) (children (family s))) (c - first_child) no_row
      ∙ at_number (child_row s) first_child (length s.parents) (c - first_child) no_row (omega (arith, low, high))
      ∙ ap (child_row s) back

  pub parent_is : (c : ℕ) → first_child ≤ c → c < all_processes → (row_of rows (limit_for s c)).parent ≡ Some (limit_id s (parent_of (family s) c))
  parent_is c low high = ap (λ (row : LimitRow). row.parent) (row_is c low high)

  -- the limits under that of a child are those of its children
  pub limit_under : AreLimited s → IsTree rows → (c m : ℕ) → first_child ≤ c → m < length rows → (row_of rows m).parent ≡ Some (limit_id s c) →
      (d : ℕ) × (first_child ≤ d) × (d < all_processes) × (parent_of (family s) d ≡ c) × (m ≡ limit_for s d)
  limit_under limited tree c m low known e = elim (cases_lt m front) [
    | inl less ↦ absurd (
        let below : limit_for s c < m = tree m (limit_id s c) known e in
        let a : limit_for s c ≡ front + (c - first_child) = child_limit c low in
        let under : front + (c - first_child) < m = subst (λ n. n < m) a below in
        omega (arith, under, less))
    | inr more ↦
        let d : ℕ = first_child + (m - front) in
        let inside : m < front + length s.parents = subst (λ n. m < n) (limits_are s) known in
        let low_d : first_child ≤ first_child + (m - front) = omega arith in
        let high_d : first_child + (m - front) < all_processes = omega (arith, more, inside) in
        let back : front + (first_child + (m - front) - first_child) ≡ m = omega (arith, more) in
        let at : m ≡ limit_for s (first_child + (m - front)) = sym (child_limit (first_child + (m - front)) low_d ∙ back) in
        let parents : Some (limit_id s c) ≡ Some (limit_id s (parent_of (family s) (first_child + (m - front)))) =
        sym e ∙ ap (λ n. (row_of rows n).parent) at ∙ parent_is (first_child + (m - front)) low_d high_d in
        let one = ap (λ (l : LimitId). l.0) (some_one parents) in
        (first_child + (m - front), low_d, high_d, limit_same limited c (parent_of (family s) (first_child + (m - front))) low (sym one), at)
  ]

  -- the first limit is above the second, also where fewer steps are taken than there are limits
  abbrev pub IsOver : ℕ → ℕ → Type 0
  IsOver upper m = (k : ℕ) → m ≤ k → IsTrue (among upper (ancestors_within rows k m))

  step_up : (upper k m : ℕ) (o : Option LimitId) → (row_of rows m).parent ≡ o → IsTrue (among upper (ancestors_above (ancestors_within rows k) o)) → IsTrue (among upper (ancestors_within rows (suc k) m))
  unfolding ancestors_within
  step_up upper k m o e t = ap (λ o. among upper (ancestors_above (ancestors_within rows k) o)) e ∙ t

  pub over_child : IsTree rows → (c upper : ℕ) → first_child ≤ c → c < all_processes → (limit_for s (parent_of (family s) c) ≡ upper) ⊎ IsOver upper (limit_for s (parent_of (family s) c)) → IsOver upper (limit_for s c)
  over_child tree c upper low high up zero less =
      let below : limit_for s (parent_of (family s) c) < limit_for s c = tree (limit_for s c) (limit_id s (parent_of (family s) c)) (child_limit_known c low high) (parent_is c low high) in
      absurd (omega (arith, below, less))
  over_child tree c upper low high up (suc k) less =
      let below : limit_for s (parent_of (family s) c) < limit_for s c = tree (limit_for s c) (limit_id s (parent_of (family s) c)) (child_limit_known c low high) (parent_is c low high) in
      step_up upper k (limit_for s c) (Some (limit_id s (parent_of (family s) c))) (parent_is c low high) (go up (omega (arith, below, less)))
    where
      go : (limit_for s (parent_of (family s) c) ≡ upper) ⊎ IsOver upper (limit_for s (parent_of (family s) c)) → limit_for s (parent_of (family s) c) ≤ k →
          IsTrue ((limit_for s (parent_of (family s) c) == upper) || among upper (ancestors_within rows k (limit_for s (parent_of (family s) c))))
      go (inl same) le = or_left _ _ (eq-eqb (limit_for s (parent_of (family s) c)) upper same)
      go (inr over) le = or_right _ _ (over k le)

  pub over_is : (upper m : ℕ) → m < length rows → IsOver upper m → IsTrue (is_ancestor rows upper m)
  over_is upper m known over = over (length rows) (omega (arith, known))
