-- Sums over distinct names.
use Rattle.std.proofs.Common.{◌≡◌, ℕ, zero, suc, ◌+◌, ◌*◌, ◌≤◌, Bool, true, false, cond, refl, ap, ap₂, sym, ◌∙◌, inl, inr, List, [], ◌∷◌, length, Option, Some, None, arith, IsTrue, get_or, zero-le}
use Rattle.std.proofs.lemmas.Bool.{false≢true, cases_lt, cases_Bool, false_from_ne_true, and_from, or_left, or_right}
use Rattle.k_types.specs.declared.names.Name.{Name}
use Rattle.k_types.specs.declared.names.Heap.{Heap}
use Rattle.k_types.specs.Names.{name_eq, heap_eq, name_among, leads_to}
use Rattle.k_types.specs.Totals.{total}
use Rattle.k_types.specs.Numbers.{numbers_below}
use Rattle.k_types.specs.Trace.{Trace, process_count}
use Rattle.k_types.specs.State.{State, ExitItem, has_exit}
use Rattle.k_types.specs.Owners.{owner_of, user}
use Rattle.k_types.specs.Cells.{entries, pins, pins_of}
use Rattle.k_types.specs.Sound.{IsSized, AreDistinctExits}
use Rattle.k_laws.specs.Counts.{one_if}
use Rattle.k_types.specs.Distinct.{AreDistinctNames}
use Rattle.k_types.proofs.NameTests.{name_eq-true, name_eq_refl, heap_eq-true}
use Rattle.k_types.proofs.Sums.{zeros, sum_both, sum_same, total_at_most, ones, both_or}
use Rattle.k_types.proofs.Lists.{numbers_length}

-- the sums of a table by rows and by columns
swapped : {A B : Type 0} (f : A → B → ℕ) (xs : List A) (ys : List B) → total (λ x. total (f x) ys) xs ≡ total (λ y. total (λ x. f x y) xs) ys
swapped f [] ys = sym (zeros ys)
swapped f (x ∷ xs) ys = ap (λ n. total (f x) ys + n) (swapped f xs ys) ∙ sym (sum_both (f x) (λ y. total (λ x. f x y) xs) ys)

-- of distinct names at most one is this one
one_name : (f : Name → ℕ) (t : Name) (names : List Name) → AreDistinctNames names → total (λ n. cond (name_eq t n) (f n) 0) names ≡ cond (name_among t names) (f t) 0
one_name f t [] distinct = refl
one_name f t (n ∷ names) distinct =
    let rest = one_name f t names distinct.1 in
    elim (cases_Bool (name_eq n t)) [
      | inl same ↦
          let is : n ≡ t = name_eq-true n t same in
          let gone : name_among t names ≡ false = ap (λ m. name_among m names) (sym is) ∙ distinct.0 in
          let turned : name_eq t n ≡ true = ap (λ m. name_eq t m) is ∙ name_eq_refl t in
          let none = rest ∙ ap (λ b. cond b (f t) 0) gone in
          let here = ap f is in
          rw (same, turned) (omega arith)
      | inr other ↦
          let turned : name_eq t n ≡ false = false_from_ne_true _ (λ e. false≢true (sym other ∙ ap (λ m. name_eq m t) (sym (name_eq-true t n e)) ∙ name_eq_refl t)) in
          rw (other, turned) (omega (arith, rest))
    ]

one_led : (r : Option Name) (names : List Name) → AreDistinctNames names → total (λ n. one_if (leads_to r n)) names ≤ 1
one_led None names distinct = omega (arith, zeros names)
one_led (Some m) names distinct = omega (arith, one_name (λ n. 1) m names distinct, low (name_among m names))
  where
    low : (b : Bool) → cond b 1 0 ≤ 1
    low true = omega arith
    low false = omega arith

pins_of_row : (row : List (Option Name)) (names : List Name) → AreDistinctNames names → total (pins_of row) names ≤ length row
pins_of_row row names distinct =
    omega (arith, swapped (λ n r. one_if (leads_to r n)) names row, total_at_most (λ r. total (λ n. one_if (leads_to r n)) names) (λ r. 1) (λ r. one_led r names distinct) row, ones row)

sixteen : (xs : List ℕ) → total (λ x. 16) xs ≡ 16 * length xs
sixteen [] = omega arith
sixteen (x ∷ xs) = omega (arith, sixteen xs)

outside : {A : Type 0} (rows : List (List A)) (p : ℕ) → length rows ≤ p → get_or rows p [] ≡ []
outside [] p out = refl
outside (row ∷ rows) zero out = absurd (omega (arith, out))
outside (row ∷ rows) (suc p) out = outside rows p (omega (arith, out))

-- no more registers hold foreign objects than there are registers
pub pins_few : (trace : Trace) (st : State) → IsSized trace st → (names : List Name) → AreDistinctNames names → total (pins trace st) names ≤ 16 * process_count trace
pins_few trace st sized names distinct =
    let by_process = swapped (λ n p. cond (heap_eq (user p) (owner_of trace st n.seg.0)) 0 (pins_of (get_or st.registers p []) n)) names (numbers_below (process_count trace)) in
    let each = total_at_most (λ p. total (λ n. cond (heap_eq (user p) (owner_of trace st n.seg.0)) 0 (pins_of (get_or st.registers p []) n)) names) (λ p. 16) row_low (numbers_below (process_count trace)) in
    omega (arith, by_process, each, sixteen (numbers_below (process_count trace)), numbers_length 0 (process_count trace))
  where
    less : (b : Bool) (n : ℕ) → cond b 0 n ≤ n
    less true n = zero-le
    less false n = omega arith

    row_long : (p : ℕ) → length (get_or st.registers p []) ≤ 16
    row_long p = elim (cases_lt p (process_count trace)) [
      | inl known ↦ omega (arith, sized.each p known)
      | inr out ↦ let none = ap length (outside st.registers p (omega (arith, out, sized.registers))) in omega arith
    ]

    row_low : (p : ℕ) → total (λ n. cond (heap_eq (user p) (owner_of trace st n.seg.0)) 0 (pins_of (get_or st.registers p []) n)) names ≤ 16
    row_low p = omega (
      arith,
      total_at_most (λ n. cond (heap_eq (user p) (owner_of trace st n.seg.0)) 0 (pins_of (get_or st.registers p []) n)) (pins_of (get_or st.registers p [])) (λ n. less (heap_eq (user p) (owner_of trace st n.seg.0)) (pins_of (get_or st.registers p []) n)) names,
      pins_of_row (get_or st.registers p []) names distinct,
      row_long p,
    )

-- no more objects are entered by exit items than there are exit items
pub entries_few : (st : State) (names : List Name) → AreDistinctNames names → total (entries st) names ≤ length st.exits
entries_few st names distinct =
    omega (
      arith,
      swapped (λ n (e : ExitItem). one_if (name_eq e.target n)) names st.exits,
      total_at_most (λ (e : ExitItem). total (λ n. one_if (name_eq e.target n)) names) (λ e. 1) (λ e. one_led (Some e.target) names distinct) st.exits,
      ones st.exits,
    )

inner : (f : Name → ℕ) (b : Bool) (t : Name) (names : List Name) → AreDistinctNames names → total (λ n. cond b (cond (name_eq t n) (f n) 0) 0) names ≡ cond b (cond (name_among t names) (f t) 0) 0
inner f true t names distinct = one_name f t names distinct
inner f false t names distinct = zeros names

-- the targets of a heap's exit items, summed over the items and over the names
item_sums : (f : Name → ℕ) (h : Heap) (exits : List ExitItem) (names : List Name) → AreDistinctExits exits → AreDistinctNames names →
    total (λ n. cond (has_exit exits h n) (f n) 0) names ≡ total (λ (e : ExitItem). cond (heap_eq e.heap h) (cond (name_among e.target names) (f e.target) 0) 0) exits
item_sums f h [] names distinct named = zeros names
item_sums f h (e ∷ exits) names distinct named =
    sum_same (λ n. cond (has_exit (e ∷ exits) h n) (f n) 0) (λ n. cond (heap_eq e.heap h) (cond (name_eq e.target n) (f n) 0) 0 + cond (has_exit exits h n) (f n) 0)
    (λ n. both_or (heap_eq e.heap h) (name_eq e.target n) (has_exit exits h n) (f n) (λ a b. ap₂ (λ k m. has_exit exits k m) (sym (heap_eq-true e.heap h a)) (sym (name_eq-true e.target n b)) ∙ distinct.0)) names
    ∙ sum_both (λ n. cond (heap_eq e.heap h) (cond (name_eq e.target n) (f n) 0) 0) (λ n. cond (has_exit exits h n) (f n) 0) names
    ∙ ap₂ (λ a b. a + b) (inner f (heap_eq e.heap h) e.target names named) (item_sums f h exits names distinct.1 named)

all_there : (f : Name → ℕ) (names : List Name) (test : Name → Bool) → ((n : Name) → IsTrue (name_among n names) → test n ≡ true) → total (λ n. cond (test n) (f n) 0) names ≡ total f names
all_there f [] test all = refl
all_there f (n ∷ names) test all =
    ap₂ (λ a b. a + b) (ap (λ b. cond b (f n) 0) (all n (or_left _ _ (name_eq_refl n)))) (all_there f names test (λ m t. all m (or_right (name_eq n m) _ t)))

all_listed : (f : Name → ℕ) (h : Heap) (exits : List ExitItem) (names : List Name) → ((n : Name) → IsTrue (has_exit exits h n) → IsTrue (name_among n names)) →
    total (λ (e : ExitItem). cond (heap_eq e.heap h) (cond (name_among e.target names) (f e.target) 0) 0) exits ≡ total (λ (e : ExitItem). cond (heap_eq e.heap h) (f e.target) 0) exits
all_listed f h [] names listed = refl
all_listed f h (e ∷ exits) names listed =
    ap₂ (λ a b. a + b)
    (elim (heap_eq e.heap h) as (λ b. heap_eq e.heap h ≡ b → cond b (cond (name_among e.target names) (f e.target) 0) 0 ≡ cond b (f e.target) 0) [
      | true ↦ λ t. ap (λ b. cond b (f e.target) 0) (listed e.target (or_left _ _ (and_from _ _ t (name_eq_refl e.target))))
      | false ↦ λ t. refl
    ] refl)
    (all_listed f h exits names (λ n t. listed n (or_right _ _ t)))

-- distinct names that are the targets of a heap's exit items give the same sums as the items
pub targets_sum : (f : Name → ℕ) (h : Heap) (exits : List ExitItem) (names : List Name) → AreDistinctExits exits → AreDistinctNames names → ((n : Name) → name_among n names ≡ has_exit exits h n) →
    total f names ≡ total (λ (e : ExitItem). cond (heap_eq e.heap h) (f e.target) 0) exits
targets_sum f h exits names distinct named same =
    sym (all_there f names (has_exit exits h) (λ n t. sym (same n) ∙ t))
    ∙ item_sums f h exits names distinct named
    ∙ all_listed f h exits names (λ n t. same n ∙ t)
