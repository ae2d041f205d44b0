-- The targets of a heap's exit items, once they are sorted, rise and are its exits in order.
use Rattle.std.proofs.Common.{◌≡◌, ◌&&◌, ◌||◌, ℕ, suc, ◌+◌, ◌<◌, ◌≤◌, Bool, true, false, cond, refl, sym, ap, ap₂, subst, ◌∙◌, List, [], ◌∷◌, map, filter, length, get_or, is_lt, nat_cmp, arith}
use Rattle.std.specs.List.{count_by}
use Rattle.std.specs.List.Sorted.{IsPermutation}
use Rattle.std.specs.Ordering.{ordering_then}
use Rattle.std.proofs.lemmas.Bool.{or_parts}
use Rattle.std.proofs.lemmas.List.Sums.{sum_by-cons}
use Rattle.std.proofs.lemmas.List.Sorted.{list_any-IsPermutation, sum_by-IsPermutation}
use Rattle.k_types.specs.declared.names.Heap.{Heap}
use Rattle.k_types.specs.declared.names.Name.{Name}
use Rattle.k_types.specs.Names.{heap_eq, name_among, name_eq}
use Rattle.k_types.specs.Sound.{AreDistinctExits}
use Rattle.k_types.specs.State.{ExitItem, has_exit}
use Rattle.k_types.proofs.NameTests.{heap_eq-true, name_eq-true, name_eq_refl, comes_first}
use Rattle.k_text.specs.Shown.{AreRising, AreRisingFrom, exits_of}
use Rattle.k_text.proofs.InOrder.{rising_exits}

bit : Bool → ℕ
bit b = cond b 1 0

-- how often the name stands there
abbrev times : Name → List Name → ℕ
times n names = count_by (λ (m : Name). name_eq m n) names

times_cons : (n m : Name) (names : List Name) → times n (m ∷ names) ≡ bit (name_eq m n) + times n names
unfolding bit
times_cons n m names = sum_by-cons (λ (k : Name). cond (name_eq k n) 1 0) m names

-- no name stands twice
abbrev AreApart : List Name → Type 0
AreApart names = (n : Name) → times n names ≤ 1

apart_same : (xs ys : List Name) → IsPermutation xs ys → AreApart xs → AreApart ys
apart_same xs ys same apart n =
    let counts : times n ys ≡ times n xs = sum_by-IsPermutation (λ (m : Name). cond (name_eq m n) 1 0) xs ys same in
    omega (arith, counts, apart n)

differs : (n m : Name) (names : List Name) → AreApart (n ∷ m ∷ names) → name_eq n m ≡ true → ⊥
unfolding bit
differs n m names apart same =
    let first : bit (name_eq n m) ≡ 1 = ap bit same in
    let second : bit (name_eq m m) ≡ 1 = ap bit (name_eq_refl m) in
    absurd (omega (arith, first, second, times_cons m n (m ∷ names), times_cons m m names, apart m))

apart_rest : (n : Name) (names : List Name) → AreApart (n ∷ names) → AreApart names
apart_rest n names apart m = omega (arith, times_cons m n names, apart m)

-- each name does not come before the one that it follows
abbrev AreSorted : List Name → Type 0
AreSorted names = (k : ℕ) (d : Name) → suc k < length names →
    is_lt (ordering_then (nat_cmp (get_or names (suc k) d).seg.0 (get_or names k d).seg.0) (nat_cmp (get_or names (suc k) d).serial.0 (get_or names k d).serial.0)) ≡ false

rises_from : (n : Name) (names : List Name) → AreSorted (n ∷ names) → AreApart (n ∷ names) → AreRisingFrom n names
rises_from n [] sorted apart = tt
rises_from n (m ∷ names) sorted apart =
    (comes_first n m (sorted 0 n (omega arith)) (differs n m names apart), rises_from m names (λ k d inside. sorted (suc k) d (omega arith)) (apart_rest n (m ∷ names) apart))

rises : (names : List Name) → AreSorted names → AreApart names → AreRising names
rises [] sorted apart = tt
rises (n ∷ names) sorted apart = rises_from n names sorted apart

-- the targets of the heap's exit items, as they stand
abbrev pub targets_of : List ExitItem → Heap → List Name
targets_of exits h = map (λ (e : ExitItem). e.target) (filter (λ (e : ExitItem). heap_eq e.heap h) exits)

pub targets_among : (exits : List ExitItem) (h : Heap) (n : Name) → name_among n (targets_of exits h) ≡ has_exit exits h n
targets_among [] h n = refl
targets_among (e ∷ exits) h n =
    elim (heap_eq e.heap h) as (λ b. name_among n (map (λ (x : ExitItem). x.target) (cond b (e ∷ filter (λ (x : ExitItem). heap_eq x.heap h) exits) (filter (λ (x : ExitItem). heap_eq x.heap h) exits))) ≡ ((b && name_eq e.target n) || has_exit exits h n)) [
      | true ↦ ap (λ (b : Bool). name_eq e.target n || b) (targets_among exits h n)
      | false ↦ targets_among exits h n
    ]

no_times : (n : Name) (names : List Name) → name_among n names ≡ false → times n names ≡ 0
unfolding bit
no_times n [] none = refl
no_times n (m ∷ names) none =
    let parts = or_parts (name_eq m n) (name_among n names) none in
    let off : bit (name_eq m n) ≡ 0 = ap bit parts.0 in
    omega (arith, off, times_cons n m names, no_times n names parts.1)

targets_apart : (exits : List ExitItem) (h : Heap) → AreDistinctExits exits → AreApart (targets_of exits h)
unfolding bit
targets_apart [] h distinct n = omega arith
targets_apart (e ∷ exits) h distinct n = go (targets_apart exits h distinct.1 n) (heap_eq e.heap h) refl (name_eq e.target n) refl
  where
    none : heap_eq e.heap h ≡ true → name_eq e.target n ≡ true → times n (targets_of exits h) ≡ 0
    none own same =
        no_times n (targets_of exits h)
        (targets_among exits h n ∙ ap₂ (λ (k : Heap) (m : Name). has_exit exits k m) (sym (heap_eq-true e.heap h own)) (sym (name_eq-true e.target n same)) ∙ distinct.0)

    go : times n (targets_of exits h) ≤ 1 → (b : Bool) → heap_eq e.heap h ≡ b → (t : Bool) → name_eq e.target n ≡ t →
        times n (map (λ (x : ExitItem). x.target) (cond b (e ∷ filter (λ (x : ExitItem). heap_eq x.heap h) exits) (filter (λ (x : ExitItem). heap_eq x.heap h) exits))) ≤ 1
    go rest true own true same = let on : bit (name_eq e.target n) ≡ 1 = ap bit same in omega (arith, on, times_cons n e.target (targets_of exits h), none own same)
    go rest true own false other = let off : bit (name_eq e.target n) ≡ 0 = ap bit other in omega (arith, off, times_cons n e.target (targets_of exits h), rest)
    go rest false other t e2 = rest

-- sorted, they are the heap's exits in order
pub sorted_exits : (exits : List ExitItem) (h : Heap) (names sorted : List Name) → AreDistinctExits exits → names ≡ targets_of exits h → IsPermutation names sorted →
    ((k : ℕ) (d : Name) → k + 1 < length sorted →
    is_lt (ordering_then (nat_cmp (get_or sorted (k + 1) d).seg.0 (get_or sorted k d).seg.0) (nat_cmp (get_or sorted (k + 1) d).serial.0 (get_or sorted k d).serial.0)) ≡ false) →
    sorted ≡ exits_of exits h
sorted_exits exits h names sorted distinct is same ordered =
    rising_exits exits h sorted
    (rises sorted by_suc (apart_same names sorted same (subst AreApart (sym is) (targets_apart exits h distinct))))
    (λ n. sym (list_any-IsPermutation (λ (m : Name). name_eq m n) names sorted same) ∙ ap (name_among n) is ∙ targets_among exits h n)
  where
    by_suc : AreSorted sorted
    by_suc k d inside =
        let next : k + 1 ≡ suc k = omega arith in
        subst (λ i. is_lt (ordering_then (nat_cmp (get_or sorted i d).seg.0 (get_or sorted k d).seg.0) (nat_cmp (get_or sorted i d).serial.0 (get_or sorted k d).serial.0)) ≡ false) next
        (ordered k d (omega arith))
