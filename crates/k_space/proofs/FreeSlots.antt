-- The list of free slots.
use Rattle.std.proofs.Common.{◌≡◌, ◌≢◌, ℕ, zero, suc, ◌+◌, ◌-◌, ◌<◌, ◌≤◌, true, refl, sym, ap, subst, ◌∙◌, List, [], ◌∷◌, length, map, get_or, set, slice_get, Option, Some, None, is_some, count_by, arith}
use Rattle.std.proofs.lemmas.List.{get_or-set_same, get_or-set_other, length-map, map-set}
use Rattle.std.proofs.lemmas.List.Sums.{sum_by-set, sum_by-cons}
use Rattle.std.proofs.lemmas.Option.{get_or_from_slice_get, slice_get_read, slice_get_within}
use Rattle.k_types.proofs.Lists.{slice_get-set_other}
use Rattle.k_space.specs.declared.cells.Cell.{Cell}
use Rattle.k_space.specs.declared.cells.SlotState.{SlotState}
use Rattle.k_space.specs.declared.cells.SlotState.TheVariants.{Free, Full}
use Rattle.k_space.specs.Cells.{AreSorted, CellsValue, ChangesAt, IsFreeList, cell_of, count_held, get, is_free, with_cell}
use Rattle.k_space.proofs.GrayLists.{bit}

-- what a slot has as the contracts see it
pub cell_there : (states : List SlotState) (slot : ℕ) (x : SlotState) → slice_get states slot ≡ Some x → get_or (map cell_of states) slot None ≡ cell_of x
cell_there [] slot x is = absurd (cc)
cell_there (y ∷ ys) zero x is = let one : y ≡ x = cc in ap cell_of one
cell_there (y ∷ ys) (suc slot) x is = cell_there ys slot x is

pub read_there : (states : List SlotState) (slot : ℕ) (x y : SlotState) → slot < length states → x ≡ get_or states slot x → x ≡ y → slice_get states slot ≡ Some y
read_there states slot x y within read is = slice_get_read states (length states) slot x refl within read ∙ ap Some is

pub not_free : (states : List SlotState) (slot next : ℕ) (cell : Cell) → slice_get states slot ≡ Some (Free next) → slice_get states slot ≡ Some (Full cell) → ⊥
not_free states slot next cell free full = cc

same_next : (states : List SlotState) (slot m n : ℕ) → slice_get states slot ≡ Some (Free m) → slice_get states slot ≡ Some (Free n) → m ≡ n
same_next states slot m n p q = cc

-- free slots and objects are all slots
pub counts : (states : List SlotState) → count_by is_free states + count_by is_some (map cell_of states) ≡ length states
counts [] = refl
counts (Free next ∷ states) =
    omega (arith, sum_by-cons (λ x. bit (is_free x)) (Free next) states, sum_by-cons (λ (o : Option Cell). bit (is_some o)) None (map cell_of states), counts states)
counts (Full cell ∷ states) =
    omega (arith, sum_by-cons (λ x. bit (is_free x)) (Full cell) states, sum_by-cons (λ (o : Option Cell). bit (is_some o)) (Some cell) (map cell_of states), counts states)

pub length_counts : (states : List SlotState) (n : ℕ) → count_by is_free states ≡ n → count_by is_some (map cell_of states) + n ≡ length states
length_counts states n is = omega (arith, counts states, is)

-- no list, no free slot
no_first : (states : List SlotState) (n : ℕ) → IsFreeList states n 0 → n ≡ 0
no_first states zero p = refl
no_first states (suc n) (slot, next, first, here, rest) = absurd (omega (arith, first))

pub all_full : (states : List SlotState) (first count : ℕ) → AreSorted states first count → first ≡ 0 → count ≡ length states
all_full states first count sorted none =
    let frees : IsFreeList states (count_by is_free states) 0 = subst (λ (h : ℕ). IsFreeList states (count_by is_free states) h) none sorted.frees in
    omega (arith, counts states, no_first states (count_by is_free states) frees, sorted.counted)

-- a list that is not empty has a first
first_of : (states : List SlotState) (n first : ℕ) → (first ≡ 0 → ⊥) → IsFreeList states n first → (next : ℕ) × (slice_get states (first - 1) ≡ Some (Free next))
first_of states zero first some p = absurd (some p)
first_of states (suc n) first some (slot, next, is, here, rest) =
    let at : slot ≡ first - 1 = omega (arith, is) in
    (next, ap (slice_get states) (sym at) ∙ here)

pub first_free : (states : List SlotState) (first count : ℕ) → AreSorted states first count → (first ≡ 0 → ⊥) → (next : ℕ) × (slice_get states (first - 1) ≡ Some (Free next))
first_free states first count sorted some = first_of states (count_by is_free states) first some sorted.frees

-- two lists from one slot are as long
one_length : (states : List SlotState) (n m first : ℕ) → IsFreeList states n first → IsFreeList states m first → n ≡ m
one_length states zero zero first p q = refl
one_length states zero (suc m) first p (slot, next, is, here, rest) = absurd (omega (arith, p, is))
one_length states (suc n) zero first (slot, next, is, here, rest) q = absurd (omega (arith, q, is))
one_length states (suc n) (suc m) first (slot, next, is, here, rest) (slot', next', is', here', rest') =
    let slots : slot' ≡ slot = omega (arith, is, is') in
    let nexts : next' ≡ next = same_next states slot next' next (ap (slice_get states) (sym slots) ∙ here') here in
    ap suc (one_length states n m next rest (subst (λ (h : ℕ). IsFreeList states m h) nexts rest'))

-- a write at a slot that begins a longer list, or none, leaves a list
list_kept : (states : List SlotState) (n first i : ℕ) (x : SlotState) → ((m : ℕ) → m ≤ n → IsFreeList states m (suc i) → ⊥) → IsFreeList states n first → IsFreeList (set states i x) n first
list_kept states zero first i x apart p = p
list_kept states (suc n) first i x apart (slot, next, is, here, rest) =
    let other : slot ≢ i = λ e. apart (suc n) (omega arith) (subst (λ (h : ℕ). IsFreeList states (suc n) h) (is ∙ ap suc e) (slot, next, is, here, rest)) in
    (slot, next, is, slice_get-set_other states i slot x other ∙ here, list_kept states n next i x (λ m within. apart m (omega (arith, within))) rest)

-- no list begins at an object
from_object : (states : List SlotState) (i : ℕ) (cell : Cell) → slice_get states i ≡ Some (Full cell) → (m : ℕ) → IsFreeList states m (suc i) → ⊥
from_object states i cell full zero q = absurd (omega (arith, q))
from_object states i cell full (suc m) (slot, next, is, here, rest) =
    let at : slot ≡ i = omega (arith, is) in
    not_free states i next cell (ap (slice_get states) (sym at) ∙ here) full

frees_set : (states : List SlotState) (i : ℕ) (x was : SlotState) → slice_get states i ≡ Some was → count_by is_free (set states i x) + bit (is_free was) ≡ count_by is_free states + bit (is_free x)
frees_set states i x was is =
    let at : bit (is_free (get_or states i was)) ≡ bit (is_free was) = ap (λ (s : SlotState). bit (is_free s)) (get_or_from_slice_get states i was was is) in
    omega (arith, sum_by-set (λ s. bit (is_free s)) states i x was (slice_get_within states i was is), at)

held_set : (states : List SlotState) (i : ℕ) (x was : SlotState) → slice_get states i ≡ Some was →
    count_by is_some (map cell_of (set states i x)) + bit (is_some (cell_of was)) ≡ count_by is_some (map cell_of states) + bit (is_some (cell_of x))
held_set states i x was is =
    let at : bit (is_some (get_or (map cell_of states) i None)) ≡ bit (is_some (cell_of was)) = ap (λ (o : Option Cell). bit (is_some o)) (cell_there states i was is) in
    let maps : count_by is_some (map cell_of (set states i x)) ≡ count_by is_some (set (map cell_of states) i (cell_of x)) = ap (λ (os : List (Option Cell)). count_by is_some os) (map-set cell_of states i x) in
    omega (arith, sum_by-set (λ (o : Option Cell). bit (is_some o)) (map cell_of states) i (cell_of x) None (omega (arith, length-map states cell_of, slice_get_within states i was is)), at, maps)

-- the first free slot gets an object
pub first_filled : (states : List SlotState) (first count next : ℕ) (cell : Cell) → AreSorted states first count → (first ≡ 0 → ⊥) → slice_get states (first - 1) ≡ Some (Free next) → AreSorted (set states (first - 1) (Full cell)) next (count + 1)
first_filled states first count next cell sorted some here =
    record {
      frees = from (count_by is_free states) refl sorted.frees;
      counted = omega (arith, sorted.counted, held_set states (first - 1) (Full cell) (Free next) here);
    }
  where
    from : (n : ℕ) → count_by is_free states ≡ n → IsFreeList states n first → IsFreeList (set states (first - 1) (Full cell)) (count_by is_free (set states (first - 1) (Full cell))) next
    from zero counted p = absurd (some p)
    from (suc n) counted (slot, next', is, here', rest) =
        let at : slot ≡ first - 1 = omega (arith, is) in
        let nexts : next' ≡ next = same_next states (first - 1) next' next (ap (slice_get states) (sym at) ∙ here') here in
        let rest' : IsFreeList states n next = subst (λ (h : ℕ). IsFreeList states n h) nexts rest in
        let fewer : n ≡ count_by is_free (set states (first - 1) (Full cell)) = omega (arith, counted, frees_set states (first - 1) (Full cell) (Free next) here) in
        let whole : IsFreeList states (suc n) (suc (first - 1)) = (first - 1, next, refl, here, rest') in
        subst (λ (k : ℕ). IsFreeList (set states (first - 1) (Full cell)) k next) fewer (list_kept states n next (first - 1) (Full cell) (λ m within q. longer n m within (one_length states (suc n) m (suc (first - 1)) whole q)) rest')
      where
        longer : (n m : ℕ) → m ≤ n → suc n ≡ m → ⊥
        longer n m within e = omega arith

-- a slot whose object goes becomes the first
pub joined : (states : List SlotState) (first count slot : ℕ) (cell : Cell) → AreSorted states first count → slice_get states slot ≡ Some (Full cell) → AreSorted (set states slot (Free first)) (slot + 1) (count - 1)
joined states first count slot cell sorted here =
    let more : suc (count_by is_free states) ≡ count_by is_free (set states slot (Free first)) = omega (arith, frees_set states slot (Free first) (Full cell) here) in
    let rest : IsFreeList (set states slot (Free first)) (count_by is_free states) first = list_kept states (count_by is_free states) first slot (Free first) (λ m within q. from_object states slot cell here m q) sorted.frees in
    let one : slot + 1 ≡ suc slot = omega arith in
    record {
      frees = subst (λ (k : ℕ). IsFreeList (set states slot (Free first)) k (slot + 1)) more (slot, first, one, now, rest);
      counted = omega (arith, sorted.counted, held_set states slot (Free first) (Full cell) here);
    }
  where
    now : slice_get (set states slot (Free first)) slot ≡ Some (Free first)
    now = slice_get_same states slot (Full cell) (Free first) here
      where
        slice_get_same : (xs : List SlotState) (i : ℕ) (was x : SlotState) → slice_get xs i ≡ Some was → slice_get (set xs i x) i ≡ Some x
        slice_get_same [] i was x e = absurd (cc)
        slice_get_same (y ∷ ys) zero was x e = refl
        slice_get_same (y ∷ ys) (suc i) was x e = slice_get_same ys i was x e

-- another object in its slot
pub kept : (states : List SlotState) (first count slot : ℕ) (cell new : Cell) → AreSorted states first count → slice_get states slot ≡ Some (Full cell) → AreSorted (set states slot (Full new)) first count
kept states first count slot cell new sorted here =
    let same : count_by is_free states ≡ count_by is_free (set states slot (Full new)) = omega (arith, frees_set states slot (Full new) (Full cell) here) in
    record {
      frees = subst (λ (k : ℕ). IsFreeList (set states slot (Full new)) k first) same (list_kept states (count_by is_free states) first slot (Full new) (λ m within q. from_object states slot cell here m q) sorted.frees);
      counted = omega (arith, sorted.counted, held_set states slot (Full new) (Full cell) here);
    }

-- an object that a contract sees is there
pub full_there : (states : List SlotState) (slot : ℕ) → is_some (get_or (map cell_of states) slot None) ≡ true → (cell : Cell) × (slice_get states slot ≡ Some (Full cell))
full_there [] slot e = absurd (cc)
full_there (Free next ∷ states) zero e = absurd (cc)
full_there (Full cell ∷ states) zero e = (cell, refl)
full_there (x ∷ states) (suc slot) e = full_there states slot e

-- what a contract sees of it
module _ (states : List SlotState) (capacity slot : ℕ) (was x : SlotState) (v : CellsValue) (is : record { slots = map cell_of states; capacity = capacity } ≡ v) (here : slice_get states slot ≡ Some was) where
  pub get_is : get v slot ≡ cell_of was
  get_is = ap (λ (w : CellsValue). get w slot) (sym is) ∙ cell_there states slot was here

  pub changes : ChangesAt v (record { slots = map cell_of (set states slot x); capacity = capacity }) slot (cell_of x)
  changes = subst (λ (w : CellsValue). ChangesAt w (record { slots = map cell_of (set states slot x); capacity = capacity }) slot (cell_of x)) is (record {
    there = ap (λ (os : List (Option Cell)). get_or os slot None) maps ∙ get_or-set_same (map cell_of states) slot (cell_of x) None (omega (arith, length-map states cell_of, slice_get_within states slot was here));
    others = λ other ne. ap (λ (os : List (Option Cell)). get_or os other None) maps ∙ get_or-set_other (map cell_of states) slot other (cell_of x) None ne;
  })
    where
      maps : map cell_of (set states slot x) ≡ set (map cell_of states) slot (cell_of x)
      maps = map-set cell_of states slot x

  pub count_is : count_by is_some (map cell_of (set states slot x)) + bit (is_some (cell_of was)) ≡ count_held v + bit (is_some (cell_of x))
  count_is = held_set states slot x was here ∙ ap (λ (w : CellsValue). count_held w + bit (is_some (cell_of x))) is

pub rewritten_value : (states : List SlotState) (capacity slot : ℕ) (new : Cell) (v : CellsValue) → record { slots = map cell_of states; capacity = capacity } ≡ v →
    record { slots = map cell_of (set states slot (Full new)); capacity = capacity } ≡ with_cell v slot new
rewritten_value states capacity slot new v is =
    ap (λ (os : List (Option Cell)). record { slots = os; capacity = capacity }) (map-set cell_of states slot (Full new)) ∙ ap (λ (w : CellsValue). with_cell w slot new) is
