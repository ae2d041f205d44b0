-- What the calls of a table do to its list.
use Rattle.std.proofs.Common.{◌≡◌, ◌≢◌, ◌==◌, ◌||◌, ◌&&◌, ℕ, zero, suc, ◌+◌, ◌-◌, ◌<◌, ◌≤◌, not, Bool, true, false, cond, refl, sym, ap, ap₂, subst, ◌∙◌, inl, inr, List, [], ◌∷◌, ◌++◌, length, map, get_or, set, slice_get, count_by, Option, Some, None, IfSome, IfNone, is_some, arith, take}
use Rattle.std.specs.List.{list_any}
use Rattle.std.proofs.lemmas.Bool.{cases_eq, false≢true, or_left, or_right, false_from_ne_true}
use Rattle.std.proofs.lemmas.List.Sums.{sum_by-cons, sum_by-append}
use Rattle.k_types.specs.declared.names.Name.{Name}
use Rattle.k_types.specs.Names.{name_eq}
use Rattle.k_exit.specs.declared.chains.Item.{Item}
use Rattle.k_exit.specs.Exits.{ExitRow, AreDistinct, has_target, marked_if, unmarked_row}
use Rattle.k_lists.specs.Hash.{bucket}
use Rattle.k_exit.specs.Chains.{row_of, blank, at, last, in_chain, IsLinked, IsChained, is_wanted, HasPassed, rows_without, unmarked_item}
use Rattle.std.proofs.lemmas.Option.{get_or_from_slice_get, slice_get_within, slice_get-get_or}
use Rattle.std.proofs.lemmas.List.{get_or-set_same, get_or-set_other, length-set, get_or_default, length-map}
use Rattle.std.specs.List.Sorted.{IsPermutation}
use Rattle.std.proofs.lemmas.List.Sorted.{IsPermutation-swap_remove, sum_by-IsPermutation}
use Rattle.k_exit.specs.declared.table.Wanted.{Wanted}
use Rattle.k_exit.specs.declared.table.Wanted.TheVariants.{Any, Unmarked, Into}
use Rattle.k_exit.proofs.Removes.{front_at, front_len}
use Rattle.k_exit.proofs.Last.{last_same}
use Rattle.k_types.proofs.NameTests.{name_eq-true, name_eq-same}

abbrev bit : Bool → ℕ
bit b = cond b 1 0

-- whether a target is there, by the place that was found
has_there : (items : List Item) (i : ℕ) (t : Name) → i < length items → (at items i).target ≡ t → has_target (map row_of items) t ≡ true
has_there [] i t within e = absurd (omega (arith, within))
has_there (x ∷ xs) zero t within e = or_left (name_eq x.target t) (has_target (map row_of xs) t) (name_eq-same x.target t e)
has_there (x ∷ xs) (suc i) t within e = or_right (name_eq x.target t) (has_target (map row_of xs) t) (has_there xs i t (omega (arith, within)) e)

has_none : (items : List Item) (t : Name) → ((i : ℕ) → i < length items → (at items i).target ≢ t) → has_target (map row_of items) t ≡ false
has_none [] t none = refl
has_none (x ∷ xs) t none =
    ap₂ (λ a b. a || b) (false_from_ne_true (name_eq x.target t) (λ e. none 0 (omega arith) (name_eq-true x.target t e))) (has_none xs t (λ i within. none (suc i) (omega (arith, within))))

pub has_by : (items : List Item) (t : Name) (r : Option ℕ) → IfSome r (λ i. i < length items) → IfSome r (λ i. (at items i).target ≡ t) → IfNone r ((i : ℕ) → i < length items → (at items i).target ≢ t) →
    is_some r ≡ has_target (map row_of items) t
has_by items t None within there none = sym (has_none items t none)
has_by items t (Some i) within there none = sym (has_there items i t within there)

-- how often a target stands in a list
pub count-cons : (t : Name) (x : ExitRow) (xs : List ExitRow) → count_by (λ (e : ExitRow). name_eq e.target t) (x ∷ xs) ≡ cond (name_eq x.target t) 1 0 + count_by (λ (e : ExitRow). name_eq e.target t) xs
count-cons t x xs = sum_by-cons (λ (e : ExitRow). cond (name_eq e.target t) 1 0) x xs

pub count-push : (t : Name) (x : ExitRow) (xs : List ExitRow) → count_by (λ (e : ExitRow). name_eq e.target t) (xs ++ x ∷ []) ≡ count_by (λ (e : ExitRow). name_eq e.target t) xs + cond (name_eq x.target t) 1 0
count-push t x xs = omega (arith, sum_by-append (λ (e : ExitRow). cond (name_eq e.target t) 1 0) xs (x ∷ []), sum_by-cons (λ (e : ExitRow). cond (name_eq e.target t) 1 0) x [])

pub count_none : (xs : List ExitRow) (t : Name) → has_target xs t ≡ false → count_by (λ (e : ExitRow). name_eq e.target t) xs ≡ 0
count_none [] t e = refl
count_none (x ∷ xs) t e = by_test (name_eq x.target t) refl e (count_none xs t)
  where
    by_test : (b : Bool) → name_eq x.target t ≡ b → (b || has_target xs t) ≡ false → (has_target xs t ≡ false → count_by (λ (e : ExitRow). name_eq e.target t) xs ≡ 0) → count_by (λ (e : ExitRow). name_eq e.target t) (x ∷ xs) ≡ 0
    by_test true is e ih = absurd (false≢true (sym e))
    by_test false is e ih = let off : bit (name_eq x.target t) ≡ 0 = ap bit is in omega (arith, count-cons t x xs, off, ih e)

-- one target more stays distinct
pub distinct_push : (xs : List ExitRow) (r : ExitRow) → AreDistinct xs → has_target xs r.target ≡ false → AreDistinct (xs ++ r ∷ [])
distinct_push xs r distinct none t = by_test (name_eq r.target t) refl
  where
    by_test : (b : Bool) → name_eq r.target t ≡ b → count_by (λ (e : ExitRow). name_eq e.target t) (xs ++ r ∷ []) ≤ 1
    by_test true is =
        let zero_times = count_none xs t (ap (has_target xs) (sym (name_eq-true r.target t is)) ∙ none) in
        let on : bit (name_eq r.target t) ≡ 1 = ap bit is in
        omega (arith, count-push t r xs, zero_times, on)
    by_test false is = let off : bit (name_eq r.target t) ≡ 0 = ap bit is in omega (arith, count-push t r xs, off, distinct t)

-- marks leave targets distinct
pub distinct_by : (xs ys : List ExitRow) → map (λ (e : ExitRow). e.target) ys ≡ map (λ (e : ExitRow). e.target) xs → AreDistinct xs → AreDistinct ys
distinct_by xs ys same distinct t = subst (λ (n : ℕ). n ≤ 1) (sym (count_targets ys t ∙ ap (λ (ns : List Name). count_by (λ (n : Name). name_eq n t) ns) same ∙ sym (count_targets xs t))) (distinct t)
  where
    count_targets : (zs : List ExitRow) (t : Name) → count_by (λ (e : ExitRow). name_eq e.target t) zs ≡ count_by (λ (n : Name). name_eq n t) (map (λ (e : ExitRow). e.target) zs)
    count_targets [] t = refl
    count_targets (z ∷ zs) t = omega (arith, count-cons t z zs, sum_by-cons (λ (n : Name). cond (name_eq n t) 1 0) z.target (map (λ (e : ExitRow). e.target) zs), count_targets zs t)

targets_marked : (xs : List ExitRow) (t : Name) → map (λ (e : ExitRow). e.target) (map (marked_if t) xs) ≡ map (λ (e : ExitRow). e.target) xs
targets_marked [] t = refl
targets_marked (x ∷ xs) t = ap (λ ns. x.target ∷ ns) (targets_marked xs t)

pub distinct_marked : (xs : List ExitRow) (t : Name) → AreDistinct xs → AreDistinct (map (marked_if t) xs)
distinct_marked xs t distinct = distinct_by xs (map (marked_if t) xs) (targets_marked xs t) distinct

targets_unmarked : (xs : List ExitRow) → map (λ (e : ExitRow). e.target) (map unmarked_row xs) ≡ map (λ (e : ExitRow). e.target) xs
targets_unmarked [] = refl
targets_unmarked (x ∷ xs) = ap (λ ns. x.target ∷ ns) (targets_unmarked xs)

pub distinct_unmarked : (xs : List ExitRow) → AreDistinct xs → AreDistinct (map unmarked_row xs)
distinct_unmarked xs distinct = distinct_by xs (map unmarked_row xs) (targets_unmarked xs) distinct

-- the one item of a target, marked
or_none : (b : Bool) → (b || false) ≡ b
or_none true = refl
or_none false = refl

none_marked : (xs : List ExitRow) (t : Name) → count_by (λ (e : ExitRow). name_eq e.target t) xs ≡ 0 → map (marked_if t) xs ≡ xs
none_marked [] t e = refl
none_marked (x ∷ xs) t e = by_test (name_eq x.target t) refl (none_marked xs t)
  where
    by_test : (b : Bool) → name_eq x.target t ≡ b → (count_by (λ (e : ExitRow). name_eq e.target t) xs ≡ 0 → map (marked_if t) xs ≡ xs) → map (marked_if t) (x ∷ xs) ≡ x ∷ xs
    by_test true is ih = let on : bit (name_eq x.target t) ≡ 1 = ap bit is in absurd (omega (arith, count-cons t x xs, on, e))
    by_test false is ih =
        let off : bit (name_eq x.target t) ≡ 0 = ap bit is in
        ap₂ (λ (y : ExitRow) ys. y ∷ ys) (ap (λ b. record { target = x.target; marked = x.marked || b }) is ∙ ap (λ b. record { target = x.target; marked = b }) (or_none x.marked)) (ih (omega (arith, count-cons t x xs, e)))

pub once : (xs : List ExitRow) (i : ℕ) (row : ExitRow) (t : Name) → slice_get xs i ≡ Some row → name_eq row.target t ≡ true → 1 ≤ count_by (λ (e : ExitRow). name_eq e.target t) xs
once [] i row t e is = absurd (cc)
once (x ∷ xs) zero row t e is =
    let same : x ≡ row = cc in
    let on : bit (name_eq x.target t) ≡ 1 = ap bit (ap (λ (r : ExitRow). name_eq r.target t) same ∙ is) in
    omega (arith, count-cons t x xs, on)
once (x ∷ xs) (suc i) row t e is = omega (arith, count-cons t x xs, once xs i row t e is)

or_true : (b : Bool) → (b || true) ≡ true
or_true true = refl
or_true false = refl

pub marked_set : (xs : List ExitRow) (i : ℕ) (row : ExitRow) (t : Name) → AreDistinct xs → slice_get xs i ≡ Some row → name_eq row.target t ≡ true → set xs i (record { target = row.target; marked = true }) ≡ map (marked_if t) xs
marked_set [] i row t distinct e is = absurd (cc)
marked_set (x ∷ xs) zero row t distinct e is =
    let same : x ≡ row = cc in
    let on : name_eq x.target t ≡ true = ap (λ (r : ExitRow). name_eq r.target t) same ∙ is in
    let one : bit (name_eq x.target t) ≡ 1 = ap bit on in
    let rest = none_marked xs t (omega (arith, count-cons t x xs, one, distinct t)) in
    ap₂ (λ (y : ExitRow) ys. y ∷ ys) (ap (λ (r : ExitRow). record { target = r.target; marked = true }) (sym same) ∙ sym (ap (λ b. record { target = x.target; marked = x.marked || b }) on ∙ ap (λ b. record { target = x.target; marked = b }) (or_true x.marked))) (sym rest)
marked_set (x ∷ xs) (suc i) row t distinct e is = by_test (name_eq x.target t) refl (λ d. marked_set xs i row t d e is)
  where
    by_test : (b : Bool) → name_eq x.target t ≡ b → (AreDistinct xs → set xs i (record { target = row.target; marked = true }) ≡ map (marked_if t) xs) → set (x ∷ xs) (suc i) (record { target = row.target; marked = true }) ≡ map (marked_if t) (x ∷ xs)
    by_test true on ih = let one : bit (name_eq x.target t) ≡ 1 = ap bit on in absurd (omega (arith, count-cons t x xs, one, distinct t, once xs i row t e is))
    by_test false off ih =
        ap₂ (λ (y : ExitRow) ys. y ∷ ys) (sym (ap (λ b. record { target = x.target; marked = x.marked || b }) off ∙ ap (λ b. record { target = x.target; marked = b }) (or_none x.marked)))
        (ih (λ s. omega (arith, count-cons s x xs, distinct s)))

-- marks leave the chains
pub linked_marks : (items other : List Item) (heads : List ℕ) → IsChained items heads → length other ≡ length items → ((j : ℕ) → (at other j).target ≡ (at items j).target) → ((j : ℕ) → (at other j).next ≡ (at items j).next) → IsChained other heads
linked_marks items other heads linked len targets_same nexts_same =
    subst (λ n. IsLinked other heads n n) (sym len)
    (record {
      end_in = omega (arith, len);
      room = omega (arith, len, linked.room);
      small = linked.small;
      firsts = λ b within. linked.firsts b within ∙ sym (last_same (in_chain items (length heads) (length items) b) (in_chain other (length heads) (length items) b) (length items) (λ j below. tests b j));
      nexts = λ i below apart.
          nexts_same i ∙ linked.nexts i below apart
          ∙ sym (last_same (in_chain items (length heads) (length items) (bucket (length heads) (at items i).target)) (in_chain other (length heads) (length items) (bucket (length heads) (at items i).target)) i
          (λ j lower. tests (bucket (length heads) (at items i).target) j))
          ∙ ap (λ (n : Name). last (in_chain other (length heads) (length items) (bucket (length heads) n)) i) (sym (targets_same i));
    })
  where
    tests : (b j : ℕ) → in_chain other (length heads) (length items) b j ≡ in_chain items (length heads) (length items) b j
    tests b j = ap (λ (n : Name). not (j == length items) && (bucket (length heads) n == b)) (targets_same j)

pub any_rows : (p : ExitRow → Bool) (items : List Item) → list_any (λ x. p (row_of x)) items ≡ list_any p (map row_of items)
any_rows p [] = refl
any_rows p (x ∷ xs) = ap (λ b. p (row_of x) || b) (any_rows p xs)

-- what is known of places that were passed
pub passed_end : (rows : List ExitRow) (wanted : Wanted) (from : ℕ) → from ≡ length rows → HasPassed rows wanted from
passed_end rows wanted from e = record { within = omega (arith, e); passed = λ j row low at. absurd (omega (arith, low, slice_get_within rows j row at, e)) }

-- an item was marked: it is no more wanted than it was
wanted_less : (wanted : Wanted) (r : ExitRow) (b : Bool) → is_wanted wanted r ≡ false → is_wanted wanted (record { target = r.target; marked = r.marked || b }) ≡ false
wanted_less Any r b e = e
wanted_less Unmarked r b e = by_mark r.marked e
  where
    by_mark : (m : Bool) → not m ≡ false → not (m || b) ≡ false
    by_mark true e = refl
    by_mark false e = absurd (false≢true (sym e))
wanted_less (Into seg) r b e = e

mapped_at : (f : ExitRow → ExitRow) (rows : List ExitRow) (j : ℕ) (row : ExitRow) → slice_get (map f rows) j ≡ Some row → (was : ExitRow) × (slice_get rows j ≡ Some was) × (f was ≡ row)
mapped_at f [] j row e = absurd (cc)
mapped_at f (x ∷ xs) zero row e = (x, refl, cc)
mapped_at f (x ∷ xs) (suc j) row e = mapped_at f xs j row e

pub passed_marked : (rows : List ExitRow) (wanted : Wanted) (from : ℕ) (t : Name) → HasPassed rows wanted from → HasPassed (map (marked_if t) rows) wanted from
passed_marked rows wanted from t was =
    record {
      within = omega (arith, was.within, length-map rows (marked_if t));
      passed = λ j row low at.
          let old = mapped_at (marked_if t) rows j row at in
          ap (is_wanted wanted) (sym old.2) ∙ wanted_less wanted old.0 (name_eq old.0.target t) (was.passed j old.0 low old.1);
    }

-- one item goes, and the last takes its place
pub without_is : (rows : List ExitRow) (i : ℕ) (row : ExitRow) → slice_get rows i ≡ Some row → IsPermutation rows (row ∷ rows_without rows i)
without_is rows i row at =
    let within = slice_get_within rows i row at in
    let here : row ≡ get_or rows i row = sym (get_or_from_slice_get rows i row row at) in
    let last_in : length rows - 1 < length rows = omega (arith, within) in
    subst (λ (ys : List ExitRow). IsPermutation rows (row ∷ ys))
    (ap (λ (r : ExitRow). take (length rows - 1) (set rows i r)) (get_or_default rows (length rows - 1) row (row_of blank) last_in))
    (IsPermutation-swap_remove rows i row within here)

pub distinct_taken : (rows rest : List ExitRow) (row : ExitRow) → IsPermutation rows (row ∷ rest) → AreDistinct rows → AreDistinct rest
distinct_taken rows rest row same distinct t =
    let counts : count_by (λ (e : ExitRow). name_eq e.target t) (row ∷ rest) ≡ count_by (λ (e : ExitRow). name_eq e.target t) rows = sum_by-IsPermutation (λ (e : ExitRow). cond (name_eq e.target t) 1 0) rows (row ∷ rest) same in
    omega (arith, counts, count-cons t row rest, distinct t)

pub distinct_same : (rows other : List ExitRow) → IsPermutation rows other → AreDistinct rows → AreDistinct other
distinct_same rows other same distinct t =
    let counts : count_by (λ (e : ExitRow). name_eq e.target t) other ≡ count_by (λ (e : ExitRow). name_eq e.target t) rows = sum_by-IsPermutation (λ (e : ExitRow). cond (name_eq e.target t) 1 0) rows other same in
    omega (arith, counts, distinct t)

-- what was passed after one item went
pub passed_without : (rows : List ExitRow) (wanted : Wanted) (i : ℕ) → i < length rows → ((j : ℕ) (row : ExitRow) → i < j → slice_get rows j ≡ Some row → is_wanted wanted row ≡ false) → HasPassed (rows_without rows i) wanted i
passed_without rows wanted i within passed =
    record { within = omega (arith, len, within); passed = λ j row low at. by_place j row low at (slice_get_within (rows_without rows i) j row at) }
  where
    y : ExitRow
    y = get_or rows (length rows - 1) (row_of blank)

    len : length (rows_without rows i) ≡ length rows - 1
    len = front_len (length rows - 1) (set rows i (get_or rows (length rows - 1) (row_of blank))) (omega (arith, length-set rows i (get_or rows (length rows - 1) (row_of blank))))

    here : (j : ℕ) → j < length rows - 1 → (d : ExitRow) → get_or (rows_without rows i) j d ≡ get_or (set rows i (get_or rows (length rows - 1) (row_of blank))) j d
    here j below d = front_at (length rows - 1) j (set rows i (get_or rows (length rows - 1) (row_of blank))) d below

    by_place : (j : ℕ) (row : ExitRow) → i ≤ j → slice_get (rows_without rows i) j ≡ Some row → j < length (rows_without rows i) → is_wanted wanted row ≡ false
    by_place j row low at below =
        let got : get_or (rows_without rows i) j row ≡ row = get_or_from_slice_get (rows_without rows i) j row row at in
        let inner : j < length rows - 1 = omega (arith, below, len) in
        elim (cases_eq j i) [
          | inl same ↦
              let last_is : get_or rows (length rows - 1) (row_of blank) ≡ row =
              sym (get_or-set_same rows i (get_or rows (length rows - 1) (row_of blank)) row within) ∙ ap (λ k. get_or (set rows i (get_or rows (length rows - 1) (row_of blank))) k row) (sym same) ∙ sym (here j inner row) ∙ got in
              passed (length rows - 1) row (omega (arith, inner, same))
              (slice_get-get_or rows (length rows - 1) (row_of blank) (omega (arith, within)) ∙ ap Some last_is)
          | inr differs ↦
              let was : get_or rows j row ≡ row = sym (get_or-set_other rows i j (get_or rows (length rows - 1) (row_of blank)) row differs) ∙ sym (here j inner row) ∙ got in
              passed j row (omega (arith, low, differs)) (slice_get-get_or rows j row (omega (arith, inner)) ∙ ap Some was)
        ]

-- whatever but the mark
pub mark_same : {P : Type 0} (f : Item → P) (items : List Item) (i : ℕ) (x : Item) → ((y : Item) → f (record { target = y.target; marked = true; next = y.next }) ≡ f y) → i < length items → x ≡ at items i → (j : ℕ) →
    f (at (set items i (record { target = x.target; marked = true; next = x.next })) j) ≡ f (at items j)
mark_same f items i x blind within is j =
    elim (cases_eq j i) [
      | inl same ↦
          ap (λ k. f (at (set items i (record { target = x.target; marked = true; next = x.next })) k)) same
          ∙ ap f (get_or-set_same items i (record { target = x.target; marked = true; next = x.next }) blank within) ∙ blind x ∙ ap f is ∙ sym (ap (λ k. f (at items k)) same)
      | inr differs ↦ ap f (get_or-set_other items i j (record { target = x.target; marked = true; next = x.next }) blank differs)
    ]

pub rows_unmarked : (items : List Item) → map row_of (map unmarked_item items) ≡ map unmarked_row (map row_of items)
rows_unmarked [] = refl
rows_unmarked (x ∷ xs) = ap (λ rs. unmarked_row (row_of x) ∷ rs) (rows_unmarked xs)

-- whatever is wanted or not
pub none_left : (rows : List ExitRow) → ((j : ℕ) (row : ExitRow) → j < length rows → slice_get rows j ≡ Some row → true ≡ false) → rows ≡ []
none_left [] none = refl
none_left (x ∷ xs) none = absurd (false≢true (sym (none 0 x (omega arith) refl)))

pub none_into : (rows : List ExitRow) (seg : ℕ) → ((j : ℕ) (row : ExitRow) → j < length rows → slice_get rows j ≡ Some row → (row.target.seg.0 == seg) ≡ false) → list_any (λ (e : ExitRow). e.target.seg.0 == seg) rows ≡ false
none_into [] seg none = refl
none_into (x ∷ xs) seg none = ap₂ (λ a b. a || b) (none 0 x (omega arith) refl) (none_into xs seg (λ j row within at. none (suc j) row (omega (arith, within)) at))
