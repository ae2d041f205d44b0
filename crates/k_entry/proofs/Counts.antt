-- Counts of objects in lists of items.
use Rattle.std.proofs.Common.{◌≡◌, ◌≢◌, ◌==◌, ℕ, ◌+◌, ◌<◌, ◌≤◌, Bool, true, false, cond, refl, sym, ap, ap₂, ◌∙◌, List, [], ◌∷◌, ◌++◌, map, sum_by, count_by, eqb-true, arith}
use Rattle.std.proofs.lemmas.Bool.{false_from_ne_true}
use Rattle.std.proofs.lemmas.List.Sums.{sum_by-cons}
use Rattle.std.proofs.lemmas.List.{map-append}
use Rattle.k_types.proofs.Sums.{total_append}
use Rattle.k_types.specs.Totals.{total}
use Rattle.k_types.specs.declared.names.Name.{Name}
use Rattle.k_types.specs.Names.{name_eq}
use Rattle.k_types.specs.Counted.{Counted, counted}
use Rattle.k_lists.specs.Lists.{is_in}
use Rattle.k_entry.specs.declared.item.Item.{Item}
use Rattle.k_entry.specs.Entries.{EntryValue, AreEntries, HasMore, HasLess}
use Rattle.k_entry.specs.Slots.{at, row_at}
use Rattle.k_lists.proofs.Members.{in_head}
use Rattle.k_entry.proofs.Members.{Split, split, cons_in, is_in_append}
use Rattle.k_entry.proofs.With.{IsWith, with_total, with_length}
use Rattle.k_entry.proofs.Joined.{Single, or_cases}

abbrev pub bit : Bool → ℕ
bit b = cond b 1 0

-- what an item adds to the count of an object
abbrev pub adds : Name → Counted → ℕ
adds t item = cond (name_eq item.object t) item.count 0

-- whether an item is that object's, as a number
abbrev pub hits : Name → Counted → ℕ
hits t item = cond (name_eq item.object t) 1 0

pub total_is : (f : Counted → ℕ) (xs : List Counted) → total f xs ≡ sum_by f xs
total_is f [] = refl
total_is f (x ∷ xs) = omega (arith, total_is f xs, sum_by-cons f x xs)

pub hits_are : (xs : List Counted) (t : Name) → count_by (λ (item : Counted). name_eq item.object t) xs ≡ total (hits t) xs
hits_are xs t = sym (total_is (hits t) xs)

-- where an object has no item it adds nothing
pub no_hits : (xs : List Counted) (t : Name) → total (hits t) xs ≡ 0 → total (adds t) xs ≡ 0
no_hits [] t e = refl
no_hits (x ∷ xs) t e = by_test (name_eq x.object t) refl (no_hits xs t)
  where
    by_test : (b : Bool) → name_eq x.object t ≡ b → (total (hits t) xs ≡ 0 → total (adds t) xs ≡ 0) → total (adds t) (x ∷ xs) ≡ 0
    by_test true on ih = let one : hits t x ≡ 1 = ap bit on in absurd (omega (arith, one, e))
    by_test false off ih = let none : adds t x ≡ 0 = ap (λ b. cond b x.count 0) off in omega (arith, none, ih (omega (arith, e)))

-- the one item of an object has its count
pub counted_with : (x : Counted) (rest items : List Counted) (t : Name) → IsWith x rest items → total (hits t) items ≤ 1 → name_eq x.object t ≡ true → counted items t ≡ x.count
counted_with x rest items t w distinct is =
    let one : hits t x ≡ 1 = ap bit is in
    let here : adds t x ≡ x.count = ap (λ b. cond b x.count 0) is in
    let none : total (hits t) rest ≡ 0 = omega (arith, one, distinct, with_total (hits t) x rest items w) in
    omega (arith, here, no_hits rest t none, with_total (adds t) x rest items w)

-- tests of numbers
is_zero : (n : ℕ) → 0 < n → bit (n == 0) ≡ 0
is_zero n h = ap bit (false_from_ne_true (n == 0) (λ e. let z : n ≡ 0 = eqb-true n 0 e in absurd (omega (arith, h, z))))

not_one : (n : ℕ) → n ≢ 1 → bit (n == 1) ≡ 0
not_one n h = ap bit (false_from_ne_true (n == 1) (λ e. h (eqb-true n 1 e)))

-- what an object counts where another item has the place of its own
recounted : (x y : Counted) (rest : List Counted) (old new : EntryValue) (n : Name) → IsWith x rest old.items → IsWith y rest new.items → y.object ≡ x.object → counted new.items n + cond (name_eq x.object n) x.count 0 ≡ counted old.items n + cond (name_eq x.object n) y.count 0
recounted x y rest old new n was is same =
    let now : adds n y ≡ cond (name_eq x.object n) y.count 0 = ap (λ (k : Name). cond (name_eq k n) y.count 0) same in
    omega (arith, with_total (adds n) x rest old.items was, with_total (adds n) y rest new.items is, now)

pub more_there : (x y : Counted) (rest : List Counted) (old new : EntryValue) (t : Name) → IsWith x rest old.items → IsWith y rest new.items → total (hits t) old.items ≤ 1 → 0 < x.count → x.object ≡ t → name_eq x.object t ≡ true → y.object ≡ x.object → y.count ≡ x.count + 1 → new.homes ≡ old.homes → new.room ≡ old.room → AreEntries new → HasMore old new t
more_there x y rest old new t was is distinct some named hit same more homes room entries =
    record {
      counts = λ n. by_test n (name_eq t n) refl;
      items = omega (arith, with_length x rest old.items was, with_length y rest new.items is, is_zero (counted old.items t) (omega (arith, some, counted_with x rest old.items t was distinct hit)));
      homes = homes;
      room = room;
      entries = entries;
    }
  where
    by_test : (n : Name) (b : Bool) → name_eq t n ≡ b → counted new.items n ≡ counted old.items n + cond (name_eq t n) 1 0
    by_test n true on =
        let test : name_eq x.object n ≡ true = ap (λ (k : Name). name_eq k n) named ∙ on in
        let before : cond (name_eq x.object n) x.count 0 ≡ x.count = ap (λ b. cond b x.count 0) test in
        let after : cond (name_eq x.object n) y.count 0 ≡ y.count = ap (λ b. cond b y.count 0) test in
        let one : bit (name_eq t n) ≡ 1 = ap bit on in
        omega (arith, recounted x y rest old new n was is same, before, after, one, more)
    by_test n false off =
        let test : name_eq x.object n ≡ false = ap (λ (k : Name). name_eq k n) named ∙ off in
        let before : cond (name_eq x.object n) x.count 0 ≡ 0 = ap (λ b. cond b x.count 0) test in
        let after : cond (name_eq x.object n) y.count 0 ≡ 0 = ap (λ b. cond b y.count 0) test in
        let none : bit (name_eq t n) ≡ 0 = ap bit off in
        omega (arith, recounted x y rest old new n was is same, before, after, none)

pub less_there : (x y : Counted) (rest : List Counted) (old new : EntryValue) (t : Name) → IsWith x rest old.items → IsWith y rest new.items → total (hits t) old.items ≤ 1 → x.count ≢ 1 → x.object ≡ t → name_eq x.object t ≡ true → y.object ≡ x.object → y.count + 1 ≡ x.count → new.homes ≡ old.homes → new.room ≡ old.room → AreEntries new → HasLess old new t
less_there x y rest old new t was is distinct some named hit same less homes room entries =
    record {
      counts = λ n. by_test n (name_eq t n) refl;
      items = omega (arith, with_length x rest old.items was, with_length y rest new.items is, not_one (counted old.items t) (λ e. some (sym (counted_with x rest old.items t was distinct hit) ∙ e)));
      homes = homes;
      room = room;
      entries = entries;
    }
  where
    by_test : (n : Name) (b : Bool) → name_eq t n ≡ b → counted new.items n + cond (name_eq t n) 1 0 ≡ counted old.items n
    by_test n true on =
        let test : name_eq x.object n ≡ true = ap (λ (k : Name). name_eq k n) named ∙ on in
        let before : cond (name_eq x.object n) x.count 0 ≡ x.count = ap (λ b. cond b x.count 0) test in
        let after : cond (name_eq x.object n) y.count 0 ≡ y.count = ap (λ b. cond b y.count 0) test in
        let one : bit (name_eq t n) ≡ 1 = ap bit on in
        omega (arith, recounted x y rest old new n was is same, before, after, one, less)
    by_test n false off =
        let test : name_eq x.object n ≡ false = ap (λ (k : Name). name_eq k n) named ∙ off in
        let before : cond (name_eq x.object n) x.count 0 ≡ 0 = ap (λ b. cond b x.count 0) test in
        let after : cond (name_eq x.object n) y.count 0 ≡ 0 = ap (λ b. cond b y.count 0) test in
        let none : bit (name_eq t n) ≡ 0 = ap bit off in
        omega (arith, recounted x y rest old new n was is same, before, after, none)

-- an item of one comes or goes
adds_one : (y : Counted) (t n : Name) → y.object ≡ t → y.count ≡ 1 → adds n y ≡ cond (name_eq t n) 1 0
adds_one y t n named one = ap₂ (λ (k : Name) m. cond (name_eq k n) m 0) named one

pub more_new : (y : Counted) (old new : EntryValue) (t : Name) → IsWith y old.items new.items → y.object ≡ t → y.count ≡ 1 → counted old.items t ≡ 0 → new.homes ≡ old.homes → new.room ≡ old.room → AreEntries new → HasMore old new t
more_new y old new t is named one none homes room entries =
    let none_bit : bit (counted old.items t == 0) ≡ 1 = ap (λ n. bit (n == 0)) none in
    record {
      counts = λ n. omega (arith, with_total (adds n) y old.items new.items is, adds_one y t n named one);
      items = omega (arith, with_length y old.items new.items is, none_bit);
      homes = homes;
      room = room;
      entries = entries;
    }

pub less_gone : (x : Counted) (old new : EntryValue) (t : Name) → IsWith x new.items old.items → total (hits t) old.items ≤ 1 → x.object ≡ t → name_eq x.object t ≡ true → x.count ≡ 1 → new.homes ≡ old.homes → new.room ≡ old.room → AreEntries new → HasLess old new t
less_gone x old new t was distinct named hit one homes room entries =
    let all : bit (counted old.items t == 1) ≡ 1 = ap (λ n. bit (n == 1)) (counted_with x new.items old.items t was distinct hit ∙ one) in
    record {
      counts = λ n. omega (arith, with_total (adds n) x new.items old.items was, adds_one x t n named one);
      items = omega (arith, with_length x new.items old.items was, all);
      homes = homes;
      room = room;
      entries = entries;
    }

-- items of slots
pub none_at : (slots : List Item) (xs : List ℕ) (t : Name) → ((j : ℕ) → is_in xs j ≡ true → name_eq (at slots j).target t ≡ false) → total (hits t) (map (row_at slots) xs) ≡ 0
none_at slots [] t none = refl
none_at slots (x ∷ xs) t none =
    let off : hits t (row_at slots x) ≡ 0 = ap bit (none x (in_head x xs)) in
    omega (arith, off, none_at slots xs t (λ j e. none j (cons_in x j xs e)))

rows_split : (slots : List Item) (before after : List ℕ) (j : ℕ) (t : Name) → total (hits t) (map (row_at slots) (before ++ j ∷ after)) ≡ total (hits t) (map (row_at slots) before) + (hits t (row_at slots j) + total (hits t) (map (row_at slots) after))
rows_split slots before after j t = ap (λ rows. total (hits t) rows) (map-append (row_at slots) before (j ∷ after)) ∙ total_append (hits t) (map (row_at slots) before) (map (row_at slots) (j ∷ after))

pub one_at : (slots : List Item) (xs : List ℕ) (t : Name) (j : ℕ) → is_in xs j ≡ true → name_eq (at slots j).target t ≡ true → 1 ≤ total (hits t) (map (row_at slots) xs)
one_at slots xs t j there is =
    let s = split xs j there in
    let one : hits t (row_at slots j) ≡ 1 = ap bit is in
    omega (arith, one, rows_split slots s.before s.after j t, ap (λ ys. total (hits t) (map (row_at slots) ys)) s.whole)

-- an object has one slot, which is used once
pub one_slot : (slots : List Item) (xs : List ℕ) (t : Name) (i j : ℕ) → total (hits t) (map (row_at slots) xs) ≤ 1 → is_in xs i ≡ true → name_eq (at slots i).target t ≡ true → is_in xs j ≡ true → name_eq (at slots j).target t ≡ true → j ≡ i
one_slot slots xs t i j distinct there is there_j is_j = by_side (split xs i there)
  where
    by_side : Split xs i → j ≡ i
    by_side s =
        let one : hits t (row_at slots i) ≡ 1 = ap bit is in
        let all = rows_split slots s.before s.after i t in
        let whole = ap (λ ys. total (hits t) (map (row_at slots) ys)) s.whole in
        or_cases (is_in s.before j) (is_in (i ∷ s.after) j) (sym (ap (λ ys. is_in ys j) s.whole ∙ is_in_append s.before (i ∷ s.after) j) ∙ there_j) (j ≡ i)
        (λ e. absurd (omega (arith, distinct, one, all, whole, one_at slots s.before t j e is_j)))
        (λ e. or_cases (i == j) (is_in s.after j) e (j ≡ i) (λ same. sym (eqb-true i j same)) (λ later. absurd (omega (arith, distinct, one, all, whole, one_at slots s.after t j later is_j))))

pub single_slot : (slots : List Item) (xs : List ℕ) (t : Name) (i : ℕ) → total (hits t) (map (row_at slots) xs) ≤ 1 → is_in xs i ≡ true → name_eq (at slots i).target t ≡ true → Single xs i
single_slot slots xs t i distinct there is =
    let s = split xs i there in
    let one : hits t (row_at slots i) ≡ 1 = ap bit is in
    record {
      before = s.before;
      after = s.after;
      whole = s.whole;
      absent = s.absent;
      gone = false_from_ne_true (is_in s.after i) (λ e. absurd (omega (arith, distinct, one, rows_split slots s.before s.after i t, ap (λ ys. total (hits t) (map (row_at slots) ys)) s.whole, one_at slots s.after t i e is)));
    }
