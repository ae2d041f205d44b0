-- Members of lists, and the way along one.
use Rattle.std.proofs.Common.{◌≡◌, ◌≢◌, ◌==◌, ◌||◌, not, ℕ, zero, suc, ◌+◌, ◌<◌, Bool, true, false, cond, refl, sym, ap, ap₂, subst, ◌∙◌, List, [], ◌∷◌, ◌++◌, length, slice_get, set, get_or, Option, Some, None, eqb-true, eq-eqb, append-nil, arith}
use Rattle.std.proofs.lemmas.Bool.{false_from_ne_true, or_left, or_right}
use Rattle.k_lists.specs.Lists.{ListsValue, AreApart, members, is_in, without}
use Rattle.k_lists.proofs.Members.{in_at, place_of}
use Rattle.k_entry.specs.Slots.{since, onward}
use Rattle.k_types.specs.declared.names.Name.{Name}
use Rattle.k_types.specs.Counted.{Counted}
use Rattle.k_types.specs.Names.{name_among, name_eq}
use Rattle.k_types.proofs.Lists.{some_one}
use Rattle.k_types.proofs.NameTests.{name_eq-same}
use Rattle.k_entry.specs.Entries.{first_object, objects, object_after}

-- no number stands in two places
abbrev pub Once : List ℕ → Type 0
Once xs = (j k i : ℕ) → slice_get xs j ≡ Some i → slice_get xs k ≡ Some i → j ≡ k

pub once_of : (v : ListsValue) (list : ℕ) → AreApart v → Once (members v list)
once_of v list apart = λ j k i a b. (apart.once list list j k i a b).1

pub once_tail : (x : ℕ) (xs : List ℕ) → Once (x ∷ xs) → Once xs
once_tail x xs once = λ j k i a b. let e : suc j ≡ suc k = once (suc j) (suc k) i a b in omega arith

-- the number stands after these, where it is met first
pub record Split (xs : List ℕ) (i : ℕ) : Type 0 where
  pub before : List ℕ
  pub after : List ℕ
  pub whole : xs ≡ before ++ i ∷ after
  pub absent : is_in before i ≡ false

pub split : (xs : List ℕ) (i : ℕ) → is_in xs i ≡ true → Split xs i
split [] i e = absurd (cc)
split (x ∷ xs) i e = by_test (x == i) refl (split xs i)
  where
    by_test : (b : Bool) → (x == i) ≡ b → (is_in xs i ≡ true → Split xs i) → Split (x ∷ xs) i
    by_test true is ih = record { before = []; after = xs; whole = ap (λ y. y ∷ xs) (eqb-true x i is); absent = refl }
    by_test false off ih =
        let s = ih (ap (λ b. b || is_in xs i) (sym off) ∙ e) in
        record { before = x ∷ s.before; after = s.after; whole = ap (λ ys. x ∷ ys) s.whole; absent = ap (λ b. b || is_in s.before i) off ∙ s.absent }

pub seam : (before rest : List ℕ) (i : ℕ) → slice_get (before ++ i ∷ rest) (length before) ≡ Some i
seam [] rest i = refl
seam (x ∷ before) rest i = seam before rest i

pub seam_next : (before rest : List ℕ) (i : ℕ) → slice_get (before ++ i ∷ rest) (length before + 1) ≡ slice_get rest 0
seam_next before rest i = rw (one_more (length before)) (by_place before)
  where
    one_more : (n : ℕ) → n + 1 ≡ suc n
    one_more n = omega arith

    by_place : (before : List ℕ) → slice_get (before ++ i ∷ rest) (suc (length before)) ≡ slice_get rest 0
    by_place [] = refl
    by_place (x ∷ before) = by_place before

-- from the first of what is left on, just that is left
pub onward_rest : (before rest : List ℕ) → Once (before ++ rest) → onward (before ++ rest) (slice_get rest 0) ≡ rest
onward_rest [] [] once = refl
onward_rest [] (x ∷ rest) once = ap (λ b. cond b (x ∷ rest) (since x rest)) (eq-eqb x x refl)
onward_rest (b ∷ before) [] once = refl
onward_rest (b ∷ before) (x ∷ rest) once =
    let off : (b == x) ≡ false = false_from_ne_true (b == x) (λ e. let k : 0 ≡ suc (length before) = once 0 (suc (length before)) x (ap Some (eqb-true b x e)) (seam before rest x) in absurd (omega arith)) in
    ap (λ t. cond t (b ∷ (before ++ x ∷ rest)) (since x (before ++ x ∷ rest))) off ∙ onward_rest before (x ∷ rest) (once_tail b (before ++ x ∷ rest) once)

-- the next number on the way is the first of what is left
pub record IsOnWay (xs before : List ℕ) (next : Option ℕ) : Type 0 where
  pub rest : List ℕ
  pub whole : xs ≡ before ++ rest
  pub first : next ≡ slice_get rest 0

pub way_left : (xs before : List ℕ) (next : Option ℕ) (w : IsOnWay xs before next) → Once xs → onward xs next ≡ w.rest
way_left xs before next w once =
    ap₂ (λ ys o. onward ys o) w.whole w.first ∙ onward_rest before w.rest (subst (λ ys. Once ys) w.whole once)

pub shifted : (before rest : List ℕ) (i : ℕ) → (before ++ i ∷ []) ++ rest ≡ before ++ i ∷ rest
shifted [] rest i = refl
shifted (b ∷ before) rest i = ap (λ ys. b ∷ ys) (shifted before rest i)

-- the step of the way at a number
pub record IsStep (xs before : List ℕ) (i : ℕ) (next : Option ℕ) : Type 0 where
  pub there : is_in xs i ≡ true
  pub on : IsOnWay xs (before ++ i ∷ []) next
  pub here : onward xs (Some i) ≡ i ∷ onward xs next

pub step : (xs before : List ℕ) (i : ℕ) (next : Option ℕ) → Once xs → IsOnWay xs before (Some i) → ((place : ℕ) → slice_get xs place ≡ Some i → next ≡ slice_get xs (place + 1)) → IsStep xs before i next
step xs before i next once w leads = by_rest w.rest refl
  where
    by_rest : (rest : List ℕ) → w.rest ≡ rest → IsStep xs before i next
    by_rest [] e = absurd (let bad : Some i ≡ None = w.first ∙ ap (λ ys. slice_get ys 0) e in cc)
    by_rest (x ∷ rest) e =
        let same : x ≡ i = (let f : Some i ≡ Some x = w.first ∙ ap (λ ys. slice_get ys 0) e in cc) in
        let whole : xs ≡ before ++ i ∷ rest = w.whole ∙ ap (λ ys. before ++ ys) e ∙ ap (λ y. before ++ y ∷ rest) same in
        let at : slice_get xs (length before) ≡ Some i = ap (λ ys. slice_get ys (length before)) whole ∙ seam before rest i in
        let next_is : next ≡ slice_get rest 0 = leads (length before) at ∙ ap (λ ys. slice_get ys (length before + 1)) whole ∙ seam_next before rest i in
        let on : IsOnWay xs (before ++ i ∷ []) next = record { rest = rest; whole = whole ∙ sym (shifted before rest i); first = next_is } in
        record {
          there = in_at xs (length before) i at;
          on = on;
          here = way_left xs before (Some i) w once ∙ e ∙ ap (λ y. y ∷ rest) same ∙ ap (λ ys. i ∷ ys) (sym (way_left xs (before ++ i ∷ []) next on once));
        }

pub way_in : (xs before : List ℕ) (i : ℕ) → IsOnWay xs before (Some i) → is_in xs i ≡ true
way_in xs before i w = by_rest w.rest refl
  where
    by_rest : (rest : List ℕ) → w.rest ≡ rest → is_in xs i ≡ true
    by_rest [] e = absurd (let bad : Some i ≡ None = w.first ∙ ap (λ ys. slice_get ys 0) e in cc)
    by_rest (x ∷ rest) e =
        let f : Some i ≡ Some x = w.first ∙ ap (λ ys. slice_get ys 0) e in
        let same : x ≡ i = cc in
        in_at xs (length before) i (ap (λ ys. slice_get ys (length before)) (w.whole ∙ ap (λ ys. before ++ ys) e ∙ ap (λ y. before ++ y ∷ rest) same) ∙ seam before rest i)

-- where a way can begin
pub way_at : (xs : List ℕ) (i : ℕ) → is_in xs i ≡ true → (before : List ℕ) × IsOnWay xs before (Some i)
way_at xs i e = let s = split xs i e in (s.before, record { rest = i ∷ s.after; whole = s.whole; first = refl })

pub way_end : (xs : List ℕ) → IsOnWay xs xs None
way_end xs = record { rest = []; whole = sym (append-nil xs); first = refl }

-- members of joined lists, and of lists without a number
pub is_in_append : (xs ys : List ℕ) (i : ℕ) → is_in (xs ++ ys) i ≡ (is_in xs i || is_in ys i)
is_in_append [] ys i = refl
is_in_append (x ∷ xs) ys i = by_test (x == i) (is_in_append xs ys i)
  where
    by_test : (b : Bool) → is_in (xs ++ ys) i ≡ (is_in xs i || is_in ys i) → (b || is_in (xs ++ ys) i) ≡ ((b || is_in xs i) || is_in ys i)
    by_test true ih = refl
    by_test false ih = ih

-- what is in a list with one number more
pub in_cons : (x i : ℕ) (xs : List ℕ) → is_in (x ∷ xs) i ≡ true → (x ≢ i) → is_in xs i ≡ true
in_cons x i xs e ne = ap (λ b. b || is_in xs i) (sym (false_from_ne_true (x == i) (λ t. ne (eqb-true x i t)))) ∙ e

pub cons_in : (x i : ℕ) (xs : List ℕ) → is_in xs i ≡ true → is_in (x ∷ xs) i ≡ true
cons_in x i xs e = or_right (x == i) (is_in xs i) e

pub without_in : (x i : ℕ) (xs : List ℕ) → is_in (without x xs) i ≡ true → (x ≢ i) × (is_in xs i ≡ true)
without_in x i [] e = absurd (cc)
without_in x i (y ∷ ys) e = by_test (y == x) refl (without_in x i ys)
  where
    by_head : (b : Bool) → (y == i) ≡ b → (y == x) ≡ false → (is_in (without x ys) i ≡ true → (x ≢ i) × (is_in ys i ≡ true)) → is_in (y ∷ without x ys) i ≡ true → (x ≢ i) × (is_in (y ∷ ys) i ≡ true)
    by_head true here off ih there = (λ e. let bad : true ≡ false = sym (eq-eqb y x (eqb-true y i here ∙ sym e)) ∙ off in absurd (cc), or_left (y == i) (is_in ys i) here)
    by_head false off_i off ih there = let found = ih (ap (λ b. b || is_in (without x ys) i) (sym off_i) ∙ there) in (found.0, cons_in y i ys found.1)

    by_test : (b : Bool) → (y == x) ≡ b → (is_in (without x ys) i ≡ true → (x ≢ i) × (is_in ys i ≡ true)) → (x ≢ i) × (is_in (y ∷ ys) i ≡ true)
    by_test true is ih = let found = ih (ap (λ b. is_in (cond (not b) (y ∷ without x ys) (without x ys)) i) (sym is) ∙ e) in (found.0, cons_in y i ys found.1)
    by_test false off ih = by_head (y == i) refl off ih (ap (λ b. is_in (cond (not b) (y ∷ without x ys) (without x ys)) i) (sym off) ∙ e)

pub in_without : (x i : ℕ) (xs : List ℕ) → is_in xs i ≡ true → (x ≢ i) → is_in (without x xs) i ≡ true
in_without x i [] e ne = absurd (cc)
in_without x i (y ∷ ys) e ne = by_test (y == x) refl (λ t. in_without x i ys t ne)
  where
    by_head : (b : Bool) → (y == i) ≡ b → (is_in ys i ≡ true → is_in (without x ys) i ≡ true) → is_in (y ∷ without x ys) i ≡ true
    by_head true here ih = or_left (y == i) (is_in (without x ys) i) here
    by_head false off_i ih = cons_in y i (without x ys) (ih (ap (λ b. b || is_in ys i) (sym off_i) ∙ e))

    by_test : (b : Bool) → (y == x) ≡ b → (is_in ys i ≡ true → is_in (without x ys) i ≡ true) → is_in (without x (y ∷ ys)) i ≡ true
    by_test true is ih =
        let other : y ≢ i = λ t. ne (sym (eqb-true y x is) ∙ t) in
        ap (λ b. is_in (cond (not b) (y ∷ without x ys) (without x ys)) i) is ∙ ih (in_cons y i ys e other)
    by_test false off ih = ap (λ b. is_in (cond (not b) (y ∷ without x ys) (without x ys)) i) off ∙ by_head (y == i) refl ih

pub without_same : (x : ℕ) (xs : List ℕ) → is_in xs x ≡ false → without x xs ≡ xs
without_same x [] e = refl
without_same x (y ∷ ys) e = by_test (y == x) refl (without_same x ys)
  where
    by_test : (b : Bool) → (y == x) ≡ b → (is_in ys x ≡ false → without x ys ≡ ys) → without x (y ∷ ys) ≡ y ∷ ys
    by_test true is ih = absurd (let bad : true ≡ false = sym (or_left (y == x) (is_in ys x) is) ∙ e in cc)
    by_test false off ih = ap (λ b. cond (not b) (y ∷ without x ys) (without x ys)) off ∙ ap (λ zs. y ∷ zs) (ih (ap (λ b. b || is_in ys x) (sym off) ∙ e))

-- what is left of a list in which a number stands once
pub without_split : (x : ℕ) (before after : List ℕ) → is_in before x ≡ false → is_in after x ≡ false → without x (before ++ x ∷ after) ≡ before ++ after
without_split x [] after a b = ap (λ t. cond (not t) (x ∷ without x after) (without x after)) (eq-eqb x x refl) ∙ without_same x after b
without_split x (y ∷ before) after a b =
    let off : (y == x) ≡ false = false_from_ne_true (y == x) (λ t. let bad : true ≡ false = sym (or_left (y == x) (is_in before x) t) ∙ a in cc) in
    ap (λ t. cond (not t) (y ∷ without x (before ++ x ∷ after)) (without x (before ++ x ∷ after))) off
    ∙ ap (λ zs. y ∷ zs) (without_split x before after (ap (λ b. b || is_in before x) (sym off) ∙ a) b)

-- a number that stands once is not met again
pub once_after : (before after : List ℕ) (i : ℕ) → Once (before ++ i ∷ after) → is_in after i ≡ false
once_after before after i once =
    false_from_ne_true (is_in after i) (λ e.
    let p = place_of after i e in
    let k : length before ≡ length before + suc p.0 = once (length before) (length before + suc p.0) i (seam before after i) (later before p.0 p.1) in
    absurd (omega arith))
  where
    later : (before : List ℕ) (k : ℕ) → slice_get after k ≡ Some i → slice_get (before ++ i ∷ after) (length before + suc k) ≡ Some i
    later [] k e = subst (λ n. slice_get (i ∷ after) n ≡ Some i) (by_zero k) e
      where
        by_zero : (k : ℕ) → suc k ≡ 0 + suc k
        by_zero k = omega arith
    later (b ∷ before) k e = subst (λ n. slice_get (b ∷ (before ++ i ∷ after)) n ≡ Some i) (by_suc (length before) k) (later before k e)
      where
        by_suc : (n k : ℕ) → suc (n + suc k) ≡ suc n + suc k
        by_suc n k = omega arith

-- the lists after one of them was written
pub members_here : (v : ListsValue) (list : ℕ) (xs : List ℕ) → list < length v.lists → members (record v { lists = set v.lists list xs }) list ≡ xs
members_here v list xs within = by_place v.lists list within
  where
    by_place : (ls : List (List ℕ)) (k : ℕ) → k < length ls → get_or (set ls k xs) k [] ≡ xs
    by_place [] k w = absurd (omega arith)
    by_place (l ∷ ls) zero w = refl
    by_place (l ∷ ls) (suc k) w = by_place ls k (omega arith)

pub members_there : (v : ListsValue) (list other : ℕ) (xs : List ℕ) → (other ≢ list) → members (record v { lists = set v.lists list xs }) other ≡ members v other
members_there v list other xs ne = by_place v.lists list other ne
  where
    by_place : (ls : List (List ℕ)) (k j : ℕ) → (j ≢ k) → get_or (set ls k xs) j [] ≡ get_or ls j []
    by_place [] k j n = refl
    by_place (l ∷ ls) zero zero n = absurd (n refl)
    by_place (l ∷ ls) zero (suc j) n = refl
    by_place (l ∷ ls) (suc k) zero n = refl
    by_place (l ∷ ls) (suc k) (suc j) n = by_place ls k j (λ e. n (ap suc e))

pub in_within : (v : ListsValue) (list i : ℕ) → is_in (members v list) i ≡ true → list < length v.lists
in_within v list i e = by_place v.lists list e
  where
    by_place : (ls : List (List ℕ)) (k : ℕ) → is_in (get_or ls k []) i ≡ true → k < length ls
    by_place [] k t = absurd (cc)
    by_place (l ∷ ls) zero t = omega arith
    by_place (l ∷ ls) (suc k) t = let ih : k < length ls = by_place ls k t in omega arith

pub first_among : (items : List Counted) (u : Name) → first_object items ≡ Some u → name_among u (objects items) ≡ true
first_among [] u e = absurd (cc)
first_among (item ∷ items) u e = or_left _ _ (name_eq-same item.object u (some_one e))

pub after_among : (items : List Counted) (t u : Name) → object_after items t ≡ Some u → name_among u (objects items) ≡ true
after_among [] t u e = absurd (cc)
after_among (item ∷ items) t u e = go (λ is. after_among items t u is) (name_eq item.object t) e
  where
    go : (object_after items t ≡ Some u → name_among u (objects items) ≡ true) → (b : Bool) → cond b (first_object items) (object_after items t) ≡ Some u →
        (name_eq item.object u || name_among u (objects items)) ≡ true
    go rest true is = or_right _ _ (first_among items u is)
    go rest false is = or_right _ _ (rest is)
