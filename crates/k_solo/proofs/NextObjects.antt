-- The object that follows a name in the order of names.
use Rattle.std.proofs.Common.{◌≡◌, inl, inr, ℕ, zero, suc, ◌+◌, ◌<◌, ◌≤◌, ◌==◌, not, Bool, true, false, cond, refl, ap, ap₂, sym, subst, ◌∙◌, List, [], ◌∷◌, find, length, get_or, slice_get, Option, Some, None, arith, eq-eqb, ne_eqb}
use Rattle.std.specs.Prelude.{option_map}
use Rattle.std.specs.List.{AllByRecursion}
use Rattle.std.proofs.lemmas.Bool.{cases_eq, cases_lt, lt-ltb}
use Rattle.k_types.specs.declared.names.Name.{Name}
use Rattle.k_types.specs.Names.{name_lt}
use Rattle.k_types.specs.Sound.{IsOrdered}
use Rattle.k_types.specs.State.{Object}
use Rattle.k_types.proofs.NameTests.{by_segment_lt, name_lt_asym, name_lt_trans}
use Rattle.k_types.proofs.Ordered.{ordered_tail}
use Rattle.k_types.specs.Trace.{Trace, segment_count}
use Rattle.k_state.specs.Machines.{IsDeclared}
use Rattle.k_state.specs.Segments.{objects_in}
use Rattle.k_text.specs.Shown.{comes_after, next_name_after}
use Rattle.k_solo.specs.Places.{IsPlaceAfter, is_from}
use Rattle.k_state.proofs.Borders.{less_next, none_before, not_less}
use Rattle.k_state.proofs.Placed.{ordered_at}

-- what stands after an object that comes after the name comes after it too
pub after_from : (xs : List Object) (n : Name) (m k : ℕ) (d : Object) → IsOrdered xs → m ≤ k → k < length xs → name_lt n (get_or xs m d).name ≡ true →
    name_lt n (get_or xs k d).name ≡ true
after_from xs n m k d ordered low inside lt =
    elim (cases_eq m k) [
      | inl same ↦ subst (λ i. name_lt n (get_or xs i d).name ≡ true) same lt
      | inr apart ↦ name_lt_trans n (get_or xs m d).name (get_or xs k d).name lt (ordered_at xs m k d ordered (omega (arith, apart)) inside)
    ]

-- and what stands before one that does not, does not
pub not_after_through : (xs : List Object) (n : Name) (m k : ℕ) (d : Object) → IsOrdered xs → m < length xs → name_lt n (get_or xs m d).name ≡ false → k ≤ m →
    name_lt n (get_or xs k d).name ≡ false
not_after_through xs n m k d ordered inside not low = go (name_lt n (get_or xs k d).name) refl
  where
    go : (b : Bool) → name_lt n (get_or xs k d).name ≡ b → name_lt n (get_or xs k d).name ≡ false
    go true lt = absurd (let on = after_from xs n k m d ordered low inside lt in cc (on, not))
    go false e = e

find_from : (test : Object → Bool) (xs : List Object) (at : ℕ) → at ≤ length xs → ((k : ℕ) (d : Object) → k < at → test (get_or xs k d) ≡ false) →
    ((k : ℕ) (d : Object) → at ≤ k → k < length xs → test (get_or xs k d) ≡ true) → find test xs ≡ slice_get xs at
find_from test [] zero within before after = refl
find_from test [] (suc at) within before after = absurd (omega arith)
find_from test (x ∷ xs) zero within before after = ap (λ b. cond b (Some x) (find test xs)) (after 0 x (omega arith) (omega arith))
find_from test (x ∷ xs) (suc at) within before after =
    ap (λ b. cond b (Some x) (find test xs)) (before 0 x (omega arith))
    ∙ find_from test xs at (omega arith) (λ k d low. before (suc k) d (omega arith)) (λ k d low inside. after (suc k) d (omega arith) (omega arith))

-- what is found by halving
pub next_at : (n : Name) (xs : List Object) (at : ℕ) → IsPlaceAfter xs n at → find (comes_after (Some n)) xs ≡ slice_get xs at
next_at n xs at place = find_from (comes_after (Some n)) xs at place.within place.before place.after

-- from the first segment on all follow
pub next_first : (xs : List Object) → next_name_after None xs ≡ option_map (λ (o : Object). o.name) (find (is_from 0) xs)
next_first [] = refl
next_first (x ∷ xs) = ap (λ b. option_map (λ (o : Object). o.name) (cond (not b) (Some x) (find (is_from 0) xs))) (sym (not_less x.name.seg.0 0 (omega arith)))

-- the first of a segment that has objects
pub first_is : (xs : List Object) (k : ℕ) (o : Object) → IsOrdered xs → slice_get (objects_in xs k) 0 ≡ Some o → find (is_from k) xs ≡ Some o
first_is [] k o ordered found = absurd (cc found)
first_is (x ∷ xs) k o ordered found =
    elim (cases_lt x.name.seg.0 k) [
      | inl low ↦
          let out : (x.name.seg.0 == k) ≡ false = ne_eqb x.name.seg.0 k (λ e. omega (arith, e, low)) in
          ap (λ b. cond (not b) (Some x) (find (is_from k) xs)) (lt-ltb x.name.seg.0 k low)
          ∙ first_is xs k o (ordered_tail x.name xs ordered) (sym (ap (λ b. slice_get (cond b (x ∷ objects_in xs k) (objects_in xs k)) 0) out) ∙ found)
      | inr high ↦
          ap (λ b. cond (not b) (Some x) (find (is_from k) xs)) (not_less x.name.seg.0 k high)
          ∙ elim (cases_eq x.name.seg.0 k) [
            | inl same ↦ sym (ap (λ b. slice_get (cond b (x ∷ objects_in xs k) (objects_in xs k)) 0) (eq-eqb x.name.seg.0 k same)) ∙ found
            | inr apart ↦
                let out : (x.name.seg.0 == k) ≡ false = ne_eqb x.name.seg.0 k apart in
                let none : objects_in xs k ≡ [] = none_before x.name xs k (omega (arith, high, apart)) ordered in
                let nothing : ◌≡◌ {A = Option Object} None (Some o)
                = sym (ap (λ ys. slice_get ys 0) none) ∙ sym (ap (λ b. slice_get (cond b (x ∷ objects_in xs k) (objects_in xs k)) 0) out) ∙ found in
                absurd (cc nothing)
          ]
    ]

-- a segment that has none is passed over
pub first_later : (xs : List Object) (k : ℕ) → slice_get (objects_in xs k) 0 ≡ None → find (is_from k) xs ≡ find (is_from (k + 1)) xs
first_later [] k none = refl
first_later (x ∷ xs) k none =
    elim (cases_eq x.name.seg.0 k) [
      | inl same ↦
          let nothing : ◌≡◌ {A = Option Object} (Some x) None = sym (ap (λ b. slice_get (cond b (x ∷ objects_in xs k) (objects_in xs k)) 0) (eq-eqb x.name.seg.0 k same)) ∙ none in
          absurd (cc nothing)
      | inr apart ↦
          let ih = first_later xs k (sym (ap (λ b. slice_get (cond b (x ∷ objects_in xs k) (objects_in xs k)) 0) (ne_eqb x.name.seg.0 k apart)) ∙ none) in
          ap₂ (λ b ys. cond (not b) (Some x) ys) (less_next x.name.seg.0 k apart) ih
    ]

-- past the last segment there is none
pub first_past : (setup : Trace) (xs : List Object) (k : ℕ) → segment_count setup ≤ k → AllByRecursion (IsDeclared setup) xs → find (is_from k) xs ≡ None
first_past setup [] k past all = refl
first_past setup (x ∷ xs) k past all =
    let low = (all.0).seg in
    ap (λ b. cond (not b) (Some x) (find (is_from k) xs)) (lt-ltb x.name.seg.0 k (omega (arith, low, past))) ∙ first_past setup xs k past all.1

-- nor one that comes after a name past it
pub next_past : (setup : Trace) (xs : List Object) (n : Name) → segment_count setup ≤ n.seg.0 → AllByRecursion (IsDeclared setup) xs → find (comes_after (Some n)) xs ≡ None
next_past setup [] n past all = refl
next_past setup (x ∷ xs) n past all =
    let low = (all.0).seg in
    ap (λ b. cond b (Some x) (find (comes_after (Some n)) xs)) (name_lt_asym x.name n (by_segment_lt x.name n (omega (arith, low, past)))) ∙ next_past setup xs n past all.1

-- the next of the segment, or the first of those after it
pub next_own : (xs : List Object) (n : Name) (o : Object) → IsOrdered xs → find (comes_after (Some n)) (objects_in xs n.seg.0) ≡ Some o → find (comes_after (Some n)) xs ≡ Some o
next_own [] n o ordered found = found
next_own (x ∷ xs) n o ordered found =
    let own = objects_in xs n.seg.0 in
    let rest = find (comes_after (Some n)) xs in
    elim (cases_eq x.name.seg.0 n.seg.0) [
      | inl same ↦
          let here : cond (name_lt n x.name) (Some x) (find (comes_after (Some n)) own) ≡ Some o
          = sym (ap (λ b. find (comes_after (Some n)) (cond b (x ∷ own) own)) (eq-eqb x.name.seg.0 n.seg.0 same)) ∙ found in
          elim (name_lt n x.name) as (λ b. cond b (Some x) (find (comes_after (Some n)) own) ≡ Some o → cond b (Some x) rest ≡ Some o) [
            | true ↦ λ f. f
            | false ↦ λ f. next_own xs n o (ordered_tail x.name xs ordered) f
          ] here
      | inr apart ↦
          let there : find (comes_after (Some n)) own ≡ Some o
          = sym (ap (λ b. find (comes_after (Some n)) (cond b (x ∷ own) own)) (ne_eqb x.name.seg.0 n.seg.0 apart)) ∙ found in
          elim (cases_lt x.name.seg.0 n.seg.0) [
            | inl low ↦
                ap (λ b. cond b (Some x) rest) (name_lt_asym x.name n (by_segment_lt x.name n low)) ∙ next_own xs n o (ordered_tail x.name xs ordered) there
            | inr high ↦
                let none : own ≡ [] = none_before x.name xs n.seg.0 (omega (arith, high, apart)) ordered in
                let nothing : ◌≡◌ {A = Option Object} None (Some o) = sym (ap (find (comes_after (Some n))) none) ∙ there in
                absurd (cc nothing)
          ]
    ]

pub next_other : (xs : List Object) (n : Name) → IsOrdered xs → find (comes_after (Some n)) (objects_in xs n.seg.0) ≡ None → find (comes_after (Some n)) xs ≡ find (is_from (n.seg.0 + 1)) xs
next_other [] n ordered none = refl
next_other (x ∷ xs) n ordered none =
    let own = objects_in xs n.seg.0 in
    let rest = find (comes_after (Some n)) xs in
    let later = find (is_from (n.seg.0 + 1)) xs in
    elim (cases_lt x.name.seg.0 (n.seg.0 + 1)) [
      | inl low ↦
          let skip : find (is_from (n.seg.0 + 1)) (x ∷ xs) ≡ later = ap (λ b. cond (not b) (Some x) later) (lt-ltb x.name.seg.0 (n.seg.0 + 1) low) in
          elim (cases_eq x.name.seg.0 n.seg.0) [
            | inl same ↦
                let here : cond (name_lt n x.name) (Some x) (find (comes_after (Some n)) own) ≡ None
                = sym (ap (λ b. find (comes_after (Some n)) (cond b (x ∷ own) own)) (eq-eqb x.name.seg.0 n.seg.0 same)) ∙ none in
                elim (name_lt n x.name) as (λ b. cond b (Some x) (find (comes_after (Some n)) own) ≡ None → cond b (Some x) rest ≡ find (is_from (n.seg.0 + 1)) (x ∷ xs)) [
                  | true ↦ λ f. absurd (cc f)
                  | false ↦ λ f. next_other xs n (ordered_tail x.name xs ordered) f ∙ sym skip
                ] here
            | inr apart ↦
                let there = sym (ap (λ b. find (comes_after (Some n)) (cond b (x ∷ own) own)) (ne_eqb x.name.seg.0 n.seg.0 apart)) ∙ none in
                ap (λ b. cond b (Some x) rest) (name_lt_asym x.name n (by_segment_lt x.name n (omega (arith, low, apart))))
                ∙ next_other xs n (ordered_tail x.name xs ordered) there
                ∙ sym skip
          ]
      | inr high ↦
          ap (λ b. cond b (Some x) rest) (by_segment_lt n x.name (omega (arith, high)))
          ∙ sym (ap (λ b. cond (not b) (Some x) later) (not_less x.name.seg.0 (n.seg.0 + 1) high))
    ]
