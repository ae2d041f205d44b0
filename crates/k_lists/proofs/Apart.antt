-- Lists that have no number twice.
use Rattle.std.proofs.Common.{◌≡◌, ◌≢◌, ◌<◌, ◌≤◌, ◌⊎◌, ℕ, true, sym, ap, subst, ◌∙◌, inl, inr, List, [], length, set, slice_get, Some}
use Rattle.std.proofs.lemmas.Bool.{cases_eq, false≢true}
use Rattle.std.proofs.lemmas.List.{get_or-set_same, get_or-set_other}
use Rattle.k_lists.specs.Lists.{ListsValue, AreApart, IsFree, members, is_in}
use Rattle.k_lists.proofs.Members.{in_at, place_of, distinct_from_places, distinct_places, distinct_length, AreDistinct}

pub apart_in : (v : ListsValue) (a i : ℕ) → AreApart v → is_in (members v a) i ≡ true → i < v.room
apart_in v a i apart within = let p = place_of (members v a) i within in apart.below a p.0 i p.1

pub apart_one : (v : ListsValue) (a b i : ℕ) → AreApart v → is_in (members v a) i ≡ true → is_in (members v b) i ≡ true → a ≡ b
apart_one v a b i apart here there =
    let p = place_of (members v a) i here in
    let q = place_of (members v b) i there in
    (apart.once a b p.0 q.0 i p.1 q.1).0

pub apart_distinct : (v : ListsValue) (a : ℕ) → AreApart v → AreDistinct (members v a)
apart_distinct v a apart = distinct_from_places (members v a) (λ j k i here there. (apart.once a a j k i here there).1)

pub apart_length : (v : ListsValue) (a : ℕ) → AreApart v → length (members v a) ≤ v.room
apart_length v a apart = distinct_length (members v a) v.room (apart_distinct v a apart) (λ i within. apart_in v a i apart within)

pub apart_from : (v : ListsValue) → ((a i : ℕ) → is_in (members v a) i ≡ true → i < v.room) → ((a : ℕ) → AreDistinct (members v a)) →
    ((a b i : ℕ) → is_in (members v a) i ≡ true → is_in (members v b) i ≡ true → a ≡ b) → AreApart v
apart_from v below distinct one = record {
  below = λ a place i here. below a i (in_at (members v a) place i here);
  once = λ a b j k i here there.
      let same = one a b i (in_at (members v a) j i here) (in_at (members v b) k i there) in
      (same, distinct_places (members v a) j k i (distinct a) here (subst (λ c. slice_get (members v c) k ≡ Some i) (sym same) there));
}

-- the lists where one of them is another
abbrev pub with_list : ListsValue → ℕ → List ℕ → ListsValue
with_list v list ys = record v { lists = set v.lists list ys }

pub with_here : (v : ListsValue) (list : ℕ) (ys : List ℕ) → list < length v.lists → members (with_list v list ys) list ≡ ys
with_here v list ys within = get_or-set_same v.lists list ys [] within

pub with_other : (v : ListsValue) (list : ℕ) (ys : List ℕ) (a : ℕ) → a ≢ list → members (with_list v list ys) a ≡ members v a
with_other v list ys a differs = get_or-set_other v.lists list a ys [] differs

-- the new list has members of the old one, and numbers that were in none
pub apart_with : (v : ListsValue) (list : ℕ) (ys : List ℕ) → AreApart v → list < length v.lists → AreDistinct ys →
    ((i : ℕ) → is_in ys i ≡ true → (is_in (members v list) i ≡ true) ⊎ (IsFree v i × (i < v.room))) → AreApart (with_list v list ys)
apart_with v list ys apart within distinct from = apart_from (with_list v list ys) below each one
  where
    where_in : (a i : ℕ) → is_in (members (with_list v list ys) a) i ≡ true → ((a ≡ list) × (is_in ys i ≡ true)) ⊎ (is_in (members v a) i ≡ true)
    where_in a i is = elim (cases_eq a list) [
      | inl same ↦ inl (same, ap (λ xs. is_in xs i) (sym (ap (members (with_list v list ys)) same ∙ with_here v list ys within)) ∙ is)
      | inr differs ↦ inr (ap (λ xs. is_in xs i) (sym (with_other v list ys a differs)) ∙ is)
    ]

    below : (a i : ℕ) → is_in (members (with_list v list ys) a) i ≡ true → i < v.room
    below a i is = elim (where_in a i is) [
      | inl new ↦ elim (from i new.1) [ inl was ↦ apart_in v list i apart was | inr free ↦ free.1 ]
      | inr old ↦ apart_in v a i apart old
    ]

    each : (a : ℕ) → AreDistinct (members (with_list v list ys) a)
    each a = elim (cases_eq a list) [
      | inl same ↦ subst AreDistinct (sym (ap (members (with_list v list ys)) same ∙ with_here v list ys within)) distinct
      | inr differs ↦ subst AreDistinct (sym (with_other v list ys a differs)) (apart_distinct v a apart)
    ]

    mixed : (b i : ℕ) → is_in ys i ≡ true → is_in (members v b) i ≡ true → list ≡ b
    mixed b i new old = elim (from i new) [ inl was ↦ apart_one v list b i apart was old | inr free ↦ absurd (false≢true (sym (free.0 b) ∙ old)) ]

    one : (a b i : ℕ) → is_in (members (with_list v list ys) a) i ≡ true → is_in (members (with_list v list ys) b) i ≡ true → a ≡ b
    one a b i here there = elim (where_in a i here) [
      | inl p ↦ elim (where_in b i there) [ inl q ↦ p.0 ∙ sym q.0 | inr q ↦ p.0 ∙ mixed b i p.1 q ]
      | inr p ↦ elim (where_in b i there) [ inl q ↦ sym (q.0 ∙ mixed a i q.1 p) | inr q ↦ apart_one v a b i apart p q ]
    ]
