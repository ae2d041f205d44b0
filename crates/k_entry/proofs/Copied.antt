-- How much of a walk was copied to the end of a row.
use Rattle.std.proofs.Common.{◌≡◌, ◌<◌, ℕ, Bool, true, false, cond, refl, sym, ap, subst, ◌∙◌, List, [], ◌∷◌, ◌++◌, append_assoc, append-nil, length, map, slice_get, Option, Some, None, arith}
use Rattle.std.proofs.lemmas.Bool.{false≢true, true≢false}
use Rattle.std.proofs.lemmas.List.{length-append, length-map, map-append}
use Rattle.std.proofs.lemmas.List.Elements.{filter-append}
use Rattle.k_types.specs.declared.names.Name.{Name}
use Rattle.k_types.specs.declared.names.Heap.{Heap}
use Rattle.k_types.specs.Names.{heap_eq}
use Rattle.k_lists.specs.Lists.{ListsValue, members}
use Rattle.k_entry.specs.declared.item.Item.{Item}
use Rattle.k_entry.specs.Copies.{IsCopied}
use Rattle.k_entry.specs.Entries.{home_of, items_of, objects}
use Rattle.k_entry.specs.Slots.{at, homed, objects_in, row_at, AreKept, Parts, shown}
use Rattle.k_entry.proofs.HomeWalks.{segments_of, walk_is}
use Rattle.k_entry.proofs.Joined.{joined, joined_append}
use Rattle.k_entry.proofs.Members.{IsOnWay, IsStep}

pub copied_none : (room : ℕ) (old : List Name) → IsCopied room old old [] true
copied_none room old = record { written = []; left = []; parts = refl; row = sym (append-nil old); whole = λ t. refl; full = λ f. absurd (true≢false f) }

pub copied_whole : (room : ℕ) (old new names : List Name) (all : Bool) → IsCopied room old new names all → all ≡ true → new ≡ old ++ names
copied_whole room old new names all c on = c.row ∙ ap (λ ns. old ++ ns) (sym (c.parts ∙ ap (λ ns. c.written ++ ns) (c.whole on) ∙ append-nil c.written))

-- one name more
pub copied_one : (room : ℕ) (old now names : List Name) (x : Name) → IsCopied room old now names true → IsCopied room old (now ++ x ∷ []) (names ++ x ∷ []) true
copied_one room old now names x c = record {
  written = names ++ x ∷ [];
  left = [];
  parts = sym (append-nil (names ++ x ∷ []));
  row = ap (λ ns. ns ++ x ∷ []) (copied_whole room old now names true c refl) ∙ append_assoc old names (x ∷ []);
  whole = λ t. refl;
  full = λ f. absurd (true≢false f);
}

-- what comes after names that were copied whole
pub copied_then : (room : ℕ) (old now new names more : List Name) (first all : Bool) → first ≡ true → IsCopied room old now names first → IsCopied room now new more all → IsCopied room old new (names ++ more) all
copied_then room old now new names more first all on c d = record {
  written = names ++ d.written;
  left = d.left;
  parts = ap (λ ns. names ++ ns) d.parts ∙ sym (append_assoc names d.written d.left);
  row = d.row ∙ ap (λ ns. ns ++ d.written) (copied_whole room old now names first c on) ∙ append_assoc old names d.written;
  whole = d.whole;
  full = d.full;
}

-- what would come after names that had no room
pub copied_stopped : (room : ℕ) (old now names more : List Name) (all : Bool) → all ≡ false → IsCopied room old now names all → IsCopied room old now (names ++ more) false
copied_stopped room old now names more all off c = record {
  written = c.written;
  left = c.left ++ more;
  parts = ap (λ ns. ns ++ more) c.parts ∙ append_assoc c.written c.left more;
  row = c.row;
  whole = λ t. absurd (false≢true t);
  full = λ f. let full = c.full off in (full.0, omega (arith, full.1, length-append c.left more));
}

pub copied_full : (room : ℕ) (old now names more : List Name) → length now ≡ room → 0 < length more → IsCopied room old now names true → IsCopied room old now (names ++ more) false
copied_full room old now names more full some c = record {
  written = names;
  left = more;
  parts = refl;
  row = copied_whole room old now names true c refl;
  whole = λ t. absurd (false≢true t);
  full = λ f. (full, some);
}

-- the end of a way, and what is left before it
way_whole : (xs before : List ℕ) → IsOnWay xs before None → before ≡ xs
way_whole xs before w = by_rest w.rest refl
  where
    by_rest : (rest : List ℕ) → w.rest ≡ rest → before ≡ xs
    by_rest [] e = sym (w.whole ∙ ap (λ ys. before ++ ys) e ∙ append-nil before)
    by_rest (x ∷ rest) e = absurd (let bad : None ≡ Some x = w.first ∙ ap (λ ys. slice_get ys 0) e in cc)

some_left : (rest : List ℕ) (i : ℕ) → Some i ≡ slice_get rest 0 → 0 < length rest
some_left [] i e = absurd (cc)
some_left (x ∷ rest) i e = omega arith

objects_more : (slots : List Item) (xs ys : List ℕ) → objects_in slots (xs ++ ys) ≡ objects_in slots xs ++ objects_in slots ys
objects_more slots xs ys = map-append (λ i. (at slots i).target) xs ys

-- the slots before the next one are copied
pub record HasCopied (room : ℕ) (slots : List Item) (xs : List ℕ) (next : Option ℕ) (old now : List Name) : Type 0 where
  pub before : List ℕ
  pub on : IsOnWay xs before next
  pub copied : IsCopied room old now (objects_in slots before) true

pub copy_begins : (room : ℕ) (slots : List Item) (xs : List ℕ) (first : Option ℕ) (old : List Name) → first ≡ slice_get xs 0 → HasCopied room slots xs first old old
copy_begins room slots xs first old is = record { before = []; on = record { rest = xs; whole = refl; first = is }; copied = copied_none room old }

module _ (room : ℕ) (slots : List Item) (xs : List ℕ) (i : ℕ) (old now : List Name) (c : HasCopied room slots xs (Some i) old now) where
  pub copy_goes_on : (next : Option ℕ) → IsStep xs c.before i next → HasCopied room slots xs next old (now ++ (at slots i).target ∷ [])
  copy_goes_on next s = record {
    before = c.before ++ i ∷ [];
    on = s.on;
    copied = subst (λ ns. IsCopied room old (now ++ (at slots i).target ∷ []) ns true) (sym (objects_more slots c.before (i ∷ []))) (copied_one room old now (objects_in slots c.before) (at slots i).target c.copied);
  }

  pub copy_stops : length now ≡ room → IsCopied room old now (objects_in slots xs) false
  copy_stops full =
      subst (λ ns. IsCopied room old now ns false) (sym (ap (objects_in slots) c.on.whole ∙ objects_more slots c.before c.on.rest))
      (copied_full room old now (objects_in slots c.before) (objects_in slots c.on.rest) full (omega (arith, some_left c.on.rest i c.on.first, length-map c.on.rest (λ j. (at slots j).target))) c.copied)

pub copy_ends : (room : ℕ) (slots : List Item) (xs : List ℕ) (old now : List Name) → HasCopied room slots xs None old now → IsCopied room old now (objects_in slots xs) true
copy_ends room slots xs old now c = subst (λ is. IsCopied room old now (objects_in slots is) true) (way_whole xs c.before c.on) c.copied

-- the objects in the slots of the segments of a home, among these segments
abbrev pub objects_at : List Item → ListsValue → List Heap → Heap → List ℕ → List Name
objects_at slots segments homes heap xs = objects_in slots (joined (members segments) (homed homes heap xs))

-- the segments before the next one are copied
pub record HasCopiedLists (room : ℕ) (slots : List Item) (segments : ListsValue) (homes : List Heap) (heap : Heap) (xs : List ℕ) (next : Option ℕ) (old now : List Name) : Type 0 where
  pub before : List ℕ
  pub on : IsOnWay xs before next
  pub copied : IsCopied room old now (objects_at slots segments homes heap before) true

module _ (room : ℕ) (slots : List Item) (segments : ListsValue) (homes : List Heap) (heap : Heap) (xs : List ℕ) where
  abbrev names : List ℕ → List Name
  names ys = objects_at slots segments homes heap ys

  names_more : (ys zs : List ℕ) → names (ys ++ zs) ≡ names ys ++ names zs
  names_more ys zs =
      ap (λ is. objects_in slots (joined (members segments) is)) (filter-append (λ s. heap_eq (home_of homes s) heap) ys zs)
      ∙ ap (objects_in slots) (joined_append (members segments) (homed homes heap ys) (homed homes heap zs))
      ∙ objects_more slots (joined (members segments) (homed homes heap ys)) (joined (members segments) (homed homes heap zs))

  names_off : (s : ℕ) → heap_eq (home_of homes s) heap ≡ false → names (s ∷ []) ≡ []
  names_off s off = ap (λ b. objects_in slots (joined (members segments) (cond b (s ∷ []) []))) off

  names_on : (s : ℕ) → heap_eq (home_of homes s) heap ≡ true → names (s ∷ []) ≡ objects_in slots (members segments s)
  names_on s on = ap (λ b. objects_in slots (joined (members segments) (cond b (s ∷ []) []))) on ∙ ap (objects_in slots) (append-nil (members segments s))

  pub lists_begin : (first : Option ℕ) (old : List Name) → first ≡ slice_get xs 0 → HasCopiedLists room slots segments homes heap xs first old old
  lists_begin first old is = record { before = []; on = record { rest = xs; whole = refl; first = is }; copied = copied_none room old }

  module _ (s : ℕ) (old now : List Name) (c : HasCopiedLists room slots segments homes heap xs (Some s) old now) where
    pub list_passed : (next : Option ℕ) → IsStep xs c.before s next → heap_eq (home_of homes s) heap ≡ false → HasCopiedLists room slots segments homes heap xs next old now
    list_passed next st off = record {
      before = c.before ++ s ∷ [];
      on = st.on;
      copied = subst (λ ns. IsCopied room old now ns true) (sym (names_more c.before (s ∷ []) ∙ ap (λ ns. names c.before ++ ns) (names_off s off) ∙ append-nil (names c.before))) c.copied;
    }

    pub list_copied : (next : Option ℕ) (new : List Name) (all : Bool) → IsStep xs c.before s next → heap_eq (home_of homes s) heap ≡ true → all ≡ true → IsCopied room now new (objects_in slots (members segments s)) all →
        HasCopiedLists room slots segments homes heap xs next old new
    list_copied next new all st on whole d = record {
      before = c.before ++ s ∷ [];
      on = st.on;
      copied =
          subst (λ ns. IsCopied room old new ns true) (sym (names_more c.before (s ∷ []) ∙ ap (λ ns. names c.before ++ ns) (names_on s on)))
          (copied_then room old now new (names c.before) (objects_in slots (members segments s)) true true refl c.copied (subst (λ b. IsCopied room now new (objects_in slots (members segments s)) b) whole d));
    }

    pub list_stops : (next : Option ℕ) (new : List Name) (all : Bool) (st : IsStep xs c.before s next) → heap_eq (home_of homes s) heap ≡ true → all ≡ false → IsCopied room now new (objects_in slots (members segments s)) all →
        IsCopied room old new (names xs) false
    list_stops next new all st on off d =
        subst (λ ns. IsCopied room old new ns false)
        (sym (ap names st.on.whole ∙ names_more (c.before ++ s ∷ []) st.on.rest ∙ ap (λ ns. ns ++ names st.on.rest) (names_more c.before (s ∷ []) ∙ ap (λ ns. names c.before ++ ns) (names_on s on))))
        (copied_stopped room old new (names c.before ++ objects_in slots (members segments s)) (names st.on.rest) all off
        (copied_then room old now new (names c.before) (objects_in slots (members segments s)) true all refl c.copied d))

  pub lists_end : (old now : List Name) → HasCopiedLists room slots segments homes heap xs None old now → IsCopied room old now (names xs) true
  lists_end old now c = subst (λ is. IsCopied room old now (names is) true) (way_whole xs c.before c.on) c.copied

-- these are the objects of the home
objects_rows : (slots : List Item) (xs : List ℕ) → objects (map (row_at slots) xs) ≡ objects_in slots xs
objects_rows slots [] = refl
objects_rows slots (x ∷ xs) = ap (λ ns. (at slots x).target ∷ ns) (objects_rows slots xs)

pub objects_are : (p : Parts) (heap : Heap) → AreKept p → objects_in p.slots (joined (members p.segments) (segments_of p heap)) ≡ objects (items_of (shown p) heap)
objects_are p heap k = sym (ap objects (walk_is p heap k) ∙ objects_rows p.slots (joined (members p.segments) (segments_of p heap)))
