-- The objects, one after the other in the order of their names.
use Rattle.std.proofs.Common.{◌≡◌, ◌∙◌, ℕ, ◌+◌, ◌-◌, ◌<◌, not, Bool, true, false, IsTrue, List, [], ◌∷◌, ◌++◌, length, filter, find, Option, Some, None, refl, sym, ap, subst, arith, length-append, option_map, cond}
use Rattle.k_types.specs.declared.names.Name.{Name}
use Rattle.k_types.specs.Names.{name_lt}
use Rattle.k_types.specs.State.{Object, object_at, has}
use Rattle.k_types.specs.Sound.{IsOrdered, IsOrderedFrom}
use Rattle.k_types.proofs.NameTests.{name_lt_asym, name_lt_trans, name_eq_refl, name_lt_apart}
use Rattle.k_types.proofs.Objects.{has_found}
use Rattle.k_types.proofs.Ordered.{ordered_tail}
use Rattle.k_text.proofs.NameOrder.{lt_irrefl}
use Rattle.k_text.specs.Shown.{comes_after, next_name_after, shown_object}

-- the objects that do not pass
abbrev pub before : (Object → Bool) → List Object → List Object
before p objects = filter (λ o. not (p o)) objects

-- what comes after a name that passes passes too
abbrev pub IsRising : (Object → Bool) → Type 0
IsRising p = (x y : Object) → p x ≡ true → name_lt x.name y.name ≡ true → p y ≡ true

after_rises : (after : Option Name) → IsRising (comes_after after)
after_rises None x y h lt = refl
after_rises (Some n) x y h lt = name_lt_trans n x.name y.name h lt

-- nothing stands before the first that passes
none_before : (p : Object → Bool) (n : Name) (objects : List Object) → ((y : Object) → name_lt n y.name ≡ true → p y ≡ true) → IsOrderedFrom n objects → before p objects ≡ []
none_before p n [] f h = refl
none_before p n (y ∷ ys) f h = rw (f y h.0) (none_before p y.name ys (λ z l. f z (name_lt_trans n y.name z.name h.0 l)) h.1)

found_by : (b : Bool) (x o : Object) (rest : Option Object) → b ≡ true → cond b (Some x) rest ≡ Some o → x ≡ o
found_by true x o rest t e = cc
found_by false x o rest t e = absurd cc

-- the object that is found comes after what all come after
found_later : (p : Object → Bool) (n : Name) (objects : List Object) (o : Object) → IsOrderedFrom n objects → find p objects ≡ Some o → name_lt n o.name ≡ true
found_later p n [] o h e = absurd cc
found_later p n (x ∷ xs) o h e =
    elim (p x) as (λ b. cond b (Some x) (find p xs) ≡ Some o → name_lt n o.name ≡ true) [
      | true ↦ λ f. let same : x ≡ o = cc in subst (λ (y : Object). name_lt n y.name ≡ true) same h.0
      | false ↦ λ f. name_lt_trans n x.name o.name h.0 (found_later p x.name xs o h.1 f)
    ] e

-- the first object that passes, among objects in order: what stands before it, and what is found by its name
pub record Found (p : Object → Bool) (objects : List Object) (o : Object) : Type 0 where
  pub rest : List Object
  pub whole : objects ≡ (before p objects ++ o ∷ []) ++ rest
  pub next : before (λ y. name_lt o.name y.name) objects ≡ before p objects ++ o ∷ []
  pub at : object_at objects o.name ≡ Some o

found_here : (p : Object → Bool) (x : Object) (xs : List Object) → IsRising p → IsOrderedFrom x.name xs → p x ≡ true → Found p (x ∷ xs) x
found_here p x xs rises h t =
    let none : before p xs ≡ [] = none_before p x.name xs (λ y l. rises x y t l) h in
    let none_later : before (λ y. name_lt x.name y.name) xs ≡ [] = none_before (λ y. name_lt x.name y.name) x.name xs (λ y l. l) h in
    record {
      rest = xs;
      whole = rw (t, none) refl;
      next = rw (lt_irrefl x.name, t, none, none_later) refl;
      at = rw (name_eq_refl x.name) refl;
    }

found_there : (p : Object → Bool) (x : Object) (xs : List Object) (o : Object) → p x ≡ false → name_lt x.name o.name ≡ true → Found p xs o → Found p (x ∷ xs) o
found_there p x xs o f lt found =
    record {
      rest = found.rest;
      whole = rw f (ap (λ ys. x ∷ ys) found.whole);
      next = rw (f, name_lt_asym x.name o.name lt) (ap (λ ys. x ∷ ys) found.next);
      at = rw (name_lt_apart x.name o.name lt) found.at;
    }

pub found : (p : Object → Bool) (objects : List Object) (o : Object) → IsRising p → IsOrdered objects → find p objects ≡ Some o → Found p objects o
found p [] o rises h e = absurd cc
found p (x ∷ xs) o rises h e =
    (elim (p x) as (λ b. p x ≡ b → cond b (Some x) (find p xs) ≡ Some o → Found p (x ∷ xs) o) [
      | true ↦ λ t f. let same : x ≡ o = cc in subst (λ (y : Object). Found p (x ∷ xs) y) same (found_here p x xs rises h t)
      | false ↦ λ t f. found_there p x xs o t (found_later p x.name xs o h f) (found p xs o rises (ordered_tail x.name xs h) f)
    ]) refl e

pub none_found : (p : Object → Bool) (objects : List Object) → find p objects ≡ None → before p objects ≡ objects
none_found p [] e = refl
none_found p (x ∷ xs) e =
    (elim (p x) as (λ b. cond b (Some x) (find p xs) ≡ None → cond (not b) (x ∷ before p xs) (before p xs) ≡ x ∷ xs) [
      | true ↦ λ f. absurd cc
      | false ↦ λ f. ap (λ ys. x ∷ ys) (none_found p xs f)
    ]) e

-- ---- by names

-- the objects up to a name
abbrev pub up_to_name : Option Name → List Object → List Object
up_to_name after objects = before (comes_after after) objects

-- the next name is that of an object, which is next to those up to the name
pub record Next (after : Option Name) (objects : List Object) (n : Name) : Type 0 where
  pub rest : List Object
  pub whole : objects ≡ (up_to_name after objects ++ shown_object objects n ∷ []) ++ rest
  pub next : up_to_name (Some n) objects ≡ up_to_name after objects ++ shown_object objects n ∷ []
  pub there : IsTrue (has objects n)

shown_at : (objects : List Object) (o : Object) → object_at objects o.name ≡ Some o → shown_object objects o.name ≡ o
shown_at objects o e = rw e refl

next_of : (after : Option Name) (objects : List Object) (o : Object) → Found (comes_after after) objects o → Next after objects o.name
next_of after objects o f =
    let same : shown_object objects o.name ≡ o = shown_at objects o f.at in
    record {
      rest = f.rest;
      whole = subst (λ (y : Object). objects ≡ (up_to_name after objects ++ y ∷ []) ++ f.rest) (sym same) f.whole;
      next = subst (λ (y : Object). up_to_name (Some o.name) objects ≡ up_to_name after objects ++ y ∷ []) (sym same) f.next;
      there = has_found objects o.name o f.at;
    }

pub next_object : (after : Option Name) (objects : List Object) (n : Name) → IsOrdered objects → next_name_after after objects ≡ Some n → Next after objects n
next_object after objects n h e =
    (elim (find (comes_after after) objects) as (λ r. find (comes_after after) objects ≡ r → option_map (λ (o : Object). o.name) r ≡ Some n → Next after objects n) [
      | None ↦ λ s f. absurd cc
      | Some o ↦ λ s f.
          let same : o.name ≡ n = cc in
          subst (λ (m : Name). Next after objects m) same (next_of after objects o (found (comes_after after) objects o (after_rises after) h s))
    ]) refl e

pub no_next_object : (after : Option Name) (objects : List Object) → next_name_after after objects ≡ None → up_to_name after objects ≡ objects
no_next_object after objects e =
    none_found (comes_after after) objects
    ((elim (find (comes_after after) objects) as (λ r. option_map (λ (o : Object). o.name) r ≡ None → r ≡ None) [
      | None ↦ λ f. refl
      | Some o ↦ λ f. absurd cc
    ]) e)

-- each object is nearer to the last
pub fewer_left : (after : Option Name) (objects : List Object) (n : Name) → Next after objects n → length objects - length (up_to_name (Some n) objects) < length objects - length (up_to_name after objects)
fewer_left after objects n k =
    let counted : length objects ≡ length (up_to_name after objects) + 1 + length k.rest =
    ap length k.whole ∙ length-append (up_to_name after objects ++ shown_object objects n ∷ []) k.rest
    ∙ ap (λ (m : ℕ). m + length k.rest) (length-append (up_to_name after objects) (shown_object objects n ∷ [])) in
    let more : length (up_to_name (Some n) objects) ≡ length (up_to_name after objects) + 1 =
    ap length k.next ∙ length-append (up_to_name after objects) (shown_object objects n ∷ []) in
    omega arith

pub none_up_to : (objects : List Object) → up_to_name None objects ≡ []
none_up_to [] = refl
none_up_to (x ∷ xs) = none_up_to xs
