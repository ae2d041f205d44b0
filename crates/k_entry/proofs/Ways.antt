-- How far a walk along a list has come.
use Rattle.std.proofs.Common.{◌≡◌, ◌==◌, ◌||◌, ℕ, ◌<◌, Bool, true, false, refl, sym, ap, subst, ◌∙◌, cond, List, [], ◌∷◌, ◌++◌, ◌+◌, length, slice_get, Option, Some, None, IfSome, eqb-true, append-nil, arith}
use Rattle.k_types.specs.declared.names.Name.{Name}
use Rattle.k_types.specs.declared.names.Heap.{Heap}
use Rattle.k_types.specs.Names.{name_eq, heap_eq}
use Rattle.k_lists.specs.Lists.{is_in}
use Rattle.k_entry.specs.declared.item.Item.{Item}
use Rattle.k_entry.specs.Entries.{home_of}
use Rattle.k_entry.specs.Slots.{at, onward, homed}
use Rattle.k_lists.proofs.Members.{place_of}
use Rattle.k_entry.proofs.Members.{Once, IsOnWay, IsStep, step, way_at, way_end, way_in, is_in_append}

-- no slot before the next one is the object's
pub record HasPassed (slots : List Item) (t : Name) (xs : List ℕ) (next : Option ℕ) : Type 0 where
  pub before : List ℕ
  pub on : IsOnWay xs before next
  pub none : (i : ℕ) → is_in before i ≡ true → name_eq (at slots i).target t ≡ false

pub passed_there : (slots : List Item) (t : Name) (xs : List ℕ) (i : ℕ) → HasPassed slots t xs (Some i) → is_in xs i ≡ true
passed_there slots t xs i p = way_in xs p.before i p.on

single : (i j : ℕ) → is_in (i ∷ []) j ≡ true → i ≡ j
single i j e = by_head (i == j) refl e
  where
    by_head : (b : Bool) → (i == j) ≡ b → is_in (i ∷ []) j ≡ true → i ≡ j
    by_head true is e = eqb-true i j is
    by_head false off e = absurd (let bad : false ≡ true = ap (λ b. b || false) (sym off) ∙ e in cc)

pub passed_more : (slots : List Item) (t : Name) (xs : List ℕ) (i : ℕ) (next : Option ℕ) (p : HasPassed slots t xs (Some i)) → IsStep xs p.before i next → name_eq (at slots i).target t ≡ false → HasPassed slots t xs next
passed_more slots t xs i next p s off = record {
  before = p.before ++ i ∷ [];
  on = s.on;
  none = λ j e. by_test j (is_in p.before j) refl (sym (is_in_append p.before (i ∷ []) j) ∙ e);
}
  where
    by_test : (j : ℕ) (b : Bool) → is_in p.before j ≡ b → (is_in p.before j || is_in (i ∷ []) j) ≡ true → name_eq (at slots j).target t ≡ false
    by_test j true there e = p.none j there
    by_test j false gone e =
        let last : is_in (i ∷ []) j ≡ true = ap (λ b. b || is_in (i ∷ []) j) (sym gone) ∙ e in
        subst (λ k. name_eq (at slots k).target t ≡ false) (single i j last) off

pub passed_all : (slots : List Item) (t : Name) (xs : List ℕ) → HasPassed slots t xs None → (i : ℕ) → is_in xs i ≡ true → name_eq (at slots i).target t ≡ false
passed_all slots t xs p i e = by_rest p.on.rest refl
  where
    by_rest : (rest : List ℕ) → p.on.rest ≡ rest → name_eq (at slots i).target t ≡ false
    by_rest [] r = p.none i (sym (ap (λ ys. is_in ys i) (p.on.whole ∙ ap (λ ys. p.before ++ ys) r ∙ append-nil p.before)) ∙ e)
    by_rest (x ∷ rest) r = absurd (let bad : None ≡ Some x = p.on.first ∙ ap (λ ys. slice_get ys 0) r in cc)

pub way_shorter : (xs before : List ℕ) (i : ℕ) (here next : Option ℕ) → here ≡ Some i → IsStep xs before i next → length (onward xs next) < length (onward xs here)
way_shorter xs before i here next e s =
    let longer : length (onward xs here) ≡ length (i ∷ onward xs next) = ap (λ o. length (onward xs o)) e ∙ ap (λ ys. length ys) s.here in
    omega (arith, longer)

-- the segments of that home from the next one on are those from the first place on
pub record LooksOn (homes : List Heap) (heap : Heap) (xs : List ℕ) (from next : Option ℕ) : Type 0 where
  pub before : List ℕ
  pub on : IsOnWay xs before next
  pub same : homed homes heap (onward xs next) ≡ homed homes heap (onward xs from)

pub look_from : (homes : List Heap) (heap : Heap) (xs : List ℕ) (from : Option ℕ) → IfSome from (λ s. is_in xs s ≡ true) → LooksOn homes heap xs from from
look_from homes heap xs None e = record { before = xs; on = way_end xs; same = refl }
look_from homes heap xs (Some s) e = let w = way_at xs s e in record { before = w.0; on = w.1; same = refl }

pub looked_in : (homes : List Heap) (heap : Heap) (xs : List ℕ) (from : Option ℕ) (s : ℕ) → LooksOn homes heap xs from (Some s) → is_in xs s ≡ true
looked_in homes heap xs from s l = way_in xs l.before s l.on

-- the segment is of that home, or not
pub looked_here : (homes : List Heap) (heap : Heap) (xs : List ℕ) (from next : Option ℕ) (s : ℕ) (l : LooksOn homes heap xs from (Some s)) → IsStep xs l.before s next → heap_eq (home_of homes s) heap ≡ true → homed homes heap (onward xs from) ≡ s ∷ homed homes heap (onward xs next)
looked_here homes heap xs from next s l st on =
    sym l.same ∙ ap (λ ys. homed homes heap ys) st.here ∙ ap (λ b. cond b (s ∷ homed homes heap (onward xs next)) (homed homes heap (onward xs next))) on

pub looked_more : (homes : List Heap) (heap : Heap) (xs : List ℕ) (from next : Option ℕ) (s : ℕ) (l : LooksOn homes heap xs from (Some s)) → IsStep xs l.before s next → heap_eq (home_of homes s) heap ≡ false → LooksOn homes heap xs from next
looked_more homes heap xs from next s l st off = record {
  before = l.before ++ s ∷ [];
  on = st.on;
  same = sym (ap (λ ys. homed homes heap ys) st.here ∙ ap (λ b. cond b (s ∷ homed homes heap (onward xs next)) (homed homes heap (onward xs next))) off) ∙ l.same;
}

-- the same step, where the next number is read off the list
pub own_step : (xs before : List ℕ) (s : ℕ) → Once xs → IsOnWay xs before (Some s) → (next : Option ℕ) × IsStep xs before s next
own_step xs before s once w =
    let p = place_of xs s (way_in xs before s w) in
    (slice_get xs (p.0 + 1), step xs before s (slice_get xs (p.0 + 1)) once w (λ place at. ap (λ k. slice_get xs (k + 1)) (once p.0 place s p.1 at)))
