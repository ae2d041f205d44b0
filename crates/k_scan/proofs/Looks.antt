-- What marking leaves: one name, one look, and several in a row.
use Rattle.std.proofs.Common.{◌≡◌, ℕ, ◌+◌, ◌<◌, ◌&&◌, ◌||◌, not, cond, Bool, true, false, refl, sym, ap, ◌∙◌, inl, inr, List, [], ◌∷◌, ◌++◌, length, get_or, set, count_by, None, arith, length-set, get_or-set_same, get_or-set_other}
use Rattle.std.proofs.lemmas.Bool.{and_parts, and_from, or_left, or_right, or_cases, false≢true, cases_eq}
use Rattle.std.proofs.Math.Seq.{map-set_same}
use Rattle.std.proofs.lemmas.List.{length_push}
use Rattle.std.proofs.lemmas.List.Folds.{list_any_at, list_any-append}
use Rattle.k_types.specs.declared.names.Name.{Name}
use Rattle.k_types.specs.declared.names.Heap.{Heap}
use Rattle.k_types.specs.Names.{name_eq, heap_eq, name_among}
use Rattle.k_types.specs.Owners.{objects_of}
use Rattle.k_types.specs.State.{Object, has}
use Rattle.k_types.proofs.NameTests.{name_eq-false, name_eq-true}
use Rattle.k_types.proofs.Objects.{has-kept}
use Rattle.k_state.specs.Places.{IsNamedAt}
use Rattle.k_types.proofs.Sums.{total_set}
use Rattle.k_state.specs.Segments.{objects_in}
use Rattle.k_state.proofs.Split.{has_in}
use Rattle.k_scan.specs.Marks.{HasLooked, IsMarked, is_marked, is_marked_in, unmarked}
use Rattle.k_scan.proofs.Marks.{marked-set, marked_at, left-set}

pub or_more : (a b c : Bool) → (b ≡ true → c ≡ true → a ≡ true) → a ≡ (a || (b && c))
or_more true b c h = refl
or_more false true true h = h refl refl
or_more false true false h = refl
or_more false false c h = refl

or_if : (a b c : Bool) → (c ≡ true → b ≡ true) → (a || c) ≡ (a || (b && c))
or_if true b c h = refl
or_if false b true h = sym (and_from b true (h refl) refl)
or_if false true false h = refl
or_if false false false h = refl

pub no_object : Name → Object
no_object name = record { name = name; ty = None; fields = [] }

-- where it is marked already
pub mark_again : (xs : List Object) (name : Name) (old : List (List Bool)) (k : ℕ) → IsNamedAt (objects_in xs name.seg.0) k name → get_or (get_or old name.seg.0 []) k false ≡ true →
    IsMarked xs name old old false
mark_again xs name old k named t =
    let d = no_object name in
    let own : is_marked xs old name ≡ true = marked_at (objects_in xs name.seg.0) (get_or old name.seg.0 []) k d name named.0 t (named.1 d) in
    record {
      size = refl;
      marks = λ n. or_more (is_marked xs old n) (has xs n) (name_eq name n) (λ h e. ap (is_marked xs old) (sym (name_eq-true name n e)) ∙ own);
      same = λ f. refl;
      there = λ t. absurd (false≢true t);
      left = omega arith;
    }

module _ (xs : List Object) (name : Name) (old : List (List Bool)) (k : ℕ) (named : IsNamedAt (objects_in xs name.seg.0) k name)
    (within : k < length (get_or old name.seg.0 [])) (inside : name.seg.0 < length old) where
  marked_now : List Bool
  marked_now = set (get_or old name.seg.0 []) k true

  -- the marks of a name, by the number of its segment
  abbrev told : ℕ → List Bool → Name → Bool
  told seg list n = is_marked_in (objects_in xs seg) list n

  one_more : (n : Name) → is_marked xs (set old name.seg.0 marked_now) n ≡ (is_marked xs old n || name_eq name n)
  unfolding marked_now
  one_more n =
      let d = no_object name in
      let s = name.seg.0 in
      let list = set (get_or old s []) k true in
      let is : (get_or (objects_in xs s) k d).name ≡ name = name_eq-true (get_or (objects_in xs s) k d).name name (named.1 d) in
      elim (cases_eq n.seg.0 s) [
        | inl e ↦
            ap (λ seg. told seg (get_or (set old s list) seg []) n) e
            ∙ ap (λ ms. told s ms n) (get_or-set_same old s list [] inside)
            ∙ marked-set (objects_in xs s) (get_or old s []) k d named.0 within n
            ∙ ap (λ m. told s (get_or old s []) n || name_eq m n) is
            ∙ ap (λ seg. told seg (get_or old seg []) n || name_eq name n) (sym e)
        | inr ne ↦
            let other : name_eq name n ≡ false = name_eq-false name n (λ e. ne (ap (λ (m : Name). m.seg.0) (sym e))) in
            ap (λ ms. told n.seg.0 ms n) (get_or-set_other old s n.seg.0 list [] ne)
            ∙ sym (ap (λ b. is_marked xs old n || b) other ∙ or_false (is_marked xs old n))
      ]
    where
      or_false : (a : Bool) → (a || false) ≡ a
      or_false true = refl
      or_false false = refl

  -- where it gets its mark
  pub mark_new : get_or (get_or old name.seg.0 []) k false ≡ false → IsMarked xs name old (set old name.seg.0 (set (get_or old name.seg.0 []) k true)) true
  unfolding marked_now
  mark_new f =
      let d = no_object name in
      let s = name.seg.0 in
      let list = set (get_or old s []) k true in
      let there : has xs name ≡ true = sym (has_in xs name) ∙ list_any_at (λ (o : Object). name_eq o.name name) (objects_in xs s) k d named.0 (named.1 d) in
      let fewer = left-set (get_or old s []) k within f in
      let all = total_set (λ (ms : List Bool). count_by not ms) old s list [] inside in
      record {
        size = map-set_same (λ (ms : List Bool). length ms) old s list [] (length-set (get_or old s []) k true);
        marks = λ n. one_more n ∙ or_if (is_marked xs old n) (has xs n) (name_eq name n) (λ e. ap (has xs) (sym (name_eq-true name n e)) ∙ there);
        same = λ t. absurd (false≢true (sym t));
        there = λ t. there;
        left = omega (arith, fewer, all);
      }

module _ (xs : List Object) (own : ℕ → Heap) (h : Heap) where
  pool_has : (n : Name) → has (objects_of own h xs) n ≡ (has xs n && heap_eq (own n.seg.0) h)
  pool_has n = has-kept (λ m. heap_eq (own m.seg.0) h) xs n

  -- an object that isn't the heap's
  pub visit_other : (name : Name) (marks : List (List Bool)) (work : List Name) → heap_eq (own name.seg.0) h ≡ false → HasLooked xs (objects_of own h xs) (λ n. name_eq name n) marks marks work work
  visit_other name marks work other = record {
    size = refl;
    marks = λ n. or_more (is_marked xs marks n) (has (objects_of own h xs) n) (name_eq name n)
        (λ there e.
        let ours = (and_parts (has xs n) (heap_eq (own n.seg.0) h) (sym (pool_has n) ∙ there)).1 in
        absurd (false≢true (sym other ∙ ap (λ (m : Name). heap_eq (own m.seg.0) h) (name_eq-true name n e) ∙ ours)));
    listed = λ n t. inl t;
    kept = λ n t. t;
    added = λ n t. inl t;
    left = refl;
  }

  pub ours_named : (name : Name) → heap_eq (own name.seg.0) h ≡ true → (n : Name) → (has xs n && name_eq name n) ≡ (has (objects_of own h xs) n && name_eq name n)
  ours_named name ours n =
      elim (name_eq name n) as (λ b. name_eq name n ≡ b → (has xs n && b) ≡ (has (objects_of own h xs) n && b)) [
        | true ↦ λ e.
            let here : heap_eq (own n.seg.0) h ≡ true = ap (λ (m : Name). heap_eq (own m.seg.0) h) (sym (name_eq-true name n e)) ∙ ours in
            ap (λ b. b && true) (sym (pool_has n ∙ ap (λ b. has xs n && b) here ∙ with_true (has xs n)))
        | false ↦ λ e. with_false (has xs n) ∙ sym (with_false (has (objects_of own h xs) n))
      ] refl
    where
      with_true : (a : Bool) → (a && true) ≡ a
      with_true true = refl
      with_true false = refl

      with_false : (a : Bool) → (a && false) ≡ false
      with_false true = refl
      with_false false = refl

  -- an object of the heap that is marked already, or is not there
  pub visit_old : (name : Name) (old new : List (List Bool)) (work : List Name) (fresh : Bool) → heap_eq (own name.seg.0) h ≡ true → IsMarked xs name old new fresh → fresh ≡ false → HasLooked xs (objects_of own h xs) (λ n. name_eq name n) old new work work
  visit_old name old new work fresh ours marked stale =
      let same : new ≡ old = marked.same stale in
      record {
        size = marked.size;
        marks = λ n. marked.marks n ∙ ap (λ b. is_marked xs old n || b) (ours_named name ours n);
        listed = λ n t. inl (ap (λ ms. is_marked xs ms n) (sym same) ∙ t);
        kept = λ n t. t;
        added = λ n t. inl t;
        left = ap (λ ms. unmarked ms + length work) same;
      }

  -- an object of the heap that gets its mark
  pub visit_new : (name : Name) (old new : List (List Bool)) (work : List Name) (fresh : Bool) → heap_eq (own name.seg.0) h ≡ true → IsMarked xs name old new fresh → fresh ≡ true → HasLooked xs (objects_of own h xs) (λ n. name_eq name n) old new work (work ++ name ∷ [])
  visit_new name old new work fresh ours marked now =
      let there = marked.there now in
      let free : Bool → ℕ = λ b. cond b 1 0 in
      let one : free fresh ≡ 1 = ap free now in
      record {
        size = marked.size;
        marks = λ n. marked.marks n ∙ ap (λ b. is_marked xs old n || b) (ours_named name ours n);
        listed = λ n t.
            elim (or_cases (is_marked xs old n) (has xs n && name_eq name n) (sym (marked.marks n) ∙ t)) [
              | inl was ↦ inl was
              | inr here ↦ inr (list_any-append (λ m. name_eq m n) work (name ∷ []) ∙ or_right (name_among n work) _ (or_left _ _ (and_parts (has xs n) (name_eq name n) here).1))
            ];
        kept = λ n t. list_any-append (λ m. name_eq m n) work (name ∷ []) ∙ or_left _ _ t;
        added = λ n t.
            elim (or_cases (name_among n work) (name_eq name n || false) (sym (list_any-append (λ m. name_eq m n) work (name ∷ [])) ∙ t)) [
              | inl was ↦ inl was
              | inr here ↦ elim (or_cases (name_eq name n) false here) [
                | inl same ↦ inr (marked.marks n ∙ or_right (is_marked xs old n) _ (and_from _ _ (ap (has xs) (sym (name_eq-true name n same)) ∙ there) same))
                | inr none ↦ absurd (false≢true none)
              ]
            ];
        left = omega (arith, marked.left, one, length_push work name);
      }

module _ (xs pool : List Object) where
  -- nothing was looked at
  pub looked_none : (test : Name → Bool) (marks : List (List Bool)) (work : List Name) → ((n : Name) → test n ≡ false) → HasLooked xs pool test marks marks work work
  looked_none test marks work none = record {
    size = refl;
    marks = λ n. or_more (is_marked xs marks n) (has pool n) (test n) (λ there t. absurd (false≢true (sym (none n) ∙ t)));
    listed = λ n t. inl t;
    kept = λ n t. t;
    added = λ n t. inl t;
    left = refl;
  }

  both : (a p s t : Bool) → ((a || (p && s)) || (p && t)) ≡ (a || (p && (s || t)))
  both true p s t = refl
  both false true s t = refl
  both false false s t = refl

  -- one look after another
  pub looked_more : (first then all : Name → Bool) (old now new : List (List Bool)) (before between after : List Name) → ((n : Name) → all n ≡ (first n || then n)) →
      HasLooked xs pool first old now before between → HasLooked xs pool then now new between after → HasLooked xs pool all old new before after
  looked_more first then all old now new before between after is a b = record {
    size = b.size ∙ a.size;
    marks = λ n.
        b.marks n
        ∙ ap (λ m. m || (has pool n && then n)) (a.marks n)
        ∙ both (is_marked xs old n) (has pool n) (first n) (then n)
        ∙ ap (λ m. is_marked xs old n || (has pool n && m)) (sym (is n));
    listed = λ n t.
        elim (b.listed n t) [
          | inl was ↦ elim (a.listed n was) [ inl first ↦ inl first | inr there ↦ inr (b.kept n there) ]
          | inr there ↦ inr there
        ];
    kept = λ n t. b.kept n (a.kept n t);
    added = λ n t.
        elim (b.added n t) [
          | inl earlier ↦ elim (a.added n earlier) [ inl was ↦ inl was | inr marked ↦ inr (b.marks n ∙ or_left _ _ marked) ]
          | inr marked ↦ inr marked
        ];
    left = b.left ∙ a.left;
  }

-- the tests alone matter
pub looked_same : (xs pool : List Object) (test other : Name → Bool) (old new : List (List Bool)) (before after : List Name) → ((n : Name) → test n ≡ other n) →
    HasLooked xs pool test old new before after → HasLooked xs pool other old new before after
looked_same xs pool test other old new before after same looked = record {
  size = looked.size;
  marks = λ n. looked.marks n ∙ ap (λ b. is_marked xs old n || (has pool n && b)) (same n);
  listed = looked.listed;
  kept = looked.kept;
  added = looked.added;
  left = looked.left;
}
