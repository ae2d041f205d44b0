-- What marking has reached, and that it is the machine's reach in the end.
use Rattle.std.proofs.Common.{◌≡◌, ℕ, zero, suc, ◌⊎◌, ◌&&◌, ◌||◌, Bool, true, false, sym, ap, ◌∙◌, inl, inr, List, [], ◌∷◌, ◌++◌, length, Some, None, is_some}
use Rattle.std.specs.Prelude.{IsTrue}
use Rattle.std.specs.List.{list_any}
use Rattle.std.proofs.lemmas.Bool.{and_parts, and_from, or_left, or_right, or_cases, false≢true}
use Rattle.std.proofs.lemmas.List.Folds.{list_any-append}
use Rattle.k_types.specs.declared.names.Name.{Name}
use Rattle.k_types.specs.declared.names.Heap.{Heap}
use Rattle.k_types.specs.Names.{heap_eq, name_among, name_eq}
use Rattle.k_types.specs.Owners.{objects_of, owner_of}
use Rattle.k_types.specs.Reach.{reach_in}
use Rattle.k_types.specs.Sound.{IsOrdered}
use Rattle.k_types.specs.State.{Object, State, has, object_at, refers, refers_in}
use Rattle.k_types.specs.Trace.{Trace}
use Rattle.k_types.proofs.NameTests.{name_eq-true, name_eq_refl}
use Rattle.k_types.proofs.Objects.{has-kept, is_some-object_at, referrer, refers_found, refers_in-kept, refers_in_has}
use Rattle.k_types.proofs.Tests.{same_test}
use Rattle.k_laws.proofs.Closure.{set, in_set, set_has, set_refers, closed_refers, start_in}
use Rattle.k_scan.specs.Marks.{AreMarks, HasLooked, is_marked, lengths, sizes_of}
use Rattle.k_scan.proofs.Marks.{lists_are, marks_has}
use Rattle.k_scan.proofs.References.{refers_only}
use Rattle.k_types.proofs.Lists.{length-kept}

-- the objects of the heap
abbrev pub pool_of : Trace → State → Heap → List Object
pool_of trace st h = objects_of (owner_of trace st) h st.objects

-- what is marked is reached, the roots are marked, and what a marked object refers to in the heap is marked, unless the object waits
-- on the list of work
pub record IsReaching (trace : Trace) (st : State) (h : Heap) (roots : List Name) (marks : List (List Bool)) (work : List Name) : Type 0 where
  pub size : lengths marks ≡ sizes_of trace st (Some h)
  pub sound : (n : Name) → IsTrue (is_marked st.objects marks n) → IsTrue (has (reach_in trace st h roots) n)
  pub begun : (n : Name) → IsTrue (has (pool_of trace st h) n) → IsTrue (name_among n roots) → IsTrue (is_marked st.objects marks n)
  pub waits : (n : Name) → IsTrue (name_among n work) → IsTrue (is_marked st.objects marks n)
  pub closed : (a b : Name) → IsTrue (is_marked st.objects marks a) → IsTrue (refers_in (pool_of trace st h) a b) → IsTrue (has (pool_of trace st h) b) →
      IsTrue (is_marked st.objects marks b) ⊎ IsTrue (name_among a work)

module _ (trace : Trace) (st : State) (h : Heap) (roots : List Name) where
  start : Name → Bool
  start n = name_among n roots

  reach_root : (n : Name) → has (pool_of trace st h) n ≡ true → name_among n roots ≡ true → has (reach_in trace st h roots) n ≡ true
  unfolding reach_in set start
  reach_root n there root =
      set_has (pool_of trace st h) start (length st.objects) n ∙ and_from _ _ there (start_in (pool_of trace st h) start n there root (length st.objects))

  reach_pool : (n : Name) → has (reach_in trace st h roots) n ≡ true → has (pool_of trace st h) n ≡ true
  unfolding reach_in set start
  reach_pool n t = (and_parts _ _ (sym (set_has (pool_of trace st h) start (length st.objects) n) ∙ t)).0

  reach_more : (a b : Name) → has (reach_in trace st h roots) a ≡ true → refers_in (pool_of trace st h) a b ≡ true → has (pool_of trace st h) b ≡ true → has (reach_in trace st h roots) b ≡ true
  unfolding reach_in set start
  reach_more a b ha r hb = closed_refers (pool_of trace st h) start (length st.objects) a b (length-kept _ st.objects) ha r hb

  -- before the first turn
  pub reaching_begins : (none marks : List (List Bool)) (empty work : List Name) → lengths none ≡ sizes_of trace st (Some h) →
      ((n : Name) → is_marked st.objects none n ≡ false) → empty ≡ [] →
      HasLooked st.objects (pool_of trace st h) (λ n. name_among n roots) none marks empty work → IsReaching trace st h roots marks work
  reaching_begins none marks empty work sized clear nothing looked =
      record {
        size = looked.size ∙ sized;
        sound = λ n t.
            elim (or_cases (is_marked st.objects none n) (has (pool_of trace st h) n && name_among n roots) (sym (looked.marks n) ∙ t)) [
              | inl was ↦ absurd (false≢true (sym (clear n) ∙ was))
              | inr root ↦ let parts = and_parts (has (pool_of trace st h) n) (name_among n roots) root in reach_root n parts.0 parts.1
            ];
        begun = λ n there root. looked.marks n ∙ or_right _ _ (and_from _ _ there root);
        waits = λ n t. elim (looked.added n t) [ inl was ↦ absurd (false≢true (sym (ap (name_among n) nothing) ∙ was)) | inr marked ↦ marked ];
        closed = λ a b t r there.
            elim (looked.listed a t) [
              | inl was ↦ absurd (false≢true (sym (clear a) ∙ was))
              | inr waits ↦ inr waits
            ];
      }

  pop_cases : (a name : Name) (work : List Name) → name_among a (work ++ name ∷ []) ≡ true → (name_among a work ≡ true) ⊎ (name_eq name a ≡ true)
  pop_cases a name work t =
      elim (or_cases (name_among a work) (name_eq name a || false) (sym (list_any-append (λ m. name_eq m a) work (name ∷ [])) ∙ t)) [
        | inl there ↦ inl there
        | inr here ↦ elim (or_cases (name_eq name a) false here) [ inl same ↦ inr same | inr none ↦ absurd (false≢true none) ]
      ]

  still : (a name : Name) (work : List Name) → name_among a work ≡ true → name_among a (work ++ name ∷ []) ≡ true
  still a name work t = list_any-append (λ m. name_eq m a) work (name ∷ []) ∙ or_left _ _ t

  last : (name : Name) (work : List Name) → name_among name (work ++ name ∷ []) ≡ true
  last name work = list_any-append (λ m. name_eq m name) work (name ∷ []) ∙ or_right (name_among name work) _ (or_left _ _ (name_eq_refl name))

  pool_refers : (a b : Name) → refers_in (pool_of trace st h) a b ≡ true → refers_in st.objects a b ≡ true
  pool_refers a b r = (and_parts _ _ (sym (refers_in-kept (λ m. heap_eq (owner_of trace st m.seg.0) h) st.objects a b) ∙ r)).0

  in_pool_refers : (a b : Name) → refers_in st.objects a b ≡ true → has (pool_of trace st h) a ≡ true → refers_in (pool_of trace st h) a b ≡ true
  in_pool_refers a b r there =
      let ours = and_parts (has st.objects a) (heap_eq (owner_of trace st a.seg.0) h) (sym (has-kept (λ m. heap_eq (owner_of trace st m.seg.0) h) st.objects a) ∙ there) in
      refers_in-kept (λ m. heap_eq (owner_of trace st m.seg.0) h) st.objects a b ∙ and_from _ _ r ours.1

  -- a name of which there is no object
  pub reaching_skips : (marks : List (List Bool)) (work : List Name) (name : Name) → object_at st.objects name ≡ None → IsReaching trace st h roots marks (work ++ name ∷ []) → IsReaching trace st h roots marks work
  reaching_skips marks work name none r =
      let missing = missing_name name none in
      record {
        size = r.size;
        sound = r.sound;
        begun = r.begun;
        waits = λ n t. r.waits n (still n name work t);
        closed = λ a b t refs there.
            elim (r.closed a b t refs there) [
              | inl marked ↦ inl marked
              | inr waits ↦ elim (pop_cases a name work waits) [
                | inl rest ↦ inr rest
                | inr same ↦ absurd (false≢true (sym missing ∙ marks_has st.objects marks name (r.waits name (last name work))))
              ]
            ];
      }
    where
      missing_name : (name : Name) → object_at st.objects name ≡ None → has st.objects name ≡ false
      missing_name name none = sym (is_some-object_at st.objects name) ∙ ap is_some none

  -- a name whose object's fields were looked at
  pub reaching_follows : (old new : List (List Bool)) (work after : List Name) (name : Name) (o : Object) → IsOrdered st.objects → object_at st.objects name ≡ Some o →
      HasLooked st.objects (pool_of trace st h) (refers o) old new work after → IsReaching trace st h roots old (work ++ name ∷ []) → IsReaching trace st h roots new after
  reaching_follows old new work after name o ordered found looked r =
      let reached = r.sound name (r.waits name (last name work)) in
      let more = λ (n : Name) (t : is_marked st.objects old n ≡ true). looked.marks n ∙ or_left _ _ t in
      record {
        size = looked.size ∙ r.size;
        sound = λ n t.
            elim (or_cases (is_marked st.objects old n) (has (pool_of trace st h) n && refers o n) (sym (looked.marks n) ∙ t)) [
              | inl was ↦ r.sound n was
              | inr here ↦
                  let parts = and_parts (has (pool_of trace st h) n) (refers o n) here in
                  reach_more name n reached (in_pool_refers name n (refers_found st.objects name n o found parts.1) (reach_pool name reached)) parts.0
            ];
        begun = λ n there root. more n (r.begun n there root);
        waits = λ n t. elim (looked.added n t) [ inl was ↦ more n (r.waits n (still n name work was)) | inr marked ↦ marked ];
        closed = λ a b t refs there.
            elim (looked.listed a t) [
              | inl was ↦ elim (r.closed a b was refs there) [
                | inl marked ↦ inl (more b marked)
                | inr waits ↦ elim (pop_cases a name work waits) [
                  | inl rest ↦ inr (looked.kept a rest)
                  | inr same ↦
                      let is = name_eq-true name a same in
                      inl (looked.marks b ∙ or_right (is_marked st.objects old b) _
                      (and_from _ _ there (refers_only st.objects name b o ordered found (ap (λ m. refers_in st.objects m b) is ∙ pool_refers a b refs))))
                ]
              ]
              | inr waits ↦ inr waits
            ];
      }

  reached_marked : (marks : List (List Bool)) → IsReaching trace st h roots marks [] → (k : ℕ) (n : Name) → has (set (pool_of trace st h) start k) n ≡ true → is_marked st.objects marks n ≡ true
  unfolding in_set start
  reached_marked marks r zero n t =
      let parts = and_parts (has (pool_of trace st h) n) (in_set (pool_of trace st h) start zero n) (sym (set_has (pool_of trace st h) start zero n) ∙ t) in
      r.begun n parts.0 parts.1
  reached_marked marks r (suc k) n t =
      let parts = and_parts (has (pool_of trace st h) n) (in_set (pool_of trace st h) start (suc k) n) (sym (set_has (pool_of trace st h) start (suc k) n) ∙ t) in
      elim (or_cases (has (set (pool_of trace st h) start k) n) (list_any (λ x. refers x n) (set (pool_of trace st h) start k)) parts.1) [
        | inl before ↦ reached_marked marks r k n before
        | inr some ↦
            let from = referrer (set (pool_of trace st h) start k) n some in
            let refs = and_parts (refers_in (pool_of trace st h) from.0 n) (in_set (pool_of trace st h) start k from.0) (sym (set_refers (pool_of trace st h) start k from.0 n) ∙ from.1) in
            elim (r.closed from.0 n (reached_marked marks r k from.0 (refers_in_has (set (pool_of trace st h) start k) from.0 n from.1)) refs.0 parts.0) [
              | inl marked ↦ marked
              | inr none ↦ absurd (false≢true none)
            ]
      ]

  all_reached : (marks : List (List Bool)) → IsReaching trace st h roots marks [] → (n : Name) → has (reach_in trace st h roots) n ≡ true → is_marked st.objects marks n ≡ true
  unfolding reach_in set start
  all_reached marks r n t = reached_marked marks r (length st.objects) n t

  -- after the last turn
  pub reaching_ends : (marks : List (List Bool)) → IsOrdered st.objects → IsReaching trace st h roots marks [] → AreMarks trace st (Some h) marks (has (reach_in trace st h roots))
  reaching_ends marks ordered r =
      lists_are trace st (Some h) marks (has (reach_in trace st h roots)) ordered r.size
      (λ n own there. same_test (is_marked st.objects marks n) (has (reach_in trace st h roots) n) (r.sound n) (all_reached marks r n))
