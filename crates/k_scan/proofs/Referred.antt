-- The reached objects, as those of a heap that pass a test.
use Rattle.std.proofs.Common.{◌≡◌, ◌&&◌, Bool, true, false, refl, sym, ap, ◌∙◌, List, [], ◌∷◌, filter, length, arith}
use Rattle.std.specs.List.{AllByRecursion}
use Rattle.k_types.specs.declared.names.Name.{Name}
use Rattle.k_types.specs.declared.names.Heap.{Heap}
use Rattle.k_types.specs.Names.{heap_eq, name_among}
use Rattle.k_types.specs.Owners.{objects_of, owner_of}
use Rattle.k_types.specs.Reach.{reach_in}
use Rattle.k_types.specs.State.{Object, State, has}
use Rattle.k_types.specs.Trace.{Trace}
use Rattle.k_types.proofs.Objects.{has-kept}
use Rattle.k_laws.proofs.Closure.{all_there, in_set, set, set_is}
use Rattle.k_scan.proofs.Chosen.{is_chosen, kept_alike_all}

all_weaker : (P Q : Object → Type 0) → ((x : Object) → P x → Q x) → (xs : List Object) → AllByRecursion P xs → AllByRecursion Q xs
all_weaker P Q weaker [] all = tt
all_weaker P Q weaker (x ∷ xs) all = (weaker x all.0, all_weaker P Q weaker xs all.1)

module _ (trace : Trace) (st : State) (h : Heap) (roots : List Name) where
  inside : Name → Bool
  inside n = heap_eq (owner_of trace st n.seg.0) h && in_set (objects_of (owner_of trace st) h st.objects) (λ m. name_among m roots) (length st.objects) n

  -- a set within the objects of the heap is a filter of all objects
  kept_twice : (p q : Object → Bool) (xs : List Object) → filter q (filter p xs) ≡ filter (λ x. p x && q x) xs
  kept_twice p q [] = refl
  kept_twice p q (x ∷ xs) = kept_twice_step p q x xs (kept_twice p q xs)
    where
      kept_twice_step : (p q : Object → Bool) (x : Object) (xs : List Object) → filter q (filter p xs) ≡ filter (λ x. p x && q x) xs → filter q (filter p (x ∷ xs)) ≡ filter (λ x. p x && q x) (x ∷ xs)
      kept_twice_step p q x xs ih = grind (arith, ih)

  reach_is_kept : reach_in trace st h roots ≡ filter (λ o. inside o.name) st.objects
  unfolding reach_in set inside
  reach_is_kept =
      set_is (objects_of (owner_of trace st) h st.objects) (λ m. name_among m roots) (length st.objects)
      ∙ kept_twice (λ o. heap_eq (owner_of trace st o.name.seg.0) h) (λ o. in_set (objects_of (owner_of trace st) h st.objects) (λ m. name_among m roots) (length st.objects) o.name) st.objects

  reach_has : (n : Name) → has st.objects n ≡ true → has (reach_in trace st h roots) n ≡ inside n
  reach_has n there = ap (λ xs. has xs n) reach_is_kept ∙ has-kept inside st.objects n ∙ ap (λ b. b && inside n) there

  inside_own : (n : Name) → (heap_eq (owner_of trace st n.seg.0) h && inside n) ≡ inside n
  unfolding inside
  inside_own n = own_twice (heap_eq (owner_of trace st n.seg.0) h) _
    where
      own_twice : (a b : Bool) → (a && (a && b)) ≡ (a && b)
      own_twice true b = refl
      own_twice false b = refl

  -- the reached objects are those of the heap of which that is so
  pub chosen_reached : filter (is_chosen (owner_of trace st) h (has (reach_in trace st h roots))) st.objects ≡ reach_in trace st h roots
  chosen_reached =
      kept_alike_all (is_chosen (owner_of trace st) h (has (reach_in trace st h roots))) (λ o. inside o.name) st.objects
      (all_weaker (λ o. has st.objects o.name ≡ true) (λ o. is_chosen (owner_of trace st) h (has (reach_in trace st h roots)) o ≡ inside o.name)
      (λ o there. ap (λ b. heap_eq (owner_of trace st o.name.seg.0) h && b) (reach_has o.name there) ∙ inside_own o.name) st.objects (all_there st.objects))
      ∙ sym reach_is_kept
