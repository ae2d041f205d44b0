-- What goes of a heap's objects, segment by segment.
use Rattle.std.proofs.Common.{◌≡◌, ℕ, ◌+◌, ◌*◌, ◌<◌, ◌≤◌, ◌==◌, ◌&&◌, ◌||◌, not, nat_lt, Bool, true, false, refl, sym, ap, ◌∙◌, List, [], ◌∷◌, filter, map, get_or, length, count_by, Some, arith}
use Rattle.std.specs.List.{AllByRecursion}
use Rattle.std.proofs.lemmas.List.{length-append, length-map}
use Rattle.k_types.specs.declared.names.Heap.{Heap}
use Rattle.k_types.specs.Effects.{survives}
use Rattle.k_types.specs.Names.{heap_eq}
use Rattle.k_types.specs.Owners.{object_bytes, owner_of}
use Rattle.k_types.specs.Sound.{IsOrdered}
use Rattle.k_types.specs.State.{Object, State}
use Rattle.k_types.specs.Totals.{total}
use Rattle.k_types.specs.Trace.{Trace, segment_count}
use Rattle.k_types.proofs.Lists.{length-kept}
use Rattle.k_types.proofs.Sums.{total_append}
use Rattle.k_state.specs.Machines.{IsDeclared}
use Rattle.k_state.specs.Marks.{marked}
use Rattle.k_state.specs.Segments.{objects_below, objects_in}
use Rattle.k_state.proofs.Split.{all_kept}
use Rattle.k_scan.specs.Marks.{AreMarks, is_reached}
use Rattle.k_scan.proofs.Chosen.{chosen_all, chosen_below, chosen_none, chosen_other, chosen_passing, is_chosen, kept_alike}
use Rattle.k_scan.proofs.Counts.{count_gone, gone_is}

small_all : (setup : Trace) (xs : List Object) → AllByRecursion (IsDeclared setup) xs → total object_bytes xs ≤ 144 * length xs
small_all setup [] all = omega arith
small_all setup (x ∷ xs) all =
    let few = (all.0).fields in
    omega (arith, few, small_all setup xs all.1)

goes_is : (a r : Bool) → (a && not r) ≡ not (not a || r)
goes_is true r = refl
goes_is false r = refl

module _ (trace : Trace) (st : State) (h : Heap) where
  -- those that go in the segments below that one
  abbrev pub gone_below : ℕ → List Object
  gone_below seg = chosen_below (owner_of trace st) h (λ n. not (is_reached trace st h n)) st.objects seg

  pub gone_none : gone_below 0 ≡ []
  gone_none = chosen_none (owner_of trace st) h (λ n. not (is_reached trace st h n)) st.objects

  pub gone_other : (seg : ℕ) → IsOrdered st.objects → heap_eq (owner_of trace st seg) h ≡ false → gone_below (seg + 1) ≡ gone_below seg
  gone_other seg ordered other = chosen_other (owner_of trace st) h (λ n. not (is_reached trace st h n)) st.objects seg ordered other

  pub in_few : (seg : ℕ) → length (objects_in st.objects seg) ≤ length st.objects
  in_few seg = length-kept (λ (o : Object). o.name.seg.0 == seg) st.objects

  pub gone_few : (seg : ℕ) → length (gone_below seg) ≤ length st.objects
  gone_few seg =
      let first = length-kept (is_chosen (owner_of trace st) h (λ n. not (is_reached trace st h n))) (objects_below st.objects seg) in
      let then = length-kept (λ (o : Object). nat_lt o.name.seg.0 seg) st.objects in
      omega (arith, first, then)

  pub gone_small : (seg : ℕ) → AllByRecursion (IsDeclared trace) st.objects → total object_bytes (gone_below seg) ≤ 144 * length st.objects
  gone_small seg declared =
      let few = gone_few seg in
      let small = small_all trace (gone_below seg)
      (all_kept (IsDeclared trace) (is_chosen (owner_of trace st) h (λ n. not (is_reached trace st h n))) (objects_below st.objects seg)
      (all_kept (IsDeclared trace) (λ (o : Object). nat_lt o.name.seg.0 seg) st.objects declared)) in
      omega (arith, few, small)

  pub gone_end : AllByRecursion (IsDeclared trace) st.objects → gone_below (segment_count trace) ≡ filter (λ (o : Object). not (survives trace st h o.name)) st.objects
  unfolding survives
  gone_end declared =
      chosen_all (owner_of trace st) h (λ n. not (is_reached trace st h n)) trace st.objects declared
      ∙ kept_alike (is_chosen (owner_of trace st) h (λ n. not (is_reached trace st h n))) (λ (o : Object). not (survives trace st h o.name))
      (λ o. goes_is (heap_eq (owner_of trace st o.name.seg.0) h) (is_reached trace st h o.name)) st.objects

  -- one segment of the heap more
  module _ (marks : List (List Bool)) (seg : ℕ) (are : AreMarks trace st (Some h) marks (is_reached trace st h)) (low : seg < segment_count trace) (owned : heap_eq (owner_of trace st seg) h ≡ true) where
    pub long_of : length (get_or marks seg []) ≡ length (objects_in st.objects seg)
    long_of = ap (λ (ms : List Bool). length ms) (are seg low owned) ∙ length-map (objects_in st.objects seg) (λ (o : Object). is_reached trace st h o.name)

    pub count_next : IsOrdered st.objects → length (gone_below (seg + 1)) ≡ length (gone_below seg) + count_by not (get_or marks seg [])
    count_next ordered =
        ap (λ (xs : List Object). length xs) (chosen_passing (owner_of trace st) h (λ n. not (is_reached trace st h n)) st.objects seg ordered owned)
        ∙ length-append (gone_below seg) (filter (λ (o : Object). not (is_reached trace st h o.name)) (objects_in st.objects seg))
        ∙ ap (λ n. length (gone_below seg) + n)
        (sym (ap (λ (ms : List Bool). count_by not ms) (are seg low owned) ∙ count_gone (λ (o : Object). is_reached trace st h o.name) (objects_in st.objects seg)))

    pub bytes_next : IsOrdered st.objects →
        total object_bytes (gone_below (seg + 1)) ≡ total object_bytes (gone_below seg) + total object_bytes (marked (map not (get_or marks seg [])) (objects_in st.objects seg))
    bytes_next ordered =
        ap (total object_bytes) (chosen_passing (owner_of trace st) h (λ n. not (is_reached trace st h n)) st.objects seg ordered owned)
        ∙ total_append object_bytes (gone_below seg) (filter (λ (o : Object). not (is_reached trace st h o.name)) (objects_in st.objects seg))
        ∙ ap (λ n. total object_bytes (gone_below seg) + n)
        (sym (ap (λ (ms : List Bool). total object_bytes (marked (map not ms) (objects_in st.objects seg))) (are seg low owned)
        ∙ ap (total object_bytes) (gone_is (λ (o : Object). is_reached trace st h o.name) (objects_in st.objects seg))))
