-- The objects of a heap, segment by segment.
use Rattle.std.proofs.Common.{◌≡◌, ℕ, ◌+◌, ◌≤◌, nat_lt, true, false, ap, ◌∙◌, List, [], ◌++◌, length, arith}
use Rattle.std.specs.List.{AllByRecursion}
use Rattle.std.proofs.lemmas.List.{append-nil}
use Rattle.std.proofs.lemmas.List.Elements.{filter-append}
use Rattle.k_types.specs.declared.names.Heap.{Heap}
use Rattle.k_types.specs.Names.{heap_eq}
use Rattle.k_types.specs.Owners.{objects_of}
use Rattle.k_types.specs.Sound.{IsOrdered}
use Rattle.k_types.specs.State.{Object}
use Rattle.k_types.specs.Trace.{Trace, segment_count}
use Rattle.k_state.specs.Machines.{IsDeclared}
use Rattle.k_state.specs.Segments.{objects_below, objects_in}
use Rattle.k_laws.proofs.Lists.{length-kept}
use Rattle.k_state.proofs.Borders.{below_all, below_next, below_none}
use Rattle.k_state.proofs.Split.{are_in, nothing_in, whole_in}

module _ (own : ℕ → Heap) (h : Heap) (xs : List Object) where
  -- those of the heap in the segments below that one
  abbrev pub pool_below : ℕ → List Object
  pool_below seg = objects_of own h (objects_below xs seg)

  pub pool_none : pool_below 0 ≡ []
  pool_none = ap (objects_of own h) (below_none xs)

  pool_more : (seg : ℕ) → IsOrdered xs → pool_below (seg + 1) ≡ pool_below seg ++ objects_of own h (objects_in xs seg)
  pool_more seg ordered =
      ap (objects_of own h) (below_next xs seg ordered) ∙ filter-append (λ (o : Object). heap_eq (own o.name.seg.0) h) (objects_below xs seg) (objects_in xs seg)

  -- all of a segment of the heap
  pub pool_own : (seg : ℕ) → IsOrdered xs → heap_eq (own seg) h ≡ true → pool_below (seg + 1) ≡ pool_below seg ++ objects_in xs seg
  pool_own seg ordered owned =
      pool_more seg ordered
      ∙ ap (λ ys. pool_below seg ++ ys)
      (whole_in (λ (o : Object). heap_eq (own o.name.seg.0) h) seg (λ o is. ap (λ k. heap_eq (own k) h) is ∙ owned) (objects_in xs seg) (are_in xs seg))

  -- and none of a segment of another heap
  pub pool_other : (seg : ℕ) → IsOrdered xs → heap_eq (own seg) h ≡ false → pool_below (seg + 1) ≡ pool_below seg
  pool_other seg ordered other =
      pool_more seg ordered
      ∙ ap (λ ys. pool_below seg ++ ys)
      (nothing_in (λ (o : Object). heap_eq (own o.name.seg.0) h) seg (λ o is. ap (λ k. heap_eq (own k) h) is ∙ other) (objects_in xs seg) (are_in xs seg))
      ∙ append-nil (pool_below seg)

  pub pool_all : (setup : Trace) → AllByRecursion (IsDeclared setup) xs → pool_below (segment_count setup) ≡ objects_of own h xs
  pool_all setup all = ap (objects_of own h) (below_all setup xs all)

  pub pool_few : (seg : ℕ) → length (pool_below seg) ≤ length xs
  pool_few seg =
      let first = length-kept (λ (o : Object). heap_eq (own o.name.seg.0) h) (objects_below xs seg) in
      let then = length-kept (λ (o : Object). nat_lt o.name.seg.0 seg) xs in
      omega (arith, first, then)
