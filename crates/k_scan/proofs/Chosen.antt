-- The objects of a heap that pass a test, segment by segment.
use Rattle.std.proofs.Common.{◌≡◌, ℕ, ◌+◌, ◌&&◌, cond, Bool, true, false, refl, sym, ap, ap₂, ◌∙◌, arith, List, [], ◌∷◌, ◌++◌, map, filter}
use Rattle.std.specs.List.{AllByRecursion}
use Rattle.std.proofs.lemmas.List.{append-nil}
use Rattle.std.proofs.lemmas.List.Elements.{filter-append}
use Rattle.k_types.specs.declared.names.Name.{Name}
use Rattle.k_types.specs.declared.names.Heap.{Heap}
use Rattle.k_types.specs.Names.{heap_eq}
use Rattle.k_types.specs.Owners.{objects_of}
use Rattle.k_types.specs.Sound.{IsOrdered}
use Rattle.k_types.specs.State.{Object}
use Rattle.k_types.specs.Trace.{Trace, segment_count}
use Rattle.k_state.specs.Machines.{IsDeclared}
use Rattle.k_state.specs.Marks.{marked}
use Rattle.k_state.specs.Segments.{objects_below, objects_in}
use Rattle.k_state.proofs.Marked.{marked_passing}
use Rattle.k_state.proofs.Borders.{below_all, below_next, below_none}
use Rattle.k_state.proofs.Split.{alike_in, are_in, nothing_in}

module _ (own : ℕ → Heap) (h : Heap) (test : Name → Bool) where
  -- the object is the heap's and passes
  abbrev pub is_chosen : Object → Bool
  is_chosen o = heap_eq (own o.name.seg.0) h && test o.name

  -- those in the segments below that one
  abbrev pub chosen_below : List Object → ℕ → List Object
  chosen_below xs seg = filter is_chosen (objects_below xs seg)

  pub chosen_none : (xs : List Object) → chosen_below xs 0 ≡ []
  chosen_none xs = ap (filter is_chosen) (below_none xs)

  chosen_more : (xs : List Object) (seg : ℕ) → IsOrdered xs → chosen_below xs (seg + 1) ≡ chosen_below xs seg ++ filter is_chosen (objects_in xs seg)
  chosen_more xs seg ordered = ap (filter is_chosen) (below_next xs seg ordered) ∙ filter-append is_chosen (objects_below xs seg) (objects_in xs seg)

  -- of a segment of the heap those that pass
  pub chosen_in : (xs : List Object) (seg : ℕ) → heap_eq (own seg) h ≡ true → filter is_chosen (objects_in xs seg) ≡ filter (λ (o : Object). test o.name) (objects_in xs seg)
  chosen_in xs seg owned =
      alike_in is_chosen (λ (o : Object). test o.name) seg (λ o is. ap (λ b. b && test o.name) (ap (λ k. heap_eq (own k) h) is ∙ owned)) (objects_in xs seg) (are_in xs seg)

  pub chosen_passing : (xs : List Object) (seg : ℕ) → IsOrdered xs → heap_eq (own seg) h ≡ true →
      chosen_below xs (seg + 1) ≡ chosen_below xs seg ++ filter (λ (o : Object). test o.name) (objects_in xs seg)
  chosen_passing xs seg ordered owned = chosen_more xs seg ordered ∙ ap (λ ys. chosen_below xs seg ++ ys) (chosen_in xs seg owned)

  -- the marked ones of a segment of the heap
  pub chosen_marked : (xs : List Object) (marks : List Bool) (seg : ℕ) → IsOrdered xs → heap_eq (own seg) h ≡ true →
      marks ≡ map (λ (o : Object). test o.name) (objects_in xs seg) → chosen_below xs (seg + 1) ≡ chosen_below xs seg ++ marked marks (objects_in xs seg)
  chosen_marked xs marks seg ordered owned say =
      chosen_passing xs seg ordered owned
      ∙ ap (λ ys. chosen_below xs seg ++ ys) (sym (marked_passing (λ (o : Object). test o.name) marks (objects_in xs seg) say))

  -- and none of a segment of another heap
  pub chosen_other : (xs : List Object) (seg : ℕ) → IsOrdered xs → heap_eq (own seg) h ≡ false → chosen_below xs (seg + 1) ≡ chosen_below xs seg
  chosen_other xs seg ordered other =
      chosen_more xs seg ordered
      ∙ ap (λ ys. chosen_below xs seg ++ ys)
      (nothing_in is_chosen seg (λ o is. ap (λ b. b && test o.name) (ap (λ k. heap_eq (own k) h) is ∙ other)) (objects_in xs seg) (are_in xs seg))
      ∙ append-nil (chosen_below xs seg)

  pub chosen_all : (setup : Trace) (xs : List Object) → AllByRecursion (IsDeclared setup) xs → chosen_below xs (segment_count setup) ≡ filter is_chosen xs
  chosen_all setup xs all = ap (filter is_chosen) (below_all setup xs all)

  -- all of them are those of the heap that pass
  kept_step : (o : Object) (xs : List Object) → filter (λ (x : Object). test x.name) (objects_of own h xs) ≡ filter is_chosen xs →
      filter (λ (x : Object). test x.name) (objects_of own h (o ∷ xs)) ≡ filter is_chosen (o ∷ xs)
  kept_step o xs ih = grind (arith, ih)

  pub chosen_of : (xs : List Object) → filter (λ (x : Object). test x.name) (objects_of own h xs) ≡ filter is_chosen xs
  chosen_of [] = refl
  chosen_of (o ∷ xs) = kept_step o xs (chosen_of xs)

-- tests that agree keep the same
pub kept_alike : (p q : Object → Bool) → ((o : Object) → p o ≡ q o) → (xs : List Object) → filter p xs ≡ filter q xs
kept_alike p q same [] = refl
kept_alike p q same (x ∷ xs) = ap₂ (λ b ys. cond b (x ∷ ys) ys) (same x) (kept_alike p q same xs)

pub kept_alike_all : (p q : Object → Bool) (xs : List Object) → AllByRecursion (λ o. p o ≡ q o) xs → filter p xs ≡ filter q xs
kept_alike_all p q [] all = refl
kept_alike_all p q (x ∷ xs) all = ap₂ (λ b ys. cond b (x ∷ ys) ys) all.0 (kept_alike_all p q xs all.1)
