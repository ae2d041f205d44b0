-- What the end of a collection changes in the part of the heap's cell.
use Rattle.std.proofs.Common.{◌≡◌, ◌&&◌, ◌||◌, not, Bool, true, cond, refl, ap, ap₂, ◌∙◌, arith, List, [], ◌∷◌, filter, None, unwrap_or}
use Rattle.std.proofs.Math.Path.{fun_ext}
use Rattle.std.specs.List.{list_any}
use Rattle.k_types.specs.declared.names.Name.{Name}
use Rattle.k_types.specs.declared.names.Heap.{Heap}
use Rattle.k_types.specs.Names.{heap_eq}
use Rattle.k_types.specs.Trace.{Trace}
use Rattle.k_types.specs.State.{State, Object, has, refers, has_exit, scan_of}
use Rattle.k_types.specs.Owners.{owner_of, objects_of}
use Rattle.k_types.specs.Reach.{reach_among}
use Rattle.k_types.specs.Updates.{keep_objects, keep_exits, keep_shares, close_scan}
use Rattle.k_types.specs.Effects.{after_ended, survives, exit_stays, open_roots}
use Rattle.k_types.specs.Cells.{part}
use Rattle.k_laws.specs.CellChanges.{collected}
use Rattle.k_types.proofs.NameTests.{heap_eq_refl}
use Rattle.k_laws.proofs.Kept.{has_exit-kept, scan_closed}
use Rattle.k_laws.proofs.Means.{reach_is}

-- a filter is the same where its test is on what another keeps
same_kept : (q p r : Object → Bool) → ((o : Object) → q o ≡ true → p o ≡ r o) → (xs : List Object) → filter q (filter p xs) ≡ filter r (filter q xs)
same_kept q p r same [] = refl
same_kept q p r same (x ∷ xs) = grind (arith, same x, same_kept q p r same xs)

module _ (trace : Trace) (st : State) (h : Heap) where
  abbrev pub reached : List Object
  reached = reach_among (objects_of (owner_of trace st) h st.objects) (unwrap_or (scan_of st.scans h) [])

  survives_here : (o : Object) → heap_eq (owner_of trace st o.name.seg.0) h ≡ true → survives trace st h o.name ≡ has reached o.name
  unfolding survives
  survives_here o own =
      ap₂ (λ b set. not b || has set o.name) own (reach_is trace st h (open_roots st h))

  pub stays_here : (n : Name) → exit_stays trace st h (record { heap = h; target = n }) ≡ list_any (λ x. refers x n) reached
  unfolding exit_stays
  stays_here n = ap₂ (λ b set. not b || list_any (λ x. refers x n) set) (heap_eq_refl h) (reach_is trace st h (open_roots st h))

  pub ended_on_cell : part trace (after_ended trace h st) h ≡ collected (part trace st h)
  unfolding part after_ended keep_objects keep_exits keep_shares close_scan
  ended_on_cell =
      ap₂ (λ objects exits. record (part trace (after_ended trace h st) h) { objects = objects; exits = exits })
      (same_kept (λ o. heap_eq (owner_of trace st o.name.seg.0) h) (λ o. survives trace st h o.name) (λ o. has reached o.name) survives_here st.objects)
      (fun_ext (λ n. has_exit-kept (exit_stays trace st h) st.exits h n ∙ ap (λ b. has_exit st.exits h n && b) (stays_here n)))
      ∙ ap (λ scan. record (collected (part trace st h)) { scan = scan }) (scan_closed h h st.scans ∙ ap (λ b. cond b None (scan_of st.scans h)) (heap_eq_refl h))
