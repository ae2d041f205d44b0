-- What is not black in a marked cell is what the end of its collection takes from the machine.
use Rattle.std.proofs.Common.{◌≡◌, ℕ, ◌+◌, ◌≤◌, ◌&&◌, ◌||◌, ◌++◌, ◌∷◌, [], not, Bool, true, false, cond, refl, sym, ap, ap₂, ◌∙◌, subst, List, length, arith, unwrap_or}
use Rattle.k_types.specs.declared.event.Event.{Event}
use Rattle.k_types.specs.declared.event.Event.TheVariants.{Ended}
use Rattle.k_types.specs.declared.names.CellPhase.TheVariants.{Marked}
use Rattle.k_types.specs.declared.names.Name.{Name}
use Rattle.k_types.specs.Agree.{AreMarks, CellValue}
use Rattle.k_types.specs.Cells.{Cell, ShownPart, part}
use Rattle.k_types.specs.Effects.{after_ended, open_roots, step, survives}
use Rattle.k_types.specs.Names.{heap_eq, name_among}
use Rattle.k_types.specs.Owners.{objects_of, owner_of}
use Rattle.k_types.specs.Reach.{reach_among}
use Rattle.k_types.specs.State.{State, has, scan_of}
use Rattle.k_types.specs.Steps.{IsLegalHistory, state_after}
use Rattle.k_types.specs.Trace.{Trace}
use Rattle.k_types.specs.TraceRules.{KeepsRules}
use Rattle.k_types.specs.Updates.{close_scan, keep_exits, keep_objects, keep_shares}
use Rattle.k_types.proofs.Lists.{length-kept}
use Rattle.k_types.proofs.Objects.{has-kept}
use Rattle.k_laws.proofs.Histories.{state_next}
use Rattle.k_laws.proofs.Means.{reach_is}
use Rattle.k_mark.specs.Listening.{AreTold, times}
use Rattle.k_agree.specs.Agreement.{Shows}
use Rattle.k_agree.specs.Ending.{freed_objects}
use Rattle.k_commit.specs.k_cell.Changes.{freed_at}
use Rattle.k_commit.specs.k_cell.Holdings.{HoldingsValue}
use Rattle.k_commit.specs.k_book.Books.{BookRecord}
use Rattle.k_commit.specs.k_heap.Heaps.{HeapRecord}
use Rattle.k_commit.specs.Met.{HeapHasMet, KernelHasMet}
use Rattle.k_commit.specs.Others.{held_by}
use Rattle.k_collect.specs.Freed.{AreFreed, gone_between}

not_kept : (there own kept : Bool) → ((there && own) && not kept) ≡ (there && not (not own || kept))
not_kept true true kept = refl
not_kept true false kept = refl
not_kept false own kept = refl

went : (there stays : Bool) → (there && not stays) ≡ (there && not (there && stays))
went true stays = refl
went false stays = refl

module _ (trace : Trace) (st : State) (cell : Cell) (v : CellValue) (shows : Shows trace st cell v) (phase : v.collection ≡ Marked) where
  marks : AreMarks Marked (scan_of st.scans cell) v
  marks = subst (λ k. AreMarks k (scan_of st.scans cell) v) phase shows.marks

  objects_are : v.objects ≡ objects_of (owner_of trace st) cell st.objects
  unfolding part
  objects_are = ap (λ (s : ShownPart). s.objects) shows.part

  reached_is : reach_among (objects_of (owner_of trace st) cell st.objects) (open_roots st cell) ≡ reach_among v.objects marks.0
  reached_is = ap₂ (λ os scan. reach_among os (unwrap_or scan [])) (sym objects_are) marks.1

  not_black : (n : Name) → (has v.objects n && not (name_among n v.black)) ≡ (has st.objects n && not (survives trace st cell n))
  unfolding survives
  not_black n =
      ap₂ (λ h b. h && not b) (ap (λ os. has os n) objects_are ∙ has-kept (λ m. heap_eq (owner_of trace st m.seg.0) cell) st.objects n) (marks.3 n)
      ∙ not_kept (has st.objects n) (heap_eq (owner_of trace st n.seg.0) cell) (has (reach_among v.objects marks.0) n)
      ∙ ap (λ set. has st.objects n && not (not (heap_eq (owner_of trace st n.seg.0) cell) || has set n)) (sym (reach_is trace st cell (open_roots st cell) ∙ reached_is))

  has_after : (n : Name) → has (after_ended trace cell st).objects n ≡ (has st.objects n && survives trace st cell n)
  unfolding after_ended close_scan keep_shares keep_exits keep_objects
  has_after n = has-kept (survives trace st cell) st.objects n

  pub freed_is : (n : Name) → freed_at v n ≡ gone_between st (after_ended trace cell st) n
  freed_is n =
      ap (λ b. cond b 1 0)
      (not_black n ∙ went (has st.objects n) (survives trace st cell n) ∙ ap (λ b. has st.objects n && not b) (sym (has_after n)))

ended_next : (trace : Trace) (history : List Event) (cell : Cell) (objects bytes exits shares : ℕ) (event : Event) → event ≡ Ended cell objects bytes exits shares →
    state_after trace (history ++ event ∷ []) ≡ after_ended trace cell (state_after trace history)
unfolding step
ended_next trace history cell objects bytes exits shares event is =
    state_next trace history event ∙ ap (λ e. step trace (state_after trace history) e) is

-- a cell that has met the journal has its value still
pub met_value : (trace : Trace) (c d : HeapRecord) (b k : BookRecord) → HeapHasMet trace c d b k → d.value ≡ c.value
met_value trace c d b k met = ap (λ (y : HeapRecord). y.value) met.cell_is

pub kernel_met_value : (trace : Trace) (c d : HoldingsValue) (b k : BookRecord) → KernelHasMet trace c d b k → d.value ≡ c.value
kernel_met_value trace c d b k met = ap (λ (y : HoldingsValue). y.value) (ap held_by met.other_is)

-- there is room for what goes where there is room for all objects
pub fits_all : (v : CellValue) (count room : ℕ) → count + length v.objects ≤ room → count + freed_objects v ≤ room
fits_all v count room fits = let few = length-kept (λ o. not (name_among o.name v.black)) v.objects in omega (arith, few, fits)

-- what was told of a cell that shows the state after this history
module _ (trace : Trace) (history : List Event) (keeps : KeepsRules trace) (legal : IsLegalHistory trace history) (cell : Cell) (v : CellValue) (shows : Shows trace (state_after trace history) cell v) where
  pub all_freed : v.collection ≡ Marked → (objects bytes exits shares : ℕ) (event : Event) → event ≡ Ended cell objects bytes exits shares → (old new : List Name) → AreTold (freed_at v) (freed_objects v) old new → AreFreed trace history event old new
  all_freed phase objects bytes exits shares event is old new told = record {
    once = λ n.
        told.each_is n
        ∙ ap (λ k. times n old + k)
        (freed_is trace (state_after trace history) cell v shows phase n
        ∙ ap (λ st. gone_between (state_after trace history) st n) (sym (ended_next trace history cell objects bytes exits shares event is)));
  }
