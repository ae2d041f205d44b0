-- What the small changes of a state change in the part of a cell.
use Rattle.std.proofs.Common.{◌≡◌, ℕ, ◌+◌, ◌<◌, ◌==◌, ◌&&◌, ◌||◌, Bool, true, false, cond, refl, sym, ap, ap₂, ◌∙◌, inl, inr, List, [], ◌∷◌, ◌++◌, map, length, Some, None, get_or, set, get_or-set_same, get_or-set_other, eq-eqb, ne_eqb}
use Rattle.std.proofs.Math.Path.{fun_ext}
use Rattle.std.proofs.lemmas.Bool.{cases_eq, cases_Bool}
use Rattle.std.proofs.lemmas.List.Folds.{list_any-append}
use Rattle.k_types.specs.declared.names.Name.{Name}
use Rattle.k_types.specs.declared.names.TypeId.{TypeId}
use Rattle.k_types.specs.declared.names.Field.{Field}
use Rattle.k_types.specs.declared.names.Heap.{Heap}
use Rattle.k_types.specs.declared.names.Phase.{Phase}
use Rattle.k_types.specs.declared.names.Phase.TheVariants.{Unmade}
use Rattle.k_types.specs.Names.{heap_eq, name_eq}
use Rattle.k_types.specs.Trace.{Trace}
use Rattle.k_types.specs.State.{State, Content, ExitItem, fresh, has_exit, scan_of}
use Rattle.k_types.specs.Owners.{owner_of, objects_of, shared, phase_of, is_absorbed}
use Rattle.k_types.specs.Updates.{create, write, add_exit, with_exit, open_scan, set_phase, with_object, next_name}
use Rattle.k_types.specs.Cells.{CellPart, Cell, part, made_of}
use Rattle.k_laws.specs.PartUpdates.{with_written}
use Rattle.k_types.specs.Sound.{IsOrdered}
use Rattle.k_laws.specs.CellChanges.{given, with_created, with_exit_to, with_scan, in_phase}
use Rattle.k_laws.proofs.Merged.{kept_placed}
use Rattle.k_types.proofs.NameTests.{heap_eq-same, heap_eq_refl, name_eq-true}
use Rattle.k_types.proofs.Objects.{kept-written}
use Rattle.k_laws.proofs.SoundShare.{owner_kept}

-- a write shows in every cell: only its own has the object
pub write_on_cell : (trace : Trace) (st : State) (c : Cell) (x : Name) (i : ℕ) (content : Content) → part trace (write x i content st) c ≡ with_written x i content (part trace st c)
unfolding part write
write_on_cell trace st c x i content =
    ap (λ objects. record (part trace st c) { objects = objects }) (kept-written (λ n. heap_eq (owner_of trace st n.seg.0) c) x i content st.objects)

module _ (trace : Trace) (st : State) (c : Cell) (seg : ℕ) (ty : TypeId) (kinds : List Field) (own : owner_of trace st seg ≡ c) (inside : seg < length st.made) (ordered : IsOrdered st.objects) where
  made_here : made_of (owner_of trace st) st.made c seg ≡ Some (get_or st.made seg 0)
  made_here = ap (λ b. cond b (Some (get_or st.made seg 0)) None) (heap_eq-same (owner_of trace st seg) c own)

  given_here : given (made_of (owner_of trace st) st.made c seg) ≡ get_or st.made seg 0
  given_here = ap given made_here

  made_at : (at : ℕ) → made_of (owner_of trace st) (set st.made seg (get_or st.made seg 0 + 1)) c at
      ≡ cond (at == seg) (Some (given (made_of (owner_of trace st) st.made c seg) + 1)) (made_of (owner_of trace st) st.made c at)
  made_at at =
      elim (cases_eq at seg) [
        | inl same ↦
            ap (λ k. cond (heap_eq (owner_of trace st k) c) (Some (get_or (set st.made seg (get_or st.made seg 0 + 1)) k 0)) None) same
            ∙ ap₂ (λ b n. cond b (Some n) None) (heap_eq-same (owner_of trace st seg) c own) (get_or-set_same st.made seg (get_or st.made seg 0 + 1) 0 inside)
            ∙ ap (λ n. Some (n + 1)) (sym given_here)
            ∙ sym (ap (λ b. cond b (Some (given (made_of (owner_of trace st) st.made c seg) + 1)) (made_of (owner_of trace st) st.made c at)) (eq-eqb at seg same))
        | inr ne ↦
            ap (λ n. cond (heap_eq (owner_of trace st at) c) (Some n) None) (get_or-set_other st.made seg at (get_or st.made seg 0 + 1) 0 ne)
            ∙ sym (ap (λ b. cond b (Some (given (made_of (owner_of trace st) st.made c seg) + 1)) (made_of (owner_of trace st) st.made c at)) (ne_eqb at seg ne))
      ]

  name_is : next_name seg st ≡ record { seg = record { 0 = seg }; serial = record { 0 = given (made_of (owner_of trace st) st.made c seg) + 1 } }
  name_is = ap (λ n. let name : Name = record { seg = record { 0 = seg }; serial = record { 0 = n + 1 } } in name) (sym given_here)

  -- an object that is made shows in the cell of its segment's owner
  pub create_on_cell : part trace (create seg ty kinds st) c ≡ with_created seg ty kinds (part trace st c)
  unfolding part create
  create_on_cell =
      ap₂ (λ objects made. record (part trace st c) { objects = objects; made = made })
      (kept_placed (λ n. heap_eq (owner_of trace st n.seg.0) c) (record { name = next_name seg st; ty = Some ty; fields = map fresh kinds }) st.objects (heap_eq-same (owner_of trace st seg) c own) ordered
      ∙ ap (λ name. with_object (record { name = name; ty = Some ty; fields = map fresh kinds }) (objects_of (owner_of trace st) c st.objects)) name_is)
      (fun_ext made_at)

exit_at : (h : Heap) (y : Name) (exits : List ExitItem) (n : Name) → has_exit (with_exit h y exits) h n ≡ (has_exit exits h n || name_eq y n)
exit_at h y exits n =
    elim (has_exit exits h y) as (λ b. has_exit exits h y ≡ b → has_exit (cond b exits (exits ++ record { heap = h; target = y } ∷ [])) h n ≡ (has_exit exits h n || name_eq y n)) [
      | true ↦ λ there. elim (cases_Bool (name_eq y n)) [
        | inl same ↦ let now = ap (has_exit exits h) (sym (name_eq-true y n same)) ∙ there in now ∙ sym (ap (λ b. b || name_eq y n) now)
        | inr other ↦ sym (ap (λ b. has_exit exits h n || b) other ∙ or_none (has_exit exits h n))
      ]
      | false ↦ λ new. list_any-append (λ e. heap_eq e.heap h && name_eq e.target n) exits (record { heap = h; target = y } ∷ [])
          ∙ ap (λ b. has_exit exits h n || b) (ap (λ b. (b && name_eq y n) || false) (heap_eq_refl h) ∙ or_none (name_eq y n))
    ] refl
  where
    or_none : (b : Bool) → (b || false) ≡ b
    or_none true = refl
    or_none false = refl

-- an exit item that is added shows in its heap's cell
pub add_exit_on_cell : (trace : Trace) (st : State) (h : Heap) (y : Name) → part trace (add_exit h y st) h ≡ with_exit_to y (part trace st h)
unfolding part add_exit
add_exit_on_cell trace st h y = ap (λ exits. record (part trace st h) { exits = exits }) (fun_ext (exit_at h y st.exits))

-- a collection that begins shows in its heap's cell
pub open_scan_on_cell : (trace : Trace) (st : State) (h : Heap) (roots : List Name) → part trace (open_scan h roots st) h ≡ with_scan roots (part trace st h)
unfolding part open_scan
open_scan_on_cell trace st h roots = rw (heap_eq_refl h) refl

-- a phase that changes no owner shows in the shared heap's cell
pub set_phase_on_cell : (trace : Trace) (st : State) (s : ℕ) (phase : Phase) → s < length st.phases → is_absorbed phase ≡ is_absorbed (phase_of st.phases s) →
    part trace (set_phase s phase st) (shared s) ≡ in_phase phase (part trace st (shared s))
unfolding part set_phase
set_phase_on_cell trace st s phase inside same =
    ap (λ own. let c : CellPart = record {
      objects = objects_of own (shared s) st.objects;
      made = made_of own st.made (shared s);
      exits = has_exit st.exits (shared s);
      scan = scan_of st.scans (shared s);
      process = None;
      phase = Some (phase_of (set st.phases s phase) s);
    } in c) (owner_kept trace st s phase same)
    ∙ ap (λ now. record (part trace st (shared s)) { phase = Some now }) (get_or-set_same st.phases s phase Unmade inside)
