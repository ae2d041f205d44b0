-- Changes of the parts of one cell or of two, and the small changes of a state as such.
use Rattle.std.proofs.Common.{◌≡◌, ℕ, ◌<◌, cond, sym, ap, ◌∙◌, inl, inr, List, length, Option, IsFalse}
use Rattle.std.proofs.Math.Path.{fun_ext}
use Rattle.std.proofs.lemmas.Bool.{cases_Bool}
use Rattle.k_types.specs.declared.names.Name.{Name}
use Rattle.k_types.specs.declared.names.TypeId.{TypeId}
use Rattle.k_types.specs.declared.names.Field.{Field}
use Rattle.k_types.specs.declared.names.Heap.{Heap}
use Rattle.k_types.specs.declared.names.Phase.{Phase}
use Rattle.k_types.specs.Names.{heap_eq}
use Rattle.k_types.specs.Trace.{Trace}
use Rattle.k_types.specs.State.{State, Content}
use Rattle.k_types.specs.Owners.{owner_of, user, shared, phase_of, is_absorbed}
use Rattle.k_types.specs.Updates.{count_done, set_register, create, write, add_exit, open_scan, set_phase}
use Rattle.k_types.specs.Sound.{IsOrdered}
use Rattle.k_types.specs.Cells.{Cell, CellPart, part}
use Rattle.k_laws.specs.PartUpdates.{with_done, with_register, with_written}
use Rattle.k_laws.proofs.Elsewhere.{count_done_elsewhere, set_register_elsewhere, create_elsewhere, write_elsewhere, add_exit_elsewhere, open_scan_elsewhere}
use Rattle.k_laws.proofs.ElsewhereOther.{set_phase_elsewhere}
use Rattle.k_laws.proofs.LocalEffects.{part_done, part_register}
use Rattle.k_types.proofs.NameTests.{heap_eq-true}
use Rattle.k_laws.specs.CellChanges.{with_created, with_exit_to, with_scan, in_phase}
use Rattle.k_laws.proofs.OnCells.{write_on_cell, create_on_cell, add_exit_on_cell, open_scan_on_cell, set_phase_on_cell}
use Rattle.k_laws.specs.CellAfter.{at_cell}

-- where one cell's part changes and the others stay
pub one_cell : (before after : Cell → CellPart) (h : Cell) (change : CellPart → CellPart) → after h ≡ change (before h) → ((c : Cell) → IsFalse (heap_eq h c) → after c ≡ before c) →
    after ≡ at_cell h change before
one_cell before after h change here others = fun_ext at
  where
    at : (c : Cell) → after c ≡ cond (heap_eq h c) (change (before c)) (before c)
    at c = elim (cases_Bool (heap_eq h c)) [
      | inl t ↦
          let is = heap_eq-true h c t in
          ap after (sym is) ∙ here ∙ ap (λ k. change (before k)) is ∙ sym (ap (λ b. cond b (change (before c)) (before c)) t)
      | inr f ↦ others c f ∙ sym (ap (λ b. cond b (change (before c)) (before c)) f)
    ]

-- where two cells' parts change and the others stay
pub two_cells : (before after : Cell → CellPart) (h g : Cell) (change more : CellPart → CellPart) → IsFalse (heap_eq g h) → after h ≡ change (before h) → after g ≡ more (before g) →
    ((c : Cell) → IsFalse (heap_eq h c) → IsFalse (heap_eq g c) → after c ≡ before c) → after ≡ at_cell h change (at_cell g more before)
two_cells before after h g change more apart here there others =
    one_cell (at_cell g more before) after h change (here ∙ ap change (sym (ap (λ b. cond b (more (before h)) (before h)) apart))) rest
  where
    rest : (c : Cell) → IsFalse (heap_eq h c) → after c ≡ cond (heap_eq g c) (more (before c)) (before c)
    rest c f = elim (cases_Bool (heap_eq g c)) [
      | inl t ↦
          let is = heap_eq-true g c t in
          ap after (sym is) ∙ there ∙ ap (λ k. more (before k)) is ∙ sym (ap (λ b. cond b (more (before c)) (before c)) t)
      | inr e ↦ others c f e ∙ sym (ap (λ b. cond b (more (before c)) (before c)) e)
    ]

module _ (trace : Trace) (st : State) where
  pub done_cells : (p : ℕ) → p < length st.done → part trace (count_done p st) ≡ at_cell (user p) with_done (part trace st)
  done_cells p inside = one_cell (part trace st) (part trace (count_done p st)) (user p) with_done (part_done trace p st inside) (λ c f. count_done_elsewhere trace st c p f)

  pub register_cells : (p r : ℕ) (v : Option Name) → part trace (set_register p r v st) ≡ at_cell (user p) (with_register r v) (part trace st)
  register_cells p r v =
      one_cell (part trace st) (part trace (set_register p r v st)) (user p) (with_register r v) (part_register trace p st r v) (λ c f. set_register_elsewhere trace st c p r v f)

  pub create_cells : (h : Heap) (seg : ℕ) (ty : TypeId) (kinds : List Field) → owner_of trace st seg ≡ h → seg < length st.made → IsOrdered st.objects →
      part trace (create seg ty kinds st) ≡ at_cell h (with_created seg ty kinds) (part trace st)
  create_cells h seg ty kinds own inside ordered =
      one_cell (part trace st) (part trace (create seg ty kinds st)) h (with_created seg ty kinds) (create_on_cell trace st h seg ty kinds own inside ordered)
      (λ c f. create_elsewhere trace st c seg ty kinds (ap (λ k. heap_eq k c) own ∙ f))

  pub write_cells : (h : Heap) (x : Name) (i : ℕ) (content : Content) → owner_of trace st x.seg.0 ≡ h → part trace (write x i content st) ≡ at_cell h (with_written x i content) (part trace st)
  write_cells h x i content own =
      one_cell (part trace st) (part trace (write x i content st)) h (with_written x i content) (write_on_cell trace st h x i content)
      (λ c f. write_elsewhere trace st c x i content (ap (λ k. heap_eq k c) own ∙ f))

  pub exit_cells : (h : Heap) (y : Name) → part trace (add_exit h y st) ≡ at_cell h (with_exit_to y) (part trace st)
  exit_cells h y = one_cell (part trace st) (part trace (add_exit h y st)) h (with_exit_to y) (add_exit_on_cell trace st h y) (λ c f. add_exit_elsewhere trace st c h y f)

  pub scan_cells : (h : Heap) (roots : List Name) → part trace (open_scan h roots st) ≡ at_cell h (with_scan roots) (part trace st)
  scan_cells h roots =
      one_cell (part trace st) (part trace (open_scan h roots st)) h (with_scan roots) (open_scan_on_cell trace st h roots) (λ c f. open_scan_elsewhere trace st c h roots f)

  pub phase_cells : (s : ℕ) (phase : Phase) → s < length st.phases → is_absorbed phase ≡ is_absorbed (phase_of st.phases s) →
      part trace (set_phase s phase st) ≡ at_cell (shared s) (in_phase phase) (part trace st)
  phase_cells s phase inside same =
      one_cell (part trace st) (part trace (set_phase s phase st)) (shared s) (in_phase phase) (set_phase_on_cell trace st s phase inside same) (λ c f. set_phase_elsewhere trace st c s phase f same)
