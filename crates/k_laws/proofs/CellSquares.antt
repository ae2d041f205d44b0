-- What the effect of an operation and the other events make of the parts of cells.
use Rattle.std.proofs.Common.{◌≡◌, ℕ, ◌+◌, ◌<◌, ◌&&◌, nat_lt, not, true, false, cond, refl, sym, ap, ap₂, ◌∙◌, List, [], ◌∷◌, length, Option, Some, None, arith, IsTrue, IsFalse, Bool}
use Rattle.std.proofs.lemmas.Bool.{ltb-true, and_parts, not-true, not-false}
use Rattle.std.proofs.Math.Path.{fun_ext}
use Rattle.k_types.specs.declared.names.Name.{Name}
use Rattle.k_types.specs.declared.names.SharedId.{SharedId}
use Rattle.k_types.specs.declared.names.Reg.{Reg}
use Rattle.k_types.specs.declared.names.TypeId.{TypeId}
use Rattle.k_types.specs.declared.names.Heap.{Heap}
use Rattle.k_types.specs.declared.names.Heap.TheVariants.{Kernel, Shared, User}
use Rattle.k_types.specs.declared.names.Phase.{Phase}
use Rattle.k_types.specs.declared.names.Phase.TheVariants.{Populating, Frozen}
use Rattle.k_types.specs.declared.event.Fault.{Fault}
use Rattle.k_types.specs.declared.event.Fault.TheVariants.{Segv, NotPopulating, Taken, ProcNotBelow}
use Rattle.k_types.specs.declared.op.Op.{Op}
use Rattle.k_types.specs.declared.op.Op.TheVariants.{New, KNew, SNew, Store, Load, Move, Clear, Dir, Put, Get, Collect, KCollect, Share, Freeze, Attach, Exit, Kill, Resize}
use Rattle.k_types.specs.Bounds.{register_count}
use Rattle.k_types.specs.Names.{heap_eq, directory, among}
use Rattle.k_types.specs.Trace.{Trace, process_count, segment_count, kinds_of}
use Rattle.k_types.specs.State.{State, Refers, Holds, register, is_scanned}
use Rattle.k_types.specs.Owners.{owner_of, user, shared, phase_of, is_absorbed}
use Rattle.k_types.specs.Reach.{roots_of}
use Rattle.k_types.specs.Updates.{set_register, create, add_exit, add_share, set_phase, open_scan}
use Rattle.k_types.specs.Replies.{fault_where, first_fault, faults, at_base, answer, is_populating, is_unmade, ends_other}
use Rattle.k_types.specs.Effects.{effect, after_store, after_put, after_freeze, with_exit_of_store, after_end_of, after_absorbed, after_closing, after_kill}
use Rattle.k_types.specs.Cells.{Cell, CellPart, part, book_part, other_cells}
use Rattle.k_types.specs.Steps.{in_range}
use Rattle.k_types.specs.Sound.{IsSound}
use Rattle.k_laws.specs.PartUpdates.{with_written}
use Rattle.k_laws.proofs.Elsewhere.{add_share_elsewhere, close_elsewhere, set_max_elsewhere}
use Rattle.k_laws.proofs.ElsewhereOther.{exited_elsewhere, absorbed_elsewhere}
use Rattle.k_laws.proofs.FrameSteps.{none_on, owner_linked}
use Rattle.k_laws.proofs.OwnerOf.{owner_user, owner_kernel, owner_shared}
use Rattle.k_laws.specs.Changes.{MayAbsorb, MayExit}
use Rattle.k_laws.proofs.SoundEffects.{Acts, is_unmade_so, is_populating_by}
use Rattle.k_laws.specs.CellChanges.{with_exit_to, with_scan, in_phase, at_its_end, when_absorbed, taking_in}
use Rattle.k_laws.specs.BookChanges.{owner_in}
use Rattle.k_laws.proofs.GivenAway.{end_on_cell, end_on_kernel, absorbed_on_cell, absorbed_on_kernel}
use Rattle.k_laws.proofs.OnBook.{owner_told}
use Rattle.k_laws.proofs.RootsTold.{roots_told}
use Rattle.k_laws.proofs.ToldBy.{register_told}
use Rattle.k_laws.specs.CellAfter.{at_cell, register_in, cells_with_register, cells_with_new, with_exit_for, cells_stored, cells_put, cells_frozen, cells_scanned, cells_given, cells_operated}
use Rattle.k_laws.proofs.AtCells.{one_cell, two_cells, register_cells, create_cells, write_cells, exit_cells, scan_cells, phase_cells}
use Rattle.k_types.proofs.Lists.{none_is}
use Rattle.k_types.specs.Limits.{is_above}
use Rattle.k_types.specs.declared.names.Pid.{Pid}
use Rattle.std.specs.List.{list_all}
use Rattle.k_laws.specs.Touches.{ends_other_in}

-- no change of a cell's part
same_cell : (h : Heap) (parts : Cell → CellPart) → parts ≡ at_cell h (λ c. c) parts
same_cell h parts = one_cell parts parts h (λ c. c) refl (λ c f. refl)

pub populates : (trace : Trace) (st : State) (p : ℕ) (s : SharedId) (rest : List (Option Fault)) → first_fault (fault_where (not (is_populating (phase_of st.phases s.0) p)) (NotPopulating s) ∷ rest) ≡ None → IsTrue (is_populating (phase_of st.phases s.0) p)
populates trace st p s rest fine = not-false _ (none_on (not (is_populating (phase_of st.phases s.0) p)) (NotPopulating s) rest fine).0

pub populating_phase : (phase : Phase) (p : ℕ) → IsTrue (is_populating phase p) → phase ≡ Populating (record { 0 = p })
populating_phase phase p t = let by = is_populating_by phase p t in by.1 ∙ ap (λ n. Populating (record { 0 = n })) by.2

-- a freezing that isn't refused is of a heap that isn't absorbed
pub freezes : (trace : Trace) (st : State) (p : ℕ) (s : SharedId) (b : Option Name) →
    first_fault (at_base b (λ x. fault_where (not (heap_eq (owner_of trace st x.seg.0) (Shared s))) Segv ∷ fault_where (not (is_populating (phase_of st.phases s.0) p)) (NotPopulating s) ∷ [])) ≡ None →
    IsFalse (is_absorbed (phase_of st.phases s.0))
unfolding first_fault
freezes trace st p s None e = absurd (cc e)
freezes trace st p s (Some x) e = ap is_absorbed (populating_phase (phase_of st.phases s.0) p (populates trace st p s [] (none_on _ Segv _ e).1))

pub may_exit : (trace : Trace) (st : State) (p : ℕ) → Acts trace st p Exit → MayExit trace st p
unfolding other_cells
may_exit trace st p acts = record { known = acts.known; lives = acts.lives; idle = acts.idle; kernel_idle = none_is _ (not-true _ (and_parts (not (is_scanned st.scans Kernel)) true acts.others).0) }

-- a kill that isn't refused may be done, and whoever it ends may end
pub kills : (trace : Trace) (st : State) (p : ℕ) (q : Pid) → Acts trace st p (Kill q) → is_above trace p q.0 ≡ true
unfolding faults
kills trace st p q acts = not-false _ (none_on (not (is_above trace p q.0)) (ProcNotBelow q) [] acts.fine).0

pub may_end_other : (trace : Trace) (st : State) (p : ℕ) (q : Pid) → Acts trace st p (Kill q) → IsTrue (ends_other trace st p q.0) → MayExit trace st q.0
unfolding other_cells in_range
may_end_other trace st p q acts ends =
    let idle = ap (λ b. list_all (λ c. not (is_scanned st.scans c)) (cond b (User q ∷ Kernel ∷ []) [])) (sym ends) ∙ acts.others in
    let parts = and_parts (not (is_scanned st.scans (User q))) (list_all (λ c. not (is_scanned st.scans c)) (Kernel ∷ [])) idle in
    record {
      known = ltb-true _ _ acts.in_range;
      lives = not-true _ (and_parts (is_above trace p q.0) (not (among q.0 st.ended)) ends).1;
      idle = none_is _ (not-true _ parts.0);
      kernel_idle = none_is _ (not-true _ (and_parts (not (is_scanned st.scans Kernel)) true parts.1).0);
    }

-- the book tells whom a kill ends
pub ends_told : (trace : Trace) (st : State) (p q : ℕ) → ends_other trace st p q ≡ ends_other_in trace (book_part trace st) p q
unfolding book_part
ends_told trace st p q = refl

-- what a kill leaves of some view of the state, by whether it ends its target
pub killed : {A : Type 0} (trace : Trace) (st : State) (p : ℕ) (q : Pid) (view : State → A) (ended : A) → is_above trace p q.0 ≡ true →
    (IsTrue (ends_other trace st p q.0) → view (after_end_of trace q.0 st) ≡ ended) →
    view (after_kill trace q.0 st) ≡ cond (ends_other trace st p q.0) ended (view st)
unfolding after_kill
killed trace st p q view ended above ends = go (among q.0 st.ended) refl
  where
    go : (b : Bool) → among q.0 st.ended ≡ b → view (cond b st (after_end_of trace q.0 st)) ≡ cond (ends_other trace st p q.0) ended (view st)
    go true e = sym (ap₂ (λ a b. cond (a && not b) ended (view st)) above e)
    go false e = ends (ap₂ (λ a b. a && not b) above e) ∙ sym (ap₂ (λ a b. cond (a && not b) ended (view st)) above e)

module _ (trace : Trace) (st : State) where
  pub told : (p r : ℕ) → register st.registers p r ≡ register_in (part trace st) p r
  told p r = sym (register_told trace st p r)

  linked_cells : (x : Name) (v : Option Name) → part trace (with_exit_of_store trace x v st) ≡ at_cell (owner_of trace st x.seg.0) (with_exit_for (owner_of trace st) x v) (part trace st)
  unfolding with_exit_of_store
  linked_cells x None = same_cell (owner_of trace st x.seg.0) (part trace st)
  linked_cells x (Some y) =
      elim (heap_eq (owner_of trace st x.seg.0) (owner_of trace st y.seg.0)) as (λ b. part trace (cond b st (add_exit (owner_of trace st x.seg.0) y st))
      ≡ at_cell (owner_of trace st x.seg.0) (λ c. cond b c (with_exit_to y c)) (part trace st)) [
        | true ↦ same_cell (owner_of trace st x.seg.0) (part trace st)
        | false ↦ exit_cells trace st (owner_of trace st x.seg.0) y
      ]

  stored_cells : (x : Option Name) (i : ℕ) (v : Option Name) → part trace (after_store trace x i v st) ≡ cells_stored (owner_of trace st) x i v (part trace st)
  unfolding after_store
  stored_cells None i v = refl
  stored_cells (Some x) i v =
      write_cells trace (with_exit_of_store trace x v st) (owner_of trace st x.seg.0) x i (Refers v) (owner_linked trace st x v x.seg.0)
      ∙ ap (at_cell (owner_of trace st x.seg.0) (with_written x i (Refers v))) (linked_cells x v)

  put_cells : (x : Option Name) (i n : ℕ) → part trace (after_put x i n st) ≡ cells_put (owner_of trace st) x i n (part trace st)
  unfolding after_put
  put_cells None i n = refl
  put_cells (Some x) i n = write_cells trace st (owner_of trace st x.seg.0) x i (Holds n) refl

  frozen_cells : (s : ℕ) (root : Option Name) → s < length st.phases → IsFalse (is_absorbed (phase_of st.phases s)) → part trace (after_freeze s root st) ≡ cells_frozen (shared s) root (part trace st)
  unfolding after_freeze
  frozen_cells s None inside stands = refl
  frozen_cells s (Some root) inside stands = phase_cells trace st s (Frozen root) inside (sym stands)

  module _ (sound : IsSound trace st) where
    scanned_cells : (h : Heap) → part trace (open_scan h (roots_of trace st h) st) ≡ cells_scanned (book_part trace st) h (part trace st)
    scanned_cells h = scan_cells trace st h (roots_of trace st h) ∙ ap (λ roots. at_cell h (with_scan roots) (part trace st)) (roots_told trace st h sound)

    made_long : (seg : ℕ) → seg < segment_count trace → seg < length st.made
    made_long seg inside = omega (arith, inside, sound.shape.sized.made)

    phases_long : (s : ℕ) → s < trace.shared_heaps → s < length st.phases
    phases_long s inside = omega (arith, inside, sound.shape.sized.phases)

    pub exit_effect : (p : ℕ) → MayExit trace st p → part trace (after_end_of trace p st) ≡ cells_given (owner_in trace (book_part trace st)) (user p) at_its_end (part trace st)
    exit_effect p may =
        two_cells (part trace st) (part trace (after_end_of trace p st)) (user p) Kernel at_its_end (taking_in (owner_of trace st) (user p) (part trace st (user p))) refl
        (end_on_cell trace st p sound may) (end_on_kernel trace st p sound may) (λ c f g. exited_elsewhere trace st c p f g)
        ∙ ap (λ own. cells_given own (user p) at_its_end (part trace st)) (sym (owner_told trace st))

    pub absorbed_effect : (s : ℕ) → MayAbsorb trace st s → part trace (after_absorbed trace s st) ≡ cells_given (owner_in trace (book_part trace st)) (shared s) when_absorbed (part trace st)
    absorbed_effect s may =
        two_cells (part trace st) (part trace (after_absorbed trace s st)) (shared s) Kernel when_absorbed (taking_in (owner_of trace st) (shared s) (part trace st (shared s))) refl
        (absorbed_on_cell trace st s sound may) (absorbed_on_kernel trace st s sound may) (λ c f g. absorbed_elsewhere trace st c s f g)
        ∙ ap (λ own. cells_given own (shared s) when_absorbed (part trace st)) (sym (owner_told trace st))

    pub closing_effect : part trace (after_closing trace st) ≡ cells_scanned (book_part trace st) Kernel (part trace st)
    unfolding after_closing
    closing_effect = fun_ext (λ c. close_elsewhere trace (open_scan Kernel (roots_of trace st Kernel) st) c) ∙ scanned_cells Kernel

    module _ (p : ℕ) where
      attached : (r s : ℕ) (v : Option Name) → part trace (set_register p r v (add_share p s st)) ≡ cells_with_register p r v (part trace st)
      attached r s v = register_cells trace (add_share p s st) p r v ∙ ap (cells_with_register p r v) (fun_ext (λ c. add_share_elsewhere trace st c p s))

      snew_cells : (r : Reg) (s : SharedId) (ty : TypeId) → Acts trace st p (SNew r s ty) → part trace (create (1 + process_count trace + s.0) ty (kinds_of trace ty) st) ≡ cells_with_new trace (Shared s) ty (part trace st)
      unfolding faults in_range
      snew_cells r s ty acts =
          let populating = populating_phase (phase_of st.phases s.0) p (populates trace st p s _ acts.fine) in
          let inside = ltb-true _ _ (and_parts (nat_lt r.0 register_count) (nat_lt s.0 trace.shared_heaps) (and_parts (nat_lt r.0 register_count && nat_lt s.0 trace.shared_heaps) (nat_lt ty.0 (length trace.types)) acts.in_range).0).1 in
          create_cells trace st (shared s.0) (1 + process_count trace + s.0) ty (kinds_of trace ty) (owner_shared trace st s.0 (ap is_absorbed populating)) (made_long (1 + process_count trace + s.0) (omega (arith, inside))) sound.names.ordered

      share_cells : (s : SharedId) → Acts trace st p (Share s) → part trace (add_share p s.0 (set_phase s.0 (Populating (record { 0 = p })) st)) ≡ at_cell (Shared s) (in_phase (Populating (record { 0 = p }))) (part trace st)
      unfolding faults in_range
      share_cells s acts =
          let unmade = is_unmade_so (phase_of st.phases s.0) (not-false _ (none_on (not (is_unmade (phase_of st.phases s.0))) (Taken s) [] acts.fine).0) in
          fun_ext (λ c. add_share_elsewhere trace (set_phase s.0 (Populating (record { 0 = p })) st) c p s.0)
          ∙ phase_cells trace st s.0 (Populating (record { 0 = p })) (phases_long s.0 (ltb-true _ _ acts.in_range)) (sym (ap is_absorbed unmade))

      freeze_cells : (s : SharedId) (root : Reg) → Acts trace st p (Freeze s root) → part trace (after_freeze s.0 (register st.registers p root.0) st) ≡ cells_frozen (Shared s) (register_in (part trace st) p root.0) (part trace st)
      unfolding faults in_range
      freeze_cells s root acts =
          frozen_cells s.0 (register st.registers p root.0) (phases_long s.0 (ltb-true _ _ (and_parts (nat_lt s.0 trace.shared_heaps) (nat_lt root.0 register_count) acts.in_range).0))
          (freezes trace st p s (register st.registers p root.0) acts.fine)
          ∙ ap (λ v. cells_frozen (Shared s) v (part trace st)) (told p root.0)

      pub effect_cells : (op : Op) → Acts trace st p op → part trace (effect trace p op st) ≡ cells_operated trace (book_part trace st) (part trace st) p op (answer trace st p op)
      unfolding effect cells_operated answer
      effect_cells (New r ty) acts =
          register_cells trace (create (p + 1) ty (kinds_of trace ty) st) p r.0 _
          ∙ ap (cells_with_register p r.0 _) (create_cells trace st (user p) (p + 1) ty (kinds_of trace ty) (owner_user trace st p acts.known acts.lives) (made_long (p + 1) (omega (arith, acts.known))) sound.names.ordered)
      effect_cells (KNew r ty) acts =
          register_cells trace (create 0 ty (kinds_of trace ty) st) p r.0 _
          ∙ ap (cells_with_register p r.0 _) (create_cells trace st Kernel 0 ty (kinds_of trace ty) (owner_kernel trace st) (made_long 0 (omega arith)) sound.names.ordered)
      effect_cells (SNew r s ty) acts =
          register_cells trace (create (1 + process_count trace + s.0) ty (kinds_of trace ty) st) p r.0 _
          ∙ ap (cells_with_register p r.0 _) (snew_cells r s ty acts)
      effect_cells (Store base i value) acts =
          stored_cells (register st.registers p base.0) i (register st.registers p value.0)
          ∙ ap₂ (λ x v. cells_stored (owner_of trace st) x i v (part trace st)) (told p base.0) (told p value.0)
          ∙ ap (λ own. cells_stored own (register_in (part trace st) p base.0) i (register_in (part trace st) p value.0) (part trace st)) (sym (owner_told trace st))
      effect_cells (Load r base i) acts = register_cells trace st p r.0 _
      effect_cells (Move r from) acts = register_cells trace st p r.0 (register st.registers p from.0) ∙ ap (λ v. cells_with_register p r.0 v (part trace st)) (told p from.0)
      effect_cells (Clear r) acts = register_cells trace st p r.0 None
      effect_cells (Dir r) acts = register_cells trace st p r.0 (Some directory)
      effect_cells (Put base i n) acts =
          put_cells (register st.registers p base.0) i n
          ∙ ap₂ (λ own x. cells_put own x i n (part trace st)) (sym (owner_told trace st)) (told p base.0)
      effect_cells (Get base i) acts = refl
      effect_cells Collect acts = scanned_cells (user p)
      effect_cells KCollect acts = scanned_cells Kernel
      effect_cells (Share s) acts = share_cells s acts
      effect_cells (Freeze s root) acts = freeze_cells s root acts
      effect_cells (Attach r s) acts = attached r.0 s.0 _
      effect_cells Exit acts = exit_effect p (may_exit trace st p acts)
      effect_cells (Kill q) acts =
          killed trace st p q (part trace) (cells_given (owner_in trace (book_part trace st)) (User q) at_its_end (part trace st)) (kills trace st p q acts)
          (λ ends. exit_effect q.0 (may_end_other trace st p q acts ends))
          ∙ ap (λ b. cond b (cells_given (owner_in trace (book_part trace st)) (User q) at_its_end (part trace st)) (part trace st)) (ends_told trace st p q.0)
      effect_cells (Resize m max) acts = fun_ext (λ c. set_max_elsewhere trace st c m.0 max)
