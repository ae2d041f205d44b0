-- A step leaves the part of each cell that it doesn't touch.
use Rattle.std.proofs.Common.{◌≡◌, ℕ, ◌+◌, ◌<◌, ◌||◌, ◌&&◌, not, cond, subst, Bool, true, false, refl, sym, ap, ◌∙◌, List, [], ◌∷◌, ◌++◌, Option, Some, None, eqb-true, IsTrue, IsFalse}
use Rattle.std.specs.List.{list_any}
use Rattle.std.proofs.lemmas.Bool.{or_parts, false≢true, not-false}
use Rattle.k_types.specs.declared.names.Name.{Name}
use Rattle.k_types.specs.declared.names.Heap.{Heap}
use Rattle.k_types.specs.declared.names.Heap.TheVariants.{Kernel, User, Shared}
use Rattle.k_types.specs.declared.op.Op.{Op}
use Rattle.k_types.specs.declared.op.Op.TheVariants.{New, KNew, SNew, Store, Load, Move, Clear, Dir, Put, Get, Collect, KCollect, Share, Freeze, Attach, Exit, Kill, Resize}
use Rattle.k_types.specs.declared.event.Fault.{Fault}
use Rattle.k_types.specs.declared.event.Fault.TheVariants.{Foreign, NotSharer, Segv, NotPopulating, Taken, ProcNotBelow}
use Rattle.k_types.specs.declared.names.SharedId.{SharedId}
use Rattle.k_types.specs.declared.names.Phase.{Phase}
use Rattle.k_types.specs.declared.names.Phase.TheVariants.{Unmade, Populating, Frozen, Absorbed}
use Rattle.k_types.specs.declared.event.Event.{Event}
use Rattle.k_types.specs.declared.event.Event.TheVariants.{Done, Ended, Absorbed as AbsorbedEvent, Closing}
use Rattle.k_types.specs.Steps.{IsPossible}
use Rattle.k_laws.proofs.ElsewhereOther.{set_phase_elsewhere, exited_elsewhere, collected_elsewhere, absorbed_elsewhere}
use Rattle.k_types.specs.Names.{heap_eq, among}
use Rattle.k_types.specs.Trace.{Trace, process_count, kinds_of}
use Rattle.k_types.specs.State.{State, Refers, Holds, register, has_share}
use Rattle.k_types.specs.Owners.{owner_of, user, phase_of, is_absorbed}
use Rattle.k_types.specs.Limits.{is_above}
use Rattle.k_types.specs.Reach.{roots_of}
use Rattle.k_types.specs.Updates.{add_exit}
use Rattle.k_types.specs.Replies.{fault_where, first_fault, faults, access_faults, is_foreign, sharer_fault, at_base, is_populating, is_unmade, ends_other}
use Rattle.k_types.specs.Effects.{effect, effect_unless, after_operation, after_store, after_put, with_exit_of_store, after_freeze, after_end_of, after_kill, step, after_closing}
use Rattle.k_types.specs.Cells.{part, Cell, base_cell, access_cell, other_cells, cells_touched, touches}
use Rattle.k_laws.proofs.Elsewhere.{create_elsewhere, write_elsewhere, add_exit_elsewhere, set_register_elsewhere, count_done_elsewhere, open_scan_elsewhere, add_share_elsewhere, set_max_elsewhere, close_elsewhere}
use Rattle.k_laws.proofs.OwnerOf.{owner_user, owner_kernel, owner_shared}

-- of two faults where none applies, neither does
pub none_on : (b : Bool) (f : Fault) (rest : List (Option Fault)) → first_fault (fault_where b f ∷ rest) ≡ None → (b ≡ false) × (first_fault rest ≡ None)
unfolding fault_where first_fault
none_on true f rest e = absurd (cc e)
none_on false f rest e = (refl, e)

pub none_first : (o : Option Fault) (rest : List (Option Fault)) → first_fault (o ∷ rest) ≡ None → (o ≡ None) × (first_fault rest ≡ None)
unfolding first_fault
none_first (Some f) rest e = absurd (cc e)
none_first None rest e = (refl, e)

-- a link changes no owner
pub owner_linked : (trace : Trace) (st : State) (x : Name) (v : Option Name) (seg : ℕ) → owner_of trace (with_exit_of_store trace x v st) seg ≡ owner_of trace st seg
unfolding with_exit_of_store add_exit
owner_linked trace st x None seg = refl
owner_linked trace st x (Some y) seg =
    elim (heap_eq (owner_of trace st x.seg.0) (owner_of trace st y.seg.0)) as (λ b. owner_of trace (cond b st (add_exit (owner_of trace st x.seg.0) y st)) seg ≡ owner_of trace st seg) [ true ↦ refl | false ↦ refl ]

populating_stands : (phase : Phase) (p : ℕ) → IsTrue (is_populating phase p) → is_absorbed phase ≡ false
populating_stands Unmade p t = absurd (false≢true t)
populating_stands (Populating q) p t = refl
populating_stands (Frozen root) p t = absurd (false≢true t)
populating_stands Absorbed p t = absurd (false≢true t)

unmade_stands : (phase : Phase) → IsTrue (is_unmade phase) → is_absorbed phase ≡ false
unmade_stands Unmade t = refl
unmade_stands (Populating q) t = refl
unmade_stands (Frozen root) t = refl
unmade_stands Absorbed t = absurd (false≢true t)

module _ (trace : Trace) (st : State) (p : ℕ) (c : Cell) (own_apart : IsFalse (heap_eq (user p) c)) where
  -- the owner of a base that is not refused isn't an untouched cell
  base_apart_at : (k : Heap) → IsFalse (is_foreign k p) → sharer_fault st k p ≡ None → IsFalse (list_any (λ d. heap_eq d c) (base_cell st p k)) → IsFalse (heap_eq k c)
  unfolding fault_where
  base_apart_at Kernel f n u = (or_parts (heap_eq Kernel c) false u).0
  base_apart_at (User q) f n u = ap (λ m. heap_eq (user m) c) (eqb-true q.0 p (not-false _ f)) ∙ own_apart
  base_apart_at (Shared s) f n u = go (has_share st.shares p s.0) n u
    where
      go : (b : Bool) → fault_where (not b) (NotSharer s) ≡ None → IsFalse (list_any (λ d. heap_eq d c) (cond b (Shared s ∷ []) [])) → IsFalse (heap_eq (Shared s) c)
      go true n u = (or_parts (heap_eq (Shared s) c) false u).0
      go false n u = absurd (cc n)

  base_apart : (x : Name) (i : ℕ) (rest : List (Option Fault)) → first_fault (access_faults trace st p x i ++ rest) ≡ None →
      IsFalse (list_any (λ d. heap_eq d c) (base_cell st p (owner_of trace st x.seg.0))) → IsFalse (heap_eq (owner_of trace st x.seg.0) c)
  unfolding access_faults
  base_apart x i rest e u =
      let one = none_on (is_foreign (owner_of trace st x.seg.0) p) Foreign _ e in
      let two = none_first (sharer_fault st (owner_of trace st x.seg.0) p) _ one.1 in
      base_apart_at (owner_of trace st x.seg.0) one.0 two.0 u

  link_elsewhere : (x : Name) (v : Option Name) → IsFalse (heap_eq (owner_of trace st x.seg.0) c) → part trace (with_exit_of_store trace x v st) c ≡ part trace st c
  unfolding with_exit_of_store
  link_elsewhere x None apart = refl
  link_elsewhere x (Some y) apart =
      elim (heap_eq (owner_of trace st x.seg.0) (owner_of trace st y.seg.0)) as (λ b. part trace (cond b st (add_exit (owner_of trace st x.seg.0) y st)) c ≡ part trace st c) [
        | true ↦ refl
        | false ↦ add_exit_elsewhere trace st c (owner_of trace st x.seg.0) y apart
      ]

  stored_elsewhere : (base : Option Name) (i : ℕ) (v : Option Name) (rest : Name → List (Option Fault)) →
      first_fault (at_base base (λ x. access_faults trace st p x i ++ rest x)) ≡ None → IsFalse (list_any (λ d. heap_eq d c) (access_cell trace st p base)) →
      part trace (after_store trace base i v st) c ≡ part trace st c
  unfolding after_store
  stored_elsewhere None i v rest e u = refl
  stored_elsewhere (Some x) i v rest e u =
      let apart = base_apart x i (rest x) e u in
      write_elsewhere trace (with_exit_of_store trace x v st) c x i (Refers v) (ap (λ k. heap_eq k c) (owner_linked trace st x v x.seg.0) ∙ apart) ∙ link_elsewhere x v apart

  put_elsewhere : (base : Option Name) (i n : ℕ) (rest : Name → List (Option Fault)) →
      first_fault (at_base base (λ x. access_faults trace st p x i ++ rest x)) ≡ None → IsFalse (list_any (λ d. heap_eq d c) (access_cell trace st p base)) →
      part trace (after_put base i n st) c ≡ part trace st c
  unfolding after_put
  put_elsewhere None i n rest e u = refl
  put_elsewhere (Some x) i n rest e u = write_elsewhere trace st c x i (Holds n) (base_apart x i (rest x) e u)

  frozen_elsewhere : (s : SharedId) (root : Option Name) →
      first_fault (at_base root (λ x. fault_where (not (heap_eq (owner_of trace st x.seg.0) (Shared s))) Segv ∷ fault_where (not (is_populating (phase_of st.phases s.0) p)) (NotPopulating s) ∷ [])) ≡ None →
      IsFalse (heap_eq (Shared s) c) → part trace (after_freeze s.0 root st) c ≡ part trace st c
  unfolding after_freeze
  frozen_elsewhere s None e apart = refl
  frozen_elsewhere s (Some root) e apart =
      let segv = none_on _ Segv _ e in
      let populating = none_on (not (is_populating (phase_of st.phases s.0) p)) (NotPopulating s) [] segv.1 in
      set_phase_elsewhere trace st c s.0 _ apart (sym (populating_stands _ p (not-false _ populating.0)))

  killed_elsewhere : (q : ℕ) → is_above trace p q ≡ true → IsFalse (list_any (λ d. heap_eq d c) (cond (ends_other trace st p q) (user q ∷ Kernel ∷ []) [])) → part trace (after_kill trace q st) c ≡ part trace st c
  unfolding after_kill
  killed_elsewhere q above u = go (among q st.ended) (subst (λ b. IsFalse (list_any (λ d. heap_eq d c) (cond (b && not (among q st.ended)) (user q ∷ Kernel ∷ []) []))) above u)
    where
      go : (b : Bool) → IsFalse (list_any (λ d. heap_eq d c) (cond (not b) (user q ∷ Kernel ∷ []) [])) → part trace (cond b st (after_end_of trace q st)) c ≡ part trace st c
      go true u = refl
      go false u =
          let parts = or_parts (heap_eq (user q) c) (heap_eq Kernel c || false) u in
          exited_elsewhere trace st c q parts.0 (or_parts (heap_eq Kernel c) false parts.1).0

  pub effect_elsewhere : (op : Op) → p < process_count trace → IsFalse (among p st.ended) → first_fault (faults trace st p op) ≡ None → IsFalse (list_any (λ d. heap_eq d c) (other_cells trace st p op)) →
      part trace (effect trace p op st) c ≡ part trace st c
  unfolding effect other_cells faults
  effect_elsewhere (New r ty) known lives e u =
      set_register_elsewhere trace _ c p r.0 _ own_apart
      ∙ create_elsewhere trace st c (p + 1) ty (kinds_of trace ty) (ap (λ k. heap_eq k c) (owner_user trace st p known lives) ∙ own_apart)
  effect_elsewhere (KNew r ty) known lives e u =
      set_register_elsewhere trace _ c p r.0 _ own_apart
      ∙ create_elsewhere trace st c 0 ty (kinds_of trace ty) (ap (λ k. heap_eq k c) (owner_kernel trace st) ∙ (or_parts (heap_eq Kernel c) false u).0)
  effect_elsewhere (SNew r s ty) known lives e u =
      let populating = none_on (not (is_populating (phase_of st.phases s.0) p)) (NotPopulating s) _ e in
      set_register_elsewhere trace _ c p r.0 _ own_apart
      ∙ create_elsewhere trace st c (1 + process_count trace + s.0) ty (kinds_of trace ty)
      (ap (λ k. heap_eq k c) (owner_shared trace st s.0 (populating_stands _ p (not-false _ populating.0))) ∙ (or_parts (heap_eq (Shared s) c) false u).0)
  effect_elsewhere (Store base i value) known lives e u = stored_elsewhere (register st.registers p base.0) i (register st.registers p value.0) _ e u
  effect_elsewhere (Load r base i) known lives e u = set_register_elsewhere trace st c p r.0 _ own_apart
  effect_elsewhere (Move r from) known lives e u = set_register_elsewhere trace st c p r.0 _ own_apart
  effect_elsewhere (Clear r) known lives e u = set_register_elsewhere trace st c p r.0 _ own_apart
  effect_elsewhere (Dir r) known lives e u = set_register_elsewhere trace st c p r.0 _ own_apart
  effect_elsewhere (Put base i n) known lives e u = put_elsewhere (register st.registers p base.0) i n _ e u
  effect_elsewhere (Get base i) known lives e u = refl
  effect_elsewhere Collect known lives e u = open_scan_elsewhere trace st c (user p) (roots_of trace st (user p)) own_apart
  effect_elsewhere KCollect known lives e u = open_scan_elsewhere trace st c Kernel (roots_of trace st Kernel) (or_parts (heap_eq Kernel c) false u).0
  effect_elsewhere (Share s) known lives e u =
      let unmade = none_on (not (is_unmade (phase_of st.phases s.0))) (Taken s) [] e in
      add_share_elsewhere trace _ c p s.0
      ∙ set_phase_elsewhere trace st c s.0 _ (or_parts (heap_eq (Shared s) c) false u).0 (sym (unmade_stands _ (not-false _ unmade.0)))
  effect_elsewhere (Freeze s root) known lives e u = frozen_elsewhere s (register st.registers p root.0) e (or_parts (heap_eq (Shared s) c) false u).0
  effect_elsewhere (Attach r s) known lives e u = set_register_elsewhere trace _ c p r.0 _ own_apart ∙ add_share_elsewhere trace st c p s.0
  effect_elsewhere Exit known lives e u = exited_elsewhere trace st c p own_apart (or_parts (heap_eq Kernel c) false u).0
  effect_elsewhere (Kill q) known lives e u = killed_elsewhere q.0 (not-false _ (none_on (not (is_above trace p q.0)) (ProcNotBelow q) [] e).0) u
  effect_elsewhere (Resize m max) known lives e u = set_max_elsewhere trace st c m.0 max

  pub after_operation_elsewhere : (op : Op) → p < process_count trace → IsFalse (among p st.ended) → IsFalse (list_any (λ d. heap_eq d c) (other_cells trace st p op)) →
      part trace (after_operation trace p op st) c ≡ part trace st c
  unfolding after_operation
  after_operation_elsewhere op known lives u = count_done_elsewhere trace _ c p own_apart ∙ go (first_fault (faults trace st p op)) refl
    where
      go : (f : Option Fault) → first_fault (faults trace st p op) ≡ f → part trace (effect_unless f trace p op st) c ≡ part trace st c
      go None e = effect_elsewhere op known lives e u
      go (Some f) e = refl

-- a step leaves the part of each cell that it doesn't touch
pub frame : (trace : Trace) (st : State) (event : Event) (c : Cell) → IsPossible trace st event → IsFalse (touches trace st event c) → part trace (step trace st event) c ≡ part trace st c
unfolding step cells_touched after_closing
frame trace st (Done pid op said) c may u =
    let parts = or_parts (heap_eq (User pid) c) (list_any (λ d. heap_eq d c) (other_cells trace st pid.0 op)) u in
    after_operation_elsewhere trace st pid.0 c parts.0 op may.known may.lives parts.1
frame trace st (Ended h a b x y) c may u = collected_elsewhere trace st c h (or_parts (heap_eq h c) false u).0
frame trace st (AbsorbedEvent s) c may u =
    let parts = or_parts (heap_eq (Shared s) c) (heap_eq Kernel c || false) u in
    absorbed_elsewhere trace st c s.0 parts.0 (or_parts (heap_eq Kernel c) false parts.1).0
frame trace st Closing c may u =
    close_elsewhere trace _ c ∙ open_scan_elsewhere trace st c Kernel (roots_of trace st Kernel) (or_parts (heap_eq Kernel c) false u).0
