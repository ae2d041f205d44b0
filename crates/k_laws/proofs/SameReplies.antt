-- Operations are answered the same in two states where the parts are the same to them.
use Rattle.std.proofs.Common.{◌≡◌, ℕ, ◌+◌, ◌<◌, ◌==◌, ◌⊎◌, nat_lt, nat_le, not, true, false, cond, refl, sym, ap, ap₂, ◌∙◌, inl, inr, List, [], ◌∷◌, ◌++◌, length, Option, Some, None, IsTrue, IsFalse, eqb-true, ltb-true, get_or, ◌&&◌}
use Rattle.std.specs.List.{list_any}
use Rattle.std.proofs.lemmas.Bool.{cases_Bool, or_left, or_right, and_parts, false≢true}
use Rattle.k_types.specs.declared.names.Name.{Name}
use Rattle.k_types.specs.declared.names.Pid.{Pid}
use Rattle.k_types.specs.declared.names.Heap.{Heap}
use Rattle.k_types.specs.declared.names.Heap.TheVariants.{Kernel, User, Shared}
use Rattle.k_types.specs.declared.names.Phase.{Phase}
use Rattle.k_types.specs.declared.names.Phase.TheVariants.{Unmade, Populating, Frozen as FrozenPhase, Absorbed}
use Rattle.k_types.specs.declared.op.Op.{Op}
use Rattle.k_types.specs.declared.op.Op.TheVariants.{New, KNew, SNew, Store, Load, Put, Get, Share, Freeze, Attach, Resize}
use Rattle.k_types.specs.declared.event.Fault.{Fault}
use Rattle.k_types.specs.declared.event.Fault.TheVariants.{Foreign, NotSharer, NoField, WrongKind, Frozen, Segv, NotPopulating, NotFrozen, Taken, KernelFull, LimitNotBelow, InUse}
use Rattle.k_types.specs.declared.event.Reply.{Reply}
use Rattle.k_types.specs.declared.event.Reply.TheVariants.{Done, Made, Loaded, Value}
use Rattle.k_types.specs.declared.event.Event.{Event}
use Rattle.k_types.specs.declared.event.Event.TheVariants.{Done as DoneEvent, Ended, Absorbed as AbsorbedEvent, Closing}
use Rattle.k_types.specs.Barrier.{legal_store}
use Rattle.k_types.specs.Updates.{next_name}
use Rattle.k_types.specs.Names.{heap_eq, kind_of, among}
use Rattle.k_types.specs.Bounds.{maximum_below}
use Rattle.k_types.specs.Trace.{Trace, process_count, limit_of, size_of_type, segment_of}
use Rattle.k_types.specs.TraceRules.{AreLimits}
use Rattle.k_types.specs.State.{State, object_at, fields_of, register, has_share, Holds}
use Rattle.k_types.specs.Owners.{owner_of, user, bytes_of, phase_of, is_absorbed}
use Rattle.k_types.specs.Steps.{in_range}
use Rattle.k_types.specs.Replies.{fault_where, first_fault, faults, access_faults, sharer_fault, at_base, answer, reply_to, refused_or, field_at, field_count, is_ref, reference_from, reference, passes_barrier, is_foreign, is_frozen_heap, is_frozen, is_populating, is_unmade, root_of, load_faults, store_faults, number_faults, number_from, number_in, size_fault, limit_fault, may_resize}
use Rattle.k_types.specs.Cells.{part, book_part, base_cell, access_cell, other_cells, cells_touched}
use Rattle.k_laws.specs.Same.{SameToEvent}
use Rattle.k_laws.proofs.SameRead.{owners_same, shares_same, limit_same, shared_bytes_same, sharer_same, frozen_same, object_same, name_same, bytes_same, register_same, others_same, full_for_same, use_same}
use Rattle.k_types.proofs.NameTests.{heap_eq_refl}
use Rattle.k_laws.proofs.OwnerOf.{owner_kernel, owner_user, owner_shared}
use Rattle.k_laws.proofs.PartsTell.{owner_same, phases_same}

-- an access through a register, where its cells have the same parts
module _ (trace : Trace) (st su : State) (book : book_part trace st ≡ book_part trace su) (p : ℕ) (own : part trace st (user p) ≡ part trace su (user p)) where
  -- the access to the object is refused for its owner, whatever else is at fault
  abbrev IsRefused : Name → Type 0
  IsRefused x = (f : Fault) × ((i : ℕ) (r : List (Option Fault)) → first_fault (access_faults trace st p x i ++ r) ≡ Some f)
      × ((i : ℕ) (r : List (Option Fault)) → first_fault (access_faults trace su p x i ++ r) ≡ Some f)

  seen : (x : Name) (h : Heap) → owner_of trace st x.seg.0 ≡ h → ((c : Heap) → IsTrue (list_any (λ k. heap_eq k c) (base_cell st p h)) → part trace st c ≡ part trace su c) →
      (object_at st.objects x ≡ object_at su.objects x) ⊎ IsRefused x
  unfolding access_faults first_fault fault_where
  seen x Kernel e cells = inl (object_same trace st su book Kernel (cells Kernel refl) x e)
  seen x (User q) e cells =
      elim (cases_Bool (q.0 == p)) [
        | inl t ↦ inl (object_same trace st su book (user p) own x (e ∙ ap user (eqb-true q.0 p t)))
        | inr f ↦ inr (Foreign, (λ i r. rw (e, f) refl), (λ i r. rw (sym (owner_same trace st su book x.seg.0) ∙ e, f) refl))
      ]
  seen x (Shared s) e cells =
      elim (cases_Bool (has_share st.shares p s.0)) [
        | inl t ↦ inl (object_same trace st su book (Shared s) (cells (Shared s) (ap (λ b. list_any (λ k. heap_eq k (Shared s)) (cond b (Shared s ∷ []) [])) t ∙ or_left _ _ (heap_eq_refl (Shared s)))) x e)
        | inr f ↦ inr (NotSharer s, (λ i r. rw (e, f) refl), (λ i r. rw (sym (owner_same trace st su book x.seg.0) ∙ e, sym (shares_same trace st su book p s.0) ∙ f) refl))
      ]

  module _ (x : Name) (found : object_at st.objects x ≡ object_at su.objects x) where
    access_found : (i : ℕ) → access_faults trace st p x i ≡ access_faults trace su p x i
    unfolding access_faults
    access_found i =
        ap₂ (λ a b. a ∷ b ∷ fault_where (nat_le (field_count st x) i) NoField ∷ [])
        (ap (λ h. fault_where (is_foreign h p) Foreign) (owner_same trace st su book x.seg.0))
        (sharer_same trace st su book (owner_of trace st x.seg.0) p ∙ ap (λ h. sharer_fault su h p) (owner_same trace st su book x.seg.0))
        ∙ ap (λ o. fault_where (is_foreign (owner_of trace su x.seg.0) p) Foreign ∷ sharer_fault su (owner_of trace su x.seg.0) p ∷ fault_where (nat_le (length (fields_of o)) i) NoField ∷ []) found

    field_found : (i : ℕ) → field_at st x i ≡ field_at su x i
    field_found i = ap (λ o. get_or (fields_of o) i (Holds 0)) found

  barrier_same : (x : Name) (v : Option Name) → passes_barrier trace st x v ≡ passes_barrier trace su x v
  unfolding passes_barrier
  barrier_same x None = refl
  barrier_same x (Some y) =
      ap (λ (o : ℕ → Heap). legal_store (kind_of (o x.seg.0)) (kind_of (o y.seg.0)) (heap_eq (o x.seg.0) (o y.seg.0))) (owners_same trace st su book)

  -- each cell that an access through this touches has the same part
  abbrev Through : Option Name → Type 0
  Through r = (c : Heap) → IsTrue (list_any (λ k. heap_eq k c) (access_cell trace st p r)) → part trace st c ≡ part trace su c

  load_same : (r : Option Name) (i : ℕ) → Through r → refused_or (first_fault (at_base r (load_faults trace st p i))) (Loaded (reference_from st r i)) ≡ refused_or (first_fault (at_base r (load_faults trace su p i))) (Loaded (reference_from su r i))
  load_same None i cells = refl
  load_same (Some x) i cells =
      elim (seen x (owner_of trace st x.seg.0) refl cells) [
        | inl found ↦
            ap₂ (λ access content. refused_or (first_fault (access ++ fault_where (not (is_ref content)) WrongKind ∷ [])) (Loaded (reference content))) (access_found x found i) (field_found x found i)
        | inr refused ↦
            ap (λ f. refused_or f (Loaded (reference (field_at st x i)))) (refused.1 i (fault_where (not (is_ref (field_at st x i))) WrongKind ∷ []))
            ∙ sym (ap (λ f. refused_or f (Loaded (reference (field_at su x i)))) (refused.2 i (fault_where (not (is_ref (field_at su x i))) WrongKind ∷ [])))
      ]

  get_same : (r : Option Name) (i : ℕ) → Through r → refused_or (first_fault (at_base r (number_faults trace st p i))) (Value (number_from st r i)) ≡ refused_or (first_fault (at_base r (number_faults trace su p i))) (Value (number_from su r i))
  get_same None i cells = refl
  get_same (Some x) i cells =
      elim (seen x (owner_of trace st x.seg.0) refl cells) [
        | inl found ↦
            ap₂ (λ access content. refused_or (first_fault (access ++ fault_where (is_ref content) WrongKind ∷ [])) (Value (number_in content))) (access_found x found i) (field_found x found i)
        | inr refused ↦
            ap (λ f. refused_or f (Value (number_in (field_at st x i)))) (refused.1 i (fault_where (is_ref (field_at st x i)) WrongKind ∷ []))
            ∙ sym (ap (λ f. refused_or f (Value (number_in (field_at su x i)))) (refused.2 i (fault_where (is_ref (field_at su x i)) WrongKind ∷ [])))
      ]

  put_same : (r : Option Name) (i : ℕ) → Through r → first_fault (at_base r (number_faults trace st p i)) ≡ first_fault (at_base r (number_faults trace su p i))
  put_same None i cells = refl
  put_same (Some x) i cells =
      elim (seen x (owner_of trace st x.seg.0) refl cells) [
        | inl found ↦ ap₂ (λ access content. first_fault (access ++ fault_where (is_ref content) WrongKind ∷ [])) (access_found x found i) (field_found x found i)
        | inr refused ↦ refused.1 i (fault_where (is_ref (field_at st x i)) WrongKind ∷ []) ∙ sym (refused.2 i (fault_where (is_ref (field_at su x i)) WrongKind ∷ []))
      ]

  store_same : (r : Option Name) (i : ℕ) (v : Option Name) → Through r → first_fault (at_base r (store_faults trace st p i v)) ≡ first_fault (at_base r (store_faults trace su p i v))
  store_same None i v cells = refl
  store_same (Some x) i v cells =
      elim (seen x (owner_of trace st x.seg.0) refl cells) [
        | inl found ↦
            ap₂ (λ access content. first_fault (access ++ fault_where (not (is_ref content)) WrongKind ∷ fault_where (is_frozen_heap st (owner_of trace st x.seg.0)) Frozen ∷ fault_where (not (passes_barrier trace st x v)) Segv ∷ []))
            (access_found x found i) (field_found x found i)
            ∙ ap₂ (λ frozen barrier. first_fault (access_faults trace su p x i ++ fault_where (not (is_ref (field_at su x i))) WrongKind ∷ fault_where frozen Frozen ∷ fault_where (not barrier) Segv ∷ []))
            (frozen_same trace st su book (owner_of trace st x.seg.0) ∙ ap (is_frozen_heap su) (owner_same trace st su book x.seg.0)) (barrier_same x v)
        | inr refused ↦
            refused.1 i (fault_where (not (is_ref (field_at st x i))) WrongKind ∷ fault_where (is_frozen_heap st (owner_of trace st x.seg.0)) Frozen ∷ fault_where (not (passes_barrier trace st x v)) Segv ∷ [])
            ∙ sym (refused.2 i (fault_where (not (is_ref (field_at su x i))) WrongKind ∷ fault_where (is_frozen_heap su (owner_of trace su x.seg.0)) Frozen ∷ fault_where (not (passes_barrier trace su x v)) Segv ∷ []))
      ]

  -- by the operation
  module _ (limits : AreLimits trace) (known : p < process_count trace) (lives : IsFalse (among p st.ended)) where
    size_same : (size : ℕ) → size_fault trace st p size ≡ size_fault trace su p size
    unfolding size_fault
    size_same size = ap limit_fault (limit_same trace st su book limits (limit_of trace p) size (limits.limited p known))

    populated : (s : ℕ) (phase : Phase) → is_populating phase p ≡ true → is_absorbed phase ≡ false
    populated s Unmade t = absurd (false≢true t)
    populated s (Populating q) t = refl
    populated s (FrozenPhase root) t = absurd (false≢true t)
    populated s Absorbed t = absurd (false≢true t)

    freeze_same : (h : Heap) (s : ℕ) (r : Option Name) →
        at_base r (λ x. fault_where (not (heap_eq (owner_of trace st x.seg.0) h)) Segv ∷ fault_where (not (is_populating (phase_of st.phases s) p)) (NotPopulating (record { 0 = s })) ∷ [])
        ≡ at_base r (λ x. fault_where (not (heap_eq (owner_of trace su x.seg.0) h)) Segv ∷ fault_where (not (is_populating (phase_of su.phases s) p)) (NotPopulating (record { 0 = s })) ∷ [])
    freeze_same h s None = refl
    freeze_same h s (Some x) =
        ap₂ (λ o (phases : List Phase). fault_where (not (heap_eq o h)) Segv ∷ fault_where (not (is_populating (phase_of phases s) p)) (NotPopulating (record { 0 = s })) ∷ [])
        (owner_same trace st su book x.seg.0) (phases_same trace st su book)

    pub reply_same : (op : Op) → IsTrue (in_range trace op) → ((c : Heap) → IsTrue (list_any (λ k. heap_eq k c) (other_cells trace st p op)) → part trace st c ≡ part trace su c) →
        reply_to trace st p op ≡ reply_to trace su p op
    unfolding reply_to faults answer other_cells in_range first_fault fault_where
    reply_same (New r ty) inside cells =
        ap₂ (λ fault name. refused_or (first_fault (fault ∷ [])) (Made name)) (size_same (size_of_type trace ty)) (name_same trace st su book (user p) own (p + 1) (owner_user trace st p known lives))
    reply_same (KNew r ty) inside cells =
        let same = cells Kernel refl in
        ap₂ (λ bytes name. refused_or (first_fault (fault_where (nat_lt trace.ceiling (bytes + size_of_type trace ty)) KernelFull ∷ [])) (Made name)) (bytes_same trace st su book Kernel same) (name_same trace st su book Kernel same 0 (owner_kernel trace st))
    reply_same (SNew r s ty) inside cells =
        elim (cases_Bool (is_populating (phase_of st.phases s.0) p)) [
          | inl t ↦
              ap₂ (λ (phases : List Phase) fault. refused_or (first_fault (fault_where (not (is_populating (phase_of phases s.0) p)) (NotPopulating s) ∷ fault ∷ [])) (Made (next_name (segment_of trace (Shared s)) st)))
              (phases_same trace st su book) (size_same (size_of_type trace ty))
              ∙ ap (λ name. refused_or (first_fault (fault_where (not (is_populating (phase_of su.phases s.0) p)) (NotPopulating s) ∷ size_fault trace su p (size_of_type trace ty) ∷ [])) (Made name))
              (name_same trace st su book (Shared s) (cells (Shared s) (or_left _ _ (heap_eq_refl (Shared s)))) (1 + process_count trace + s.0) (owner_shared trace st s.0 (populated s.0 (phase_of st.phases s.0) t)))
          | inr f ↦
              let g = ap (λ (phases : List Phase). is_populating (phase_of phases s.0) p) (sym (phases_same trace st su book)) ∙ f in
              rw (f, g) refl
        ]
    reply_same (Store base i value) inside cells =
        ap (λ f. refused_or f Done) (store_same (register st.registers p base.0) i (register st.registers p value.0) cells
        ∙ ap₂ (λ b v. first_fault (at_base b (store_faults trace su p i v))) (register_same trace st su book p own base.0) (register_same trace st su book p own value.0))
    reply_same (Load r base i) inside cells =
        load_same (register st.registers p base.0) i cells
        ∙ ap (λ b. refused_or (first_fault (at_base b (load_faults trace su p i))) (Loaded (reference_from su b i))) (register_same trace st su book p own base.0)
    reply_same (Put base i number) inside cells =
        ap (λ f. refused_or f Done) (put_same (register st.registers p base.0) i cells
        ∙ ap (λ b. first_fault (at_base b (number_faults trace su p i))) (register_same trace st su book p own base.0))
    reply_same (Get base i) inside cells =
        get_same (register st.registers p base.0) i cells
        ∙ ap (λ b. refused_or (first_fault (at_base b (number_faults trace su p i))) (Value (number_from su b i))) (register_same trace st su book p own base.0)
    reply_same (Share s) inside cells =
        ap (λ (phases : List Phase). refused_or (first_fault (fault_where (not (is_unmade (phase_of phases s.0))) (Taken s) ∷ [])) Done) (phases_same trace st su book)
    reply_same (Freeze s root) inside cells =
        ap (λ fs. refused_or (first_fault fs) Done) (freeze_same (Shared s) s.0 (register st.registers p root.0)
        ∙ ap (λ b. at_base b (λ x. fault_where (not (heap_eq (owner_of trace su x.seg.0) (Shared s))) Segv ∷ fault_where (not (is_populating (phase_of su.phases s.0) p)) (NotPopulating s) ∷ [])) (register_same trace st su book p own root.0))
    reply_same (Attach r s) inside cells =
        let heap = ltb-true _ _ (and_parts (nat_lt r.0 16) (nat_lt s.0 trace.shared_heaps) inside).1 in
        ap₂ (λ (phases : List Phase) fault. refused_or (first_fault (fault_where (not (is_frozen (phase_of phases s.0))) (NotFrozen s) ∷ fault ∷ [])) (Loaded (root_of (phase_of phases s.0))))
        (phases_same trace st su book)
        (ap₂ (λ b fault. cond b None fault) (shares_same trace st su book p s.0)
        (size_same (bytes_of trace st (Shared s)) ∙ ap (size_fault trace su p) (shared_bytes_same trace st su book s.0 heap)))
    reply_same (Resize m max) inside cells =
        let known = ltb-true _ _ (and_parts (nat_lt m.0 (length trace.limits)) (nat_lt max maximum_below) inside).0 in
        ap₂ (λ full used. refused_or (first_fault (cond (may_resize trace p m.0) (limit_fault full) None ∷ fault_where (not (may_resize trace p m.0)) (LimitNotBelow m) ∷ fault_where (may_resize trace p m.0 && nat_lt max used) (InUse m) ∷ [])) Done)
        (full_for_same trace st su book limits m.0 max known) (use_same trace st su book m.0 known)
    reply_same _ inside cells = refl

-- the event's cells are the same, and what is said of the first state holds of the second
module _ (trace : Trace) (st su : State) where
  pub touched_same : (event : Event) → SameToEvent trace st su event → cells_touched trace st event ≡ cells_touched trace su event
  unfolding cells_touched
  touched_same (DoneEvent pid op said) same =
      ap (λ cells. User pid ∷ cells) (others_same trace st su same.book pid.0 (same.cells (User pid) (or_left _ _ (heap_eq_refl (User pid)))) op)
  touched_same (Ended h objects bytes exits shares) same = refl
  touched_same (AbsorbedEvent s) same = refl
  touched_same Closing same = refl

  pub same_turned : (event : Event) → SameToEvent trace st su event → SameToEvent trace su st event
  same_turned event same =
      record {
        cells = λ c t. sym (same.cells c (ap (list_any (λ k. heap_eq k c)) (touched_same event same) ∙ t));
        book = sym same.book;
      }

  pub done_reply_same : AreLimits trace → (pid : Pid) (op : Op) (said : Reply) → pid.0 < process_count trace → IsFalse (among pid.0 st.ended) → IsTrue (in_range trace op) →
      SameToEvent trace st su (DoneEvent pid op said) → reply_to trace st pid.0 op ≡ reply_to trace su pid.0 op
  unfolding cells_touched
  done_reply_same limits pid op said known lives inside same =
      reply_same trace st su same.book pid.0 (same.cells (User pid) (or_left _ _ (heap_eq_refl (User pid)))) limits known lives op inside
      (λ c t. same.cells c (or_right (heap_eq (User pid) c) _ t))
