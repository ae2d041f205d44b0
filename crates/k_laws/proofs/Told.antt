-- What an operation is answered, which cells it touches and whether it is local is told by parts.
use Rattle.std.proofs.Common.{◌≡◌, ℕ, ◌+◌, ◌<◌, ◌==◌, ◌&&◌, ◌||◌, ◌++◌, not, nat_lt, nat_le, Bool, true, false, cond, refl, sym, ap, ap₂, ◌∙◌, List, [], ◌∷◌, length, Option, Some, None, get_or, eqb-true, IsTrue, IsFalse}
use Rattle.std.proofs.lemmas.Bool.{ltb-true, and_parts}
use Rattle.k_types.specs.declared.names.Name.{Name}
use Rattle.k_types.specs.declared.names.SharedId.{SharedId}
use Rattle.k_types.specs.declared.names.Phase.{Phase}
use Rattle.k_types.specs.declared.names.Heap.{Heap}
use Rattle.k_types.specs.declared.names.Heap.TheVariants.{Kernel, User, Shared}
use Rattle.k_types.specs.declared.op.Op.{Op}
use Rattle.k_types.specs.declared.op.Op.TheVariants.{New, KNew, SNew, Store, Load, Move, Clear, Put, Get, Share, Freeze, Attach, Kill, Resize}
use Rattle.k_types.specs.declared.event.Fault.{Fault}
use Rattle.k_types.specs.declared.event.Fault.TheVariants.{Foreign, NoField, WrongKind, Frozen, Segv, NotPopulating, NotFrozen, Taken, KernelFull, LimitNotBelow, InUse}
use Rattle.k_types.specs.declared.event.Reply.{Reply}
use Rattle.k_types.specs.declared.event.Reply.TheVariants.{Made, Loaded, Value}
use Rattle.k_types.specs.declared.event.Event.{Event}
use Rattle.k_types.specs.declared.event.Event.TheVariants.{Done, Ended, Absorbed, Closing}
use Rattle.k_types.specs.Barrier.{legal_store}
use Rattle.k_types.specs.Bounds.{maximum_below, register_count}
use Rattle.k_types.specs.Names.{heap_eq, kind_of, among}
use Rattle.k_types.specs.Trace.{Trace, process_count, limit_of, size_of_type}
use Rattle.k_types.specs.TraceRules.{AreLimits}
use Rattle.k_types.specs.State.{State, Content, Holds, register, object_at, fields_of, has_share}
use Rattle.k_types.specs.Owners.{owner_of, user, phase_of, bytes_of, is_absorbed}
use Rattle.k_types.specs.Replies.{fault_where, first_fault, faults, at_base, answer, reply_to, refused_or, access_faults, store_faults, load_faults, number_faults, sharer_fault, is_frozen_heap, is_foreign, is_ref, is_unmade, root_of, is_frozen, is_populating, passes_barrier, limit_fault, size_fault, field_at, field_count, reference, reference_from, number_in, number_from, may_resize}
use Rattle.k_types.specs.Cells.{CellPart, part, book_part, base_cell, access_cell, other_cells, cells_touched}
use Rattle.k_types.specs.Local.{is_local, is_own, is_local_store, is_local_load}
use Rattle.k_types.specs.Steps.{in_range}
use Rattle.k_laws.specs.PartUpdates.{held_in}
use Rattle.k_laws.proofs.OwnerOf.{owner_user, owner_kernel, owner_shared}
use Rattle.k_laws.specs.BookChanges.{owner_in}
use Rattle.k_laws.proofs.OnBook.{owner_told}
use Rattle.k_laws.proofs.ToldBy.{register_told, object_told, name_told, bytes_told, shared_bytes_told, limit_told, full_for_told}
use Rattle.k_laws.specs.CellAfter.{register_in}
use Rattle.k_laws.specs.Answers.{field_in, field_count_in, sharer_fault_in, is_frozen_in, size_fault_in, passes_barrier_in, access_faults_in, store_faults_in, load_faults_in, number_faults_in, freeze_faults_in, faults_in, reference_from_in, number_from_in, answer_in, reply_in}
use Rattle.k_laws.specs.Touches.{base_cell_in, access_cell_in, other_cells_in, touched_in}
use Rattle.k_laws.specs.Locals.{is_local_store_in, is_local_load_in, is_local_in}
use Rattle.k_laws.proofs.CellSquares.{told, populates, populating_phase}
use Rattle.k_types.specs.Limits.{is_above}
use Rattle.k_laws.proofs.UseShown.{use_is_shown}

-- the faults at a base by two functions that agree
at_base_same : (r : Option Name) (f g : Name → List (Option Fault)) → ((x : Name) → f x ≡ g x) → at_base r f ≡ at_base r g
at_base_same None f g same = refl
at_base_same (Some x) f g same = same x

-- the replies are one where the answers are, if nothing is at fault
refused_same : (f : Option Fault) (a b : Reply) → (f ≡ None → a ≡ b) → refused_or f a ≡ refused_or f b
refused_same None a b same = same refl
refused_same (Some fault) a b same = refl

and_same : (a b c : Bool) → (IsTrue a → b ≡ c) → (a && b) ≡ (a && c)
and_same true b c same = same refl
and_same false b c same = refl

module _ (trace : Trace) (st : State) where
  base_told : (p : ℕ) (h : Heap) → base_cell st p h ≡ base_cell_in (book_part trace st) p h
  unfolding book_part
  base_told p Kernel = refl
  base_told p (User q) = refl
  base_told p (Shared s) = refl

  access_told : (p : ℕ) (x : Option Name) → access_cell trace st p x ≡ access_cell_in trace (book_part trace st) p x
  access_told p None = refl
  access_told p (Some x) = base_told p (owner_of trace st x.seg.0) ∙ ap (λ (own : ℕ → Heap). base_cell_in (book_part trace st) p (own x.seg.0)) (sym (owner_told trace st))

  through : (p r : ℕ) → access_cell trace st p (register st.registers p r) ≡ access_cell_in trace (book_part trace st) p (held_in (part trace st (user p)).process r)
  through p r = access_told p (register st.registers p r) ∙ ap (access_cell_in trace (book_part trace st) p) (sym (register_told trace st p r))

  ended_told : (q : ℕ) → among q st.ended ≡ (book_part trace st).ended q
  unfolding book_part
  ended_told q = refl

  others_told : (p : ℕ) (op : Op) → other_cells trace st p op ≡ other_cells_in trace (book_part trace st) (part trace st (user p)) p op
  unfolding other_cells other_cells_in
  others_told p (Store base i value) = through p base.0
  others_told p (Load r base i) = through p base.0
  others_told p (Put base i number) = through p base.0
  others_told p (Get base i) = through p base.0
  others_told p (Kill q) = ap (λ b. cond (is_above trace p q.0 && not b) (User q ∷ Kernel ∷ []) []) (ended_told q.0)
  others_told p _ = refl

  pub touched_told : (event : Event) → cells_touched trace st event ≡ touched_in trace (book_part trace st) (part trace st) event
  unfolding cells_touched
  touched_told (Done pid op said) = ap (λ cells. User pid ∷ cells) (others_told pid.0 op)
  touched_told (Ended h a b c d) = refl
  touched_told (Absorbed s) = refl
  touched_told Closing = refl

  -- an access through a register reads its owner's cell
  phases_told : st.phases ≡ (book_part trace st).phases
  unfolding book_part
  phases_told = refl

  shares_told : (p s : ℕ) → has_share st.shares p s ≡ (book_part trace st).shares p s
  unfolding book_part
  shares_told p s = refl

  sharer_told : (h : Heap) (p : ℕ) → sharer_fault st h p ≡ sharer_fault_in (book_part trace st) h p
  unfolding book_part
  sharer_told Kernel p = refl
  sharer_told (User q) p = refl
  sharer_told (Shared s) p = refl

  frozen_told : (h : Heap) → is_frozen_heap st h ≡ is_frozen_in (book_part trace st) h
  unfolding book_part
  frozen_told Kernel = refl
  frozen_told (User q) = refl
  frozen_told (Shared s) = refl

  barrier_told : (x : Name) (v : Option Name) → passes_barrier trace st x v ≡ passes_barrier_in (owner_in trace (book_part trace st)) (owner_of trace st x.seg.0) v
  unfolding passes_barrier
  barrier_told x None = refl
  barrier_told x (Some y) =
      ap (λ (own : ℕ → Heap). legal_store (kind_of (owner_of trace st x.seg.0)) (kind_of (own y.seg.0)) (heap_eq (owner_of trace st x.seg.0) (own y.seg.0))) (sym (owner_told trace st))

  abbrev home : Name → CellPart
  home x = part trace st (owner_of trace st x.seg.0)

  field_told : (x : Name) (i : ℕ) → field_at st x i ≡ field_in (home x) x i
  field_told x i = ap (λ o. get_or (fields_of o) i (Holds 0)) (sym (object_told trace st (owner_of trace st x.seg.0) x refl))

  access_faults_told : (p : ℕ) (x : Name) (i : ℕ) → access_faults trace st p x i ≡ access_faults_in (book_part trace st) (owner_of trace st x.seg.0) (home x) p x i
  unfolding access_faults access_faults_in
  access_faults_told p x i =
      ap₂ (λ sharer o. fault_where (is_foreign (owner_of trace st x.seg.0) p) Foreign ∷ sharer ∷ fault_where (nat_le (length (fields_of o)) i) NoField ∷ [])
      (sharer_told (owner_of trace st x.seg.0) p) (sym (object_told trace st (owner_of trace st x.seg.0) x refl))

  store_told : (p i : ℕ) (v : Option Name) (x : Name) → store_faults trace st p i v x ≡ store_faults_in trace (book_part trace st) (owner_of trace st x.seg.0) (home x) p i v x
  store_told p i v x =
      ap₂ (λ access content. access ++ fault_where (not (is_ref content)) WrongKind ∷ fault_where (is_frozen_heap st (owner_of trace st x.seg.0)) Frozen ∷ fault_where (not (passes_barrier trace st x v)) Segv ∷ [])
      (access_faults_told p x i) (field_told x i)
      ∙ ap₂ (λ frozen barrier. access_faults_in (book_part trace st) (owner_of trace st x.seg.0) (home x) p x i ++ fault_where (not (is_ref (field_in (home x) x i))) WrongKind ∷ fault_where frozen Frozen ∷ fault_where (not barrier) Segv ∷ [])
      (frozen_told (owner_of trace st x.seg.0)) (barrier_told x v)

  load_told : (p i : ℕ) (x : Name) → load_faults trace st p i x ≡ load_faults_in (book_part trace st) (owner_of trace st x.seg.0) (home x) p i x
  load_told p i x = ap₂ (λ access content. access ++ fault_where (not (is_ref content)) WrongKind ∷ []) (access_faults_told p x i) (field_told x i)

  number_told : (p i : ℕ) (x : Name) → number_faults trace st p i x ≡ number_faults_in (book_part trace st) (owner_of trace st x.seg.0) (home x) p i x
  number_told p i x = ap₂ (λ access content. access ++ fault_where (is_ref content) WrongKind ∷ []) (access_faults_told p x i) (field_told x i)

  -- what is said of the owner's cell, by the book's owners and the process's register
  through_base : (p r : ℕ) (f : Name → List (Option Fault)) (g : Heap → CellPart → Name → List (Option Fault)) → ((x : Name) → f x ≡ g (owner_of trace st x.seg.0) (home x) x) →
      at_base (register st.registers p r) f ≡ at_base (register_in (part trace st) p r) (λ x. g (owner_in trace (book_part trace st) x.seg.0) (part trace st (owner_in trace (book_part trace st) x.seg.0)) x)
  through_base p r f g same =
      at_base_same (register st.registers p r) f (λ x. g (owner_of trace st x.seg.0) (home x) x) same
      ∙ ap₂ (λ (b : Option Name) (own : ℕ → Heap). at_base b (λ x. g (own x.seg.0) (part trace st (own x.seg.0)) x)) (told trace st p r) (sym (owner_told trace st))

  reference_told : (p r i : ℕ) → reference_from st (register st.registers p r) i ≡ reference_from_in trace (book_part trace st) (part trace st) (register_in (part trace st) p r) i
  reference_told p r i = at (register st.registers p r) ∙ ap (λ b. reference_from_in trace (book_part trace st) (part trace st) b i) (told trace st p r)
    where
      at : (b : Option Name) → reference_from st b i ≡ reference_from_in trace (book_part trace st) (part trace st) b i
      at None = refl
      at (Some x) = ap reference (field_told x i) ∙ ap (λ (own : ℕ → Heap). reference (field_in (part trace st (own x.seg.0)) x i)) (sym (owner_told trace st))

  read_told : (p r i : ℕ) → number_from st (register st.registers p r) i ≡ number_from_in trace (book_part trace st) (part trace st) (register_in (part trace st) p r) i
  read_told p r i = at (register st.registers p r) ∙ ap (λ b. number_from_in trace (book_part trace st) (part trace st) b i) (told trace st p r)
    where
      at : (b : Option Name) → number_from st b i ≡ number_from_in trace (book_part trace st) (part trace st) b i
      at None = refl
      at (Some x) = ap number_in (field_told x i) ∙ ap (λ (own : ℕ → Heap). number_in (field_in (part trace st (own x.seg.0)) x i)) (sym (owner_told trace st))

  module _ (limits : AreLimits trace) (p : ℕ) (known : p < process_count trace) where
    size_told : (size : ℕ) → size_fault trace st p size ≡ size_fault_in trace (book_part trace st) p size
    unfolding size_fault size_fault_in
    size_told size = ap limit_fault (sym (limit_told trace limits st (limit_of trace p) size (limits.limited p known)))

    freeze_told : (s : SharedId) (x : Name) →
        (fault_where (not (heap_eq (owner_of trace st x.seg.0) (Shared s))) Segv ∷ fault_where (not (is_populating (phase_of st.phases s.0) p)) (NotPopulating s) ∷ [])
        ≡ freeze_faults_in trace (book_part trace st) p (Shared s) s x
    freeze_told s x =
        ap₂ (λ (own : ℕ → Heap) (phases : List Phase). fault_where (not (heap_eq (own x.seg.0) (Shared s))) Segv ∷ fault_where (not (is_populating (phase_of phases s.0) p)) (NotPopulating s) ∷ [])
        (sym (owner_told trace st)) (phases_told)

    faults_told : (op : Op) → IsTrue (in_range trace op) → faults trace st p op ≡ faults_in trace (book_part trace st) (part trace st) p op
    unfolding faults faults_in in_range
    faults_told (New r ty) inside = ap (λ f. f ∷ []) (size_told (size_of_type trace ty))
    faults_told (KNew r ty) inside = ap (λ bytes. fault_where (nat_lt trace.ceiling (bytes + size_of_type trace ty)) KernelFull ∷ []) (sym (bytes_told trace st Kernel))
    faults_told (SNew r s ty) inside =
        ap₂ (λ (phases : List Phase) f. fault_where (not (is_populating (phase_of phases s.0) p)) (NotPopulating s) ∷ f ∷ []) phases_told (size_told (size_of_type trace ty))
    faults_told (Store base i value) inside =
        through_base p base.0 (store_faults trace st p i (register st.registers p value.0)) (λ h c x. store_faults_in trace (book_part trace st) h c p i (register st.registers p value.0) x) (store_told p i (register st.registers p value.0))
        ∙ ap (λ v. at_base (register_in (part trace st) p base.0) (λ x. store_faults_in trace (book_part trace st) (owner_in trace (book_part trace st) x.seg.0) (part trace st (owner_in trace (book_part trace st) x.seg.0)) p i v x)) (told trace st p value.0)
    faults_told (Load r base i) inside = through_base p base.0 (load_faults trace st p i) (λ h c x. load_faults_in (book_part trace st) h c p i x) (load_told p i)
    faults_told (Put base i number) inside = through_base p base.0 (number_faults trace st p i) (λ h c x. number_faults_in (book_part trace st) h c p i x) (number_told p i)
    faults_told (Get base i) inside = through_base p base.0 (number_faults trace st p i) (λ h c x. number_faults_in (book_part trace st) h c p i x) (number_told p i)
    faults_told (Share s) inside = ap (λ (phases : List Phase). fault_where (not (is_unmade (phase_of phases s.0))) (Taken s) ∷ []) phases_told
    faults_told (Freeze s root) inside =
        at_base_same (register st.registers p root.0) _ (freeze_faults_in trace (book_part trace st) p (Shared s) s) (freeze_told s)
        ∙ ap (λ b. at_base b (freeze_faults_in trace (book_part trace st) p (Shared s) s)) (told trace st p root.0)
    faults_told (Attach r s) inside =
        let heap = ltb-true _ _ (and_parts (nat_lt r.0 register_count) (nat_lt s.0 trace.shared_heaps) inside).1 in
        ap₂ (λ (phases : List Phase) f. fault_where (not (is_frozen (phase_of phases s.0))) (NotFrozen s) ∷ f ∷ []) phases_told
        (ap₂ (λ b f. cond b None f) (shares_told p s.0) (size_told (bytes_of trace st (Shared s)) ∙ ap (size_fault_in trace (book_part trace st) p) (sym (shared_bytes_told trace st s.0 heap))))
    faults_told (Resize m max) inside =
        let known = ltb-true _ _ (and_parts (nat_lt m.0 (length trace.limits)) (nat_lt max maximum_below) inside).0 in
        ap₂ (λ full used. cond (may_resize trace p m.0) (limit_fault full) None ∷ fault_where (not (may_resize trace p m.0)) (LimitNotBelow m) ∷ fault_where (may_resize trace p m.0 && nat_lt max used) (InUse m) ∷ [])
        (sym (full_for_told trace limits st m.0 max known)) (sym (use_is_shown trace st m.0 known))
    faults_told _ inside = refl

    answer_told : (op : Op) → IsFalse (among p st.ended) → first_fault (faults trace st p op) ≡ None → answer trace st p op ≡ answer_in trace (book_part trace st) (part trace st) p op
    unfolding faults answer answer_in
    answer_told (New r ty) lives fine = ap (λ n. Made n) (sym (name_told trace st (user p) (p + 1) (owner_user trace st p known lives)))
    answer_told (KNew r ty) lives fine = ap (λ n. Made n) (sym (name_told trace st Kernel 0 (owner_kernel trace st)))
    answer_told (SNew r s ty) lives fine =
        ap (λ n. Made n) (sym (name_told trace st (Shared s) (1 + process_count trace + s.0) (owner_shared trace st s.0 (ap is_absorbed (populating_phase (phase_of st.phases s.0) p (populates trace st p s _ fine))))))
    answer_told (Load r base i) lives fine = ap (λ v. Loaded v) (reference_told p base.0 i)
    answer_told (Get base i) lives fine = ap (λ n. Value n) (read_told p base.0 i)
    answer_told (Attach r s) lives fine = ap (λ (phases : List Phase). Loaded (root_of (phase_of phases s.0))) phases_told
    answer_told _ lives fine = refl

    pub reply_told : (op : Op) → IsFalse (among p st.ended) → IsTrue (in_range trace op) → reply_to trace st p op ≡ reply_in trace (book_part trace st) (part trace st) p op
    unfolding reply_to reply_in
    reply_told op lives inside =
        refused_same (first_fault (faults trace st p op)) (answer trace st p op) (answer_in trace (book_part trace st) (part trace st) p op) (answer_told op lives)
        ∙ ap (λ fs. refused_or (first_fault fs) (answer_in trace (book_part trace st) (part trace st) p op)) (faults_told op inside)

  -- a local operation reads its process's cell
  module _ (p : ℕ) (known : p < process_count trace) (lives : IsFalse (among p st.ended)) where
    own_object : (x : Name) → IsTrue (x.seg.0 == p + 1) → object_at st.objects x ≡ object_at (part trace st (user p)).objects x
    own_object x own = sym (object_told trace st (user p) x (ap (owner_of trace st) (eqb-true x.seg.0 (p + 1) own) ∙ owner_user trace st p known lives))

    field_is_own : (x : Name) (i : ℕ) (goes_on : Content → Bool) →
        ((x.seg.0 == p + 1) && (nat_le (field_count st x) i || not (is_ref (field_at st x i)) || goes_on (field_at st x i)))
        ≡ ((x.seg.0 == p + 1) && (nat_le (field_count_in (part trace st (user p)) x) i || not (is_ref (field_in (part trace st (user p)) x i)) || goes_on (field_in (part trace st (user p)) x i)))
    field_is_own x i goes_on =
        and_same (x.seg.0 == p + 1) _ _ (λ own.
        ap (λ o. nat_le (length (fields_of o)) i || not (is_ref (get_or (fields_of o) i (Holds 0))) || goes_on (get_or (fields_of o) i (Holds 0))) (own_object x own))

    local_store_told : (b : Option Name) (i : ℕ) (v : Option Name) → is_local_store st p b i v ≡ is_local_store_in (part trace st (user p)) p b i v
    local_store_told None i v = refl
    local_store_told (Some x) i v = field_is_own x i (λ content. is_own p v)

    local_load_told : (b : Option Name) (i : ℕ) (old : Option Name) → is_local_load st p b i old ≡ is_local_load_in (part trace st (user p)) p b i old
    local_load_told None i old = refl
    local_load_told (Some x) i old = field_is_own x i (λ content. is_own p (reference content) && is_own p old)

    pub local_told : (op : Op) → is_local st p op ≡ is_local_in (part trace st (user p)) p op
    unfolding is_local is_local_in
    local_told (Store base i value) =
        local_store_told (register st.registers p base.0) i (register st.registers p value.0)
        ∙ ap₂ (λ b v. is_local_store_in (part trace st (user p)) p b i v) (told trace st p base.0) (told trace st p value.0)
    local_told (Load r base i) =
        local_load_told (register st.registers p base.0) i (register st.registers p r.0)
        ∙ ap₂ (λ b v. is_local_load_in (part trace st (user p)) p b i v) (told trace st p base.0) (told trace st p r.0)
    local_told (Move r from) = ap₂ (λ a b. is_own p a && is_own p b) (told trace st p r.0) (told trace st p from.0)
    local_told (Clear r) = ap (is_own p) (told trace st p r.0)
    local_told (Put base i number) = ap (is_own p) (told trace st p base.0)
    local_told (Get base i) = ap (is_own p) (told trace st p base.0)
    local_told _ = refl
