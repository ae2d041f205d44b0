-- A local operation does the same wherever the process's cell is the same.
use Rattle.std.proofs.Common.{◌≡◌, ℕ, ◌+◌, ◌==◌, ◌||◌, not, nat_le, Bool, true, false, cond, refl, sym, ap, ap₂, ◌∙◌, List, [], ◌∷◌, ◌++◌, Option, Some, None, eqb-true, eq-eqb, inl, inr, IsTrue, get_or, slice_index_or, IsSome, IsFalse}
use Rattle.std.proofs.lemmas.Bool.{false≢true, or_cases, and_parts}
use Rattle.k_types.specs.declared.names.Name.{Name}
use Rattle.k_types.specs.declared.op.Op.{Op}
use Rattle.k_types.specs.declared.op.Op.TheVariants.{New, KNew, SNew, Store, Load, Move, Clear, Put, Get, Attach}
use Rattle.k_types.specs.declared.event.Fault.{Fault}
use Rattle.k_types.specs.declared.event.Fault.TheVariants.{WrongKind, Frozen, Segv, NoField}
use Rattle.k_types.specs.declared.event.Reply.TheVariants.{Loaded, Value}
use Rattle.k_types.specs.Names.{heap_eq, among}
use Rattle.k_types.specs.Trace.{Trace}
use Rattle.k_types.specs.State.{State, Holds, register, object_at, fields_of}
use Rattle.k_types.specs.Owners.{owner_of, objects_of, user}
use Rattle.k_types.specs.Replies.{fault_where, first_fault, faults, access_faults, at_base, answer, reply_to, refused_or, field_at, field_count, is_ref, reference_from, reference, passes_barrier, is_frozen_heap, load_faults, store_faults, number_faults, number_from, number_in}
use Rattle.k_types.specs.Cells.{ProcessPart, part}
use Rattle.k_types.specs.Local.{is_local, is_own, is_local_load, is_local_store}
use Rattle.k_laws.specs.Alike.{Alike}
use Rattle.k_types.proofs.NameTests.{heap_eq-same}
use Rattle.k_types.proofs.Objects.{object_at-kept}
use Rattle.k_laws.proofs.OwnerOf.{owner_user}

process_parts : Option ProcessPart → ProcessPart
process_parts None = record { registers = []; done = 0; has_ended = true }
process_parts (Some process) = process

-- where an access or the kind of the field is at fault, the faults after it don't show
pub at_fault : (access : List (Option Fault)) (kind : Option Fault) (r s : List (Option Fault)) → IsSome (first_fault (access ++ kind ∷ [])) → first_fault (access ++ kind ∷ r) ≡ first_fault (access ++ kind ∷ s)
unfolding first_fault
at_fault [] (Some f) r s t = refl
at_fault [] None r s t = absurd (false≢true t)
at_fault (Some f ∷ access) kind r s t = refl
at_fault (None ∷ access) kind r s t = at_fault access kind r s t

-- an access to an own object has no fault but for the field
pub own_faults : (trace : Trace) (st : State) (p : ℕ) (x : Name) (i : ℕ) → owner_of trace st x.seg.0 ≡ user p → IsTrue (nat_le (field_count st x) i || not (is_ref (field_at st x i))) →
    IsSome (first_fault (access_faults trace st p x i ++ fault_where (not (is_ref (field_at st x i))) WrongKind ∷ []))
unfolding access_faults first_fault fault_where
own_faults trace st p x i own fault = rw (own, eq-eqb p p refl) (field_fault (nat_le (field_count st x) i) (not (is_ref (field_at st x i))) fault)
  where
    field_fault : (a b : Bool) → IsTrue (a || b) → IsSome (first_fault (fault_where a NoField ∷ fault_where b WrongKind ∷ []))
    field_fault true b t = refl
    field_fault false true t = refl
    field_fault false false t = absurd (false≢true t)

-- what is alike has ended in both states or in none
pub lives_too : (trace : Trace) (p : ℕ) (st su : State) → Alike trace p st su → IsFalse (among p su.ended)
unfolding part process_parts
lives_too trace p st su alike = sym (ap (λ c. (process_parts c.process).has_ended) alike.same) ∙ alike.lives

module _ (trace : Trace) (p : ℕ) (st su : State) (alike : Alike trace p st su) where
  pub same_row : slice_index_or st.registers p [] ≡ slice_index_or su.registers p []
  unfolding part process_parts
  same_row = ap (λ c. (process_parts c.process).registers) alike.same

  pub same_register : (r : ℕ) → register st.registers p r ≡ register su.registers p r
  same_register r = ap (λ row. get_or row r None) same_row

  pub same_objects : objects_of (owner_of trace st) (user p) st.objects ≡ objects_of (owner_of trace su) (user p) su.objects
  unfolding part
  same_objects = ap (λ c. c.objects) alike.same

  pub own_st : (x : Name) → IsTrue (x.seg.0 == p + 1) → owner_of trace st x.seg.0 ≡ user p
  own_st x e = ap (owner_of trace st) (eqb-true x.seg.0 (p + 1) e) ∙ owner_user trace st p alike.known alike.lives

  pub own_su : (x : Name) → IsTrue (x.seg.0 == p + 1) → owner_of trace su x.seg.0 ≡ user p
  own_su x e = ap (owner_of trace su) (eqb-true x.seg.0 (p + 1) e) ∙ owner_user trace su p alike.known (lives_too trace p st su alike)

  found_in : (s : State) (x : Name) → owner_of trace s x.seg.0 ≡ user p → object_at (objects_of (owner_of trace s) (user p) s.objects) x ≡ object_at s.objects x
  found_in s x own = object_at-kept (λ n. heap_eq (owner_of trace s n.seg.0) (user p)) s.objects x ∙ ap (λ b. cond b (object_at s.objects x) None) (heap_eq-same (owner_of trace s x.seg.0) (user p) own)

  pub same_object : (x : Name) → IsTrue (x.seg.0 == p + 1) → object_at st.objects x ≡ object_at su.objects x
  same_object x e = sym (found_in st x (own_st x e)) ∙ ap (λ objects. object_at objects x) same_objects ∙ found_in su x (own_su x e)

  pub same_field : (x : Name) (i : ℕ) → IsTrue (x.seg.0 == p + 1) → field_at st x i ≡ field_at su x i
  same_field x i e = ap (λ o. get_or (fields_of o) i (Holds 0)) (same_object x e)

  same_access : (x : Name) (i : ℕ) → IsTrue (x.seg.0 == p + 1) → access_faults trace st p x i ≡ access_faults trace su p x i
  unfolding access_faults
  same_access x i e = rw (own_st x e, own_su x e, same_object x e) refl

  owner_same : (x : Name) → IsTrue (x.seg.0 == p + 1) → owner_of trace st x.seg.0 ≡ owner_of trace su x.seg.0
  owner_same x e = own_st x e ∙ sym (own_su x e)

  load_faults_same : (b : Option Name) (i : ℕ) (old : Option Name) → IsTrue (is_local_load st p b i old) →
      at_base b (load_faults trace st p i) ≡ at_base b (load_faults trace su p i)
  load_faults_same None i old l = refl
  load_faults_same (Some x) i old l =
      let own = (and_parts (x.seg.0 == p + 1) _ l).0 in
      ap₂ (λ access content. access ++ fault_where (not (is_ref content)) WrongKind ∷ []) (same_access x i own) (same_field x i own)

  number_faults_same : (b : Option Name) (i : ℕ) → IsTrue (is_own p b) → at_base b (number_faults trace st p i) ≡ at_base b (number_faults trace su p i)
  number_faults_same None i l = refl
  number_faults_same (Some x) i l = ap₂ (λ access content. access ++ fault_where (is_ref content) WrongKind ∷ []) (same_access x i l) (same_field x i l)

  barrier_same : (x : Name) (v : Option Name) → IsTrue (x.seg.0 == p + 1) → IsTrue (is_own p v) → passes_barrier trace st x v ≡ passes_barrier trace su x v
  unfolding passes_barrier
  barrier_same x None own o = refl
  barrier_same x (Some y) own o = rw (own_st x own, own_su x own, own_st y o, own_su y o) refl

  never_frozen : (s : State) (x : Name) → owner_of trace s x.seg.0 ≡ user p → is_frozen_heap s (owner_of trace s x.seg.0) ≡ false
  never_frozen s x own = ap (is_frozen_heap s) own

  store_faults_same : (b : Option Name) (i : ℕ) (v : Option Name) → IsTrue (is_local_store st p b i v) →
      first_fault (at_base b (store_faults trace st p i v)) ≡ first_fault (at_base b (store_faults trace su p i v))
  store_faults_same None i v l = refl
  store_faults_same (Some x) i v l =
      let own = (and_parts (x.seg.0 == p + 1) _ l).0 in
      elim (or_cases (nat_le (field_count st x) i || not (is_ref (field_at st x i))) (is_own p v) (and_parts (x.seg.0 == p + 1) _ l).1) [
        | inl fault ↦
            at_fault (access_faults trace st p x i) (fault_where (not (is_ref (field_at st x i))) WrongKind) _
            (fault_where (is_frozen_heap su (owner_of trace su x.seg.0)) Frozen ∷ fault_where (not (passes_barrier trace su x v)) Segv ∷ []) (own_faults trace st p x i (own_st x own) fault)
            ∙ ap₂ (λ access content. first_fault (access ++ fault_where (not (is_ref content)) WrongKind ∷ fault_where (is_frozen_heap su (owner_of trace su x.seg.0)) Frozen ∷ fault_where (not (passes_barrier trace su x v)) Segv ∷ []))
            (same_access x i own) (same_field x i own)
        | inr value ↦
            ap₂ (λ frozen barrier. first_fault (access_faults trace st p x i ++ fault_where (not (is_ref (field_at st x i))) WrongKind ∷ fault_where frozen Frozen ∷ fault_where (not barrier) Segv ∷ []))
            (never_frozen st x (own_st x own) ∙ sym (never_frozen su x (own_su x own))) (barrier_same x v own value)
            ∙ ap₂ (λ access content. first_fault (access ++ fault_where (not (is_ref content)) WrongKind ∷ fault_where (is_frozen_heap su (owner_of trace su x.seg.0)) Frozen ∷ fault_where (not (passes_barrier trace su x v)) Segv ∷ []))
            (same_access x i own) (same_field x i own)
      ]

  pub faults_same : (op : Op) → IsTrue (is_local st p op) → first_fault (faults trace st p op) ≡ first_fault (faults trace su p op)
  unfolding is_local faults
  faults_same (Load r base i) l = ap first_fault (load_faults_same (register st.registers p base.0) i (register st.registers p r.0) l ∙ ap (λ b. at_base b (load_faults trace su p i)) (same_register base.0))
  faults_same (Store base i value) l =
      store_faults_same (register st.registers p base.0) i (register st.registers p value.0) l
      ∙ ap₂ (λ b v. first_fault (at_base b (store_faults trace su p i v))) (same_register base.0) (same_register value.0)
  faults_same (Put base i n) l = ap first_fault (number_faults_same (register st.registers p base.0) i l ∙ ap (λ b. at_base b (number_faults trace su p i)) (same_register base.0))
  faults_same (Get base i) l = ap first_fault (number_faults_same (register st.registers p base.0) i l ∙ ap (λ b. at_base b (number_faults trace su p i)) (same_register base.0))
  faults_same (Move r from) l = refl
  faults_same (Clear r) l = refl
  faults_same _ l = absurd (false≢true l)

  pub loaded_same : (b : Option Name) (i : ℕ) (old : Option Name) → IsTrue (is_local_load st p b i old) → reference_from st b i ≡ reference_from su b i
  loaded_same None i old l = refl
  loaded_same (Some x) i old l = ap reference (same_field x i (and_parts (x.seg.0 == p + 1) _ l).0)

  number_same : (b : Option Name) (i : ℕ) → IsTrue (is_own p b) → number_from st b i ≡ number_from su b i
  number_same None i l = refl
  number_same (Some x) i l = ap number_in (same_field x i l)

  pub answer_same : (op : Op) → IsTrue (is_local st p op) → answer trace st p op ≡ answer trace su p op
  unfolding is_local answer
  answer_same (Load r base i) l = ap (λ v. Loaded v) (loaded_same (register st.registers p base.0) i (register st.registers p r.0) l ∙ ap (λ b. reference_from su b i) (same_register base.0))
  answer_same (Get base i) l = ap (λ v. Value v) (number_same (register st.registers p base.0) i l ∙ ap (λ b. number_from su b i) (same_register base.0))
  answer_same (New r ty) l = absurd (false≢true l)
  answer_same (KNew r ty) l = absurd (false≢true l)
  answer_same (SNew r s ty) l = absurd (false≢true l)
  answer_same (Attach r s) l = absurd (false≢true l)
  answer_same _ l = refl

  pub reply_same : (op : Op) → IsTrue (is_local st p op) → reply_to trace st p op ≡ reply_to trace su p op
  unfolding reply_to
  reply_same op l = ap₂ refused_or (faults_same op l) (answer_same op l)
