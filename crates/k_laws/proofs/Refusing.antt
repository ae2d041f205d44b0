-- By what an operation is refused.
use Rattle.std.proofs.Common.{◌≡◌, ℕ, ◌+◌, ◌<◌, not, nat_lt, Bool, true, false, refl, sym, List, [], ◌∷◌, Option, Some, None, inl, inr, ◌⊎◌, IsTrue, IsFalse, subst, ltb-true}
use Rattle.k_types.specs.declared.names.Name.{Name}
use Rattle.k_types.specs.declared.names.Reg.{Reg}
use Rattle.k_types.specs.declared.names.LimitId.{LimitId}
use Rattle.k_types.specs.declared.names.SharedId.{SharedId}
use Rattle.k_types.specs.declared.names.TypeId.{TypeId}
use Rattle.k_types.specs.declared.names.Heap.{Heap}
use Rattle.k_types.specs.declared.names.Heap.TheVariants.{Kernel, User, Shared}
use Rattle.k_types.specs.declared.op.Op.TheVariants.{New, KNew, SNew, Store}
use Rattle.k_types.specs.declared.event.Fault.{Fault}
use Rattle.k_types.specs.declared.event.Fault.TheVariants.{Foreign, NotSharer, NoField, WrongKind, Frozen, Segv, LimitFull, KernelFull, NotPopulating}
use Rattle.k_types.specs.declared.event.Reply.{Reply}
use Rattle.k_types.specs.declared.event.Reply.TheVariants.{Refused, Done}
use Rattle.k_types.specs.Trace.{Trace, limit_of, size_of_type}
use Rattle.k_types.specs.State.{State, register}
use Rattle.k_types.specs.Owners.{owner_of, bytes_of, phase_of}
use Rattle.k_types.specs.Limits.{full_limit}
use Rattle.k_types.specs.Replies.{reply_to, refused_or, answer, faults, first_fault, fault_where, size_fault, limit_fault, at_base, store_faults, access_faults, sharer_fault, is_populating}
use Rattle.k_laws.specs.Refusals.{is_fault_of_store}

-- a refusal names the first fault, where the answer is no refusal
refused_is : (f : Option Fault) (reply : Reply) (fault : Fault) → (reply ≡ Refused fault → ⊥) → refused_or f reply ≡ Refused fault → f ≡ Some fault
refused_is None reply fault never e = absurd (never e)
refused_is (Some g) reply fault never e = cc e

-- all faults of the list are such
abbrev AreAll : (Fault → Bool) → List (Option Fault) → Type 0
AreAll test [] = Unit {0}
AreAll test (None ∷ rest) = AreAll test rest
AreAll test (Some f ∷ rest) = IsTrue (test f) × AreAll test rest

first_passes : (test : Fault → Bool) (fs : List (Option Fault)) (fault : Fault) → AreAll test fs → first_fault fs ≡ Some fault → IsTrue (test fault)
unfolding first_fault
first_passes test [] fault all e = absurd (cc e)
first_passes test (None ∷ rest) fault all e = first_passes test rest fault all e
first_passes test (Some f ∷ rest) fault all e = let is : f ≡ fault = cc e in subst (λ g. IsTrue (test g)) is all.0

-- a fault that passes, where it applies, before a list that does
guarded : (test : Fault → Bool) (b : Bool) (f : Fault) (rest : List (Option Fault)) → IsTrue (test f) → AreAll test rest → AreAll test (fault_where b f ∷ rest)
unfolding fault_where
guarded test true f rest t all = (t, all)
guarded test false f rest t all = all

sharer_passes : (st : State) (h : Heap) (p : ℕ) (rest : List (Option Fault)) → AreAll is_fault_of_store rest → AreAll is_fault_of_store (sharer_fault st h p ∷ rest)
sharer_passes st Kernel p rest all = all
sharer_passes st (User q) p rest all = all
sharer_passes st (Shared s) p rest all = guarded is_fault_of_store _ (NotSharer s) rest refl all

where_first : (f fault : Fault) (rest : List (Option Fault)) → first_fault (fault_where true f ∷ rest) ≡ Some fault → fault ≡ f
unfolding first_fault fault_where
where_first f fault rest e = cc (sym e)

where_is : (f fault : Fault) → first_fault (fault_where true f ∷ []) ≡ Some fault → fault ≡ f
where_is f fault e = where_first f fault [] e

where_none : (f fault : Fault) → first_fault (fault_where false f ∷ []) ≡ Some fault → ⊥
unfolding first_fault fault_where
where_none f fault e = cc e

where_rest : (f fault : Fault) (rest : List (Option Fault)) → first_fault (fault_where false f ∷ rest) ≡ Some fault → first_fault rest ≡ Some fault
unfolding first_fault fault_where
where_rest f fault rest e = e

module _ (trace : Trace) (st : State) (p : ℕ) where
  store_all : (i : ℕ) (value base : Option Name) → AreAll is_fault_of_store (at_base base (store_faults trace st p i value))
  unfolding access_faults
  store_all i value None = (refl, tt)
  store_all i value (Some x) =
      guarded is_fault_of_store _ Foreign _ refl
      (sharer_passes st (owner_of trace st x.seg.0) p _
      (guarded is_fault_of_store _ NoField _ refl (guarded is_fault_of_store _ WrongKind _ refl (guarded is_fault_of_store _ Frozen _ refl (guarded is_fault_of_store _ Segv [] refl tt)))))

  pub store_refused : (base value : Reg) (i : ℕ) (fault : Fault) → reply_to trace st p (Store base i value) ≡ Refused fault → IsTrue (is_fault_of_store fault)
  unfolding reply_to answer faults
  store_refused base value i fault e =
      first_passes is_fault_of_store (at_base (register st.registers p base.0) (store_faults trace st p i (register st.registers p value.0))) fault
      (store_all i (register st.registers p value.0) (register st.registers p base.0))
      (refused_is _ Done fault (λ d. cc d) e)

  size_is : (size : ℕ) (fault : Fault) → first_fault (size_fault trace st p size ∷ []) ≡ Some fault → (m : LimitId) × (full_limit trace st (limit_of trace p) size ≡ Some m.0) × (fault ≡ LimitFull m)
  unfolding size_fault first_fault
  size_is size fault e = go (full_limit trace st (limit_of trace p) size) refl e
    where
      go : (o : Option ℕ) → full_limit trace st (limit_of trace p) size ≡ o → first_fault (limit_fault o ∷ []) ≡ Some fault → (m : LimitId) × (full_limit trace st (limit_of trace p) size ≡ Some m.0) × (fault ≡ LimitFull m)
      go None is e = absurd (cc e)
      go (Some q) is e = (record { 0 = q }, is, cc (sym e))

  pub new_refused : (r : Reg) (ty : TypeId) (fault : Fault) → reply_to trace st p (New r ty) ≡ Refused fault →
      (m : LimitId) × (full_limit trace st (limit_of trace p) (size_of_type trace ty) ≡ Some m.0) × (fault ≡ LimitFull m)
  unfolding reply_to answer faults
  new_refused r ty fault e = size_is (size_of_type trace ty) fault (refused_is _ _ fault (λ d. cc d) e)

  pub knew_refused : (r : Reg) (ty : TypeId) (fault : Fault) → reply_to trace st p (KNew r ty) ≡ Refused fault →
      (trace.ceiling < bytes_of trace st Kernel + size_of_type trace ty) × (fault ≡ KernelFull)
  unfolding reply_to answer faults
  knew_refused r ty fault e = go (nat_lt trace.ceiling (bytes_of trace st Kernel + size_of_type trace ty)) refl (refused_is _ _ fault (λ d. cc d) e)
    where
      go : (b : Bool) → nat_lt trace.ceiling (bytes_of trace st Kernel + size_of_type trace ty) ≡ b → first_fault (fault_where b KernelFull ∷ []) ≡ Some fault → (trace.ceiling < bytes_of trace st Kernel + size_of_type trace ty) × (fault ≡ KernelFull)
      go true is e = (ltb-true _ _ is, where_is KernelFull fault e)
      go false is e = absurd (where_none KernelFull fault e)

  pub snew_refused : (r : Reg) (s : SharedId) (ty : TypeId) (fault : Fault) → reply_to trace st p (SNew r s ty) ≡ Refused fault →
      (IsFalse (is_populating (phase_of st.phases s.0) p) × (fault ≡ NotPopulating s)) ⊎ ((m : LimitId) × (full_limit trace st (limit_of trace p) (size_of_type trace ty) ≡ Some m.0) × (fault ≡ LimitFull m))
  unfolding reply_to answer faults
  snew_refused r s ty fault e = go (is_populating (phase_of st.phases s.0) p) refl (refused_is _ _ fault (λ d. cc d) e)
    where
      go : (b : Bool) → is_populating (phase_of st.phases s.0) p ≡ b → first_fault (fault_where (not b) (NotPopulating s) ∷ size_fault trace st p (size_of_type trace ty) ∷ []) ≡ Some fault →
          (IsFalse (is_populating (phase_of st.phases s.0) p) × (fault ≡ NotPopulating s)) ⊎ ((m : LimitId) × (full_limit trace st (limit_of trace p) (size_of_type trace ty) ≡ Some m.0) × (fault ≡ LimitFull m))
      go false is e = inl (is, where_first (NotPopulating s) fault _ e)
      go true is e = inr (size_is (size_of_type trace ty) fault (where_rest (NotPopulating s) fault _ e))
