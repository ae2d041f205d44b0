-- The faults of an access to an object of another heap whose cell it touches.
use Rattle.std.proofs.Common.{◌≡◌, ℕ, Bool, true, false, cond, not, refl, ap, ap₂, sym, ◌∙◌, nat_le, [], ◌∷◌, ◌++◌, List, Option, Some, None, IsTrue, IsFalse}
use Rattle.k_types.specs.declared.event.Fault.{Fault}
use Rattle.k_types.specs.declared.event.Fault.TheVariants.{Frozen, NoField, NotSharer, Segv, WrongKind}
use Rattle.k_types.specs.declared.names.Heap.TheVariants.{Kernel, Shared, User}
use Rattle.k_types.specs.declared.names.Name.{Name}
use Rattle.k_types.specs.declared.names.SharedId.{SharedId}
use Rattle.k_types.specs.Cells.{BookPart, Cell, CellPart}
use Rattle.k_types.specs.Replies.{fault_where, first_fault, is_ref}
use Rattle.k_types.specs.State.{Content}
use Rattle.k_types.specs.Trace.{Trace}
use Rattle.k_laws.specs.BookChanges.{owner_in}
use Rattle.k_laws.specs.Answers.{access_faults_in, field_count_in, field_in, is_frozen_in, load_faults_in, number_faults_in, passes_barrier_in, store_faults_in}
use Rattle.k_laws.specs.Touches.{base_cell_in}
use Rattle.k_pair.specs.Faults.{field_faults, store_faults}

-- the first fault of the one list, or else of the other
fault_then : (first rest : List (Option Fault)) (fault : Fault) → first_fault first ≡ Some fault → first_fault (first ++ rest) ≡ Some fault
unfolding first_fault
fault_then [] rest fault is = absurd (cc is)
fault_then (Some f ∷ more) rest fault is = is
fault_then (None ∷ more) rest fault is = fault_then more rest fault is

none_then : (first rest : List (Option Fault)) → first_fault first ≡ None → first_fault (first ++ rest) ≡ first_fault rest
unfolding first_fault
none_then [] rest is = refl
none_then (Some f ∷ more) rest is = absurd (cc is)
none_then (None ∷ more) rest is = none_then more rest is

-- the first fault of a store: that of the field, or else that the heap is frozen, or else that of the barrier
module _ (count field : ℕ) (other : Bool) (frozen barred : Bool) where
  pub field_first : (fault : Fault) → first_fault (field_faults count field other) ≡ Some fault → first_fault (store_faults count field other frozen barred) ≡ Some fault
  field_first fault is = fault_then (field_faults count field other) (fault_where frozen Frozen ∷ fault_where barred Segv ∷ []) fault is

  module _ (fine : first_fault (field_faults count field other) ≡ None) where
    then_rest : first_fault (store_faults count field other frozen barred) ≡ first_fault (fault_where frozen Frozen ∷ fault_where barred Segv ∷ [])
    then_rest = none_then (field_faults count field other) (fault_where frozen Frozen ∷ fault_where barred Segv ∷ []) fine

    pub frozen_next : IsTrue frozen → first_fault (store_faults count field other frozen barred) ≡ Some Frozen
    unfolding first_fault fault_where
    frozen_next is = then_rest ∙ ap (λ t. first_fault (fault_where t Frozen ∷ fault_where barred Segv ∷ [])) is

    pub barred_last : IsFalse frozen → IsTrue barred → first_fault (store_faults count field other frozen barred) ≡ Some Segv
    unfolding first_fault fault_where
    barred_last not_frozen is = then_rest ∙ ap₂ (λ (t u : Bool). first_fault (fault_where t Frozen ∷ fault_where u Segv ∷ [])) not_frozen is

    pub none_at_all : IsFalse frozen → IsFalse barred → first_fault (store_faults count field other frozen barred) ≡ None
    unfolding first_fault fault_where
    none_at_all not_frozen is = then_rest ∙ ap₂ (λ (t u : Bool). first_fault (fault_where t Frozen ∷ fault_where u Segv ∷ [])) not_frozen is

-- a cell that stands beside the process's own where its heap is accessed
module _ (b : BookPart) (u : CellPart) (p i : ℕ) (x : Name) where
  shares_heap : (id : SharedId) (t : Bool) → cond t (Shared id ∷ []) [] ≡ Shared id ∷ [] → t ≡ true
  shares_heap id true e = refl
  shares_heap id false e = absurd (cc e)

  -- no fault comes before those of the field
  accessed : (cell : Cell) → base_cell_in b p cell ≡ cell ∷ [] → (rest : List (Option Fault)) →
      first_fault (access_faults_in b cell u p x i ++ rest) ≡ first_fault (fault_where (nat_le (field_count_in u x) i) NoField ∷ rest)
  unfolding first_fault access_faults_in fault_where
  accessed Kernel e rest = refl
  accessed (User q) e rest = absurd (cc e)
  accessed (Shared id) e rest =
      ap (λ t. first_fault (None ∷ fault_where (not t) (NotSharer id) ∷ fault_where (nat_le (field_count_in u x) i) NoField ∷ rest)) (shares_heap id (b.shares p id.0) e)

  module _ (cell : Cell) (beside : base_cell_in b p cell ≡ cell ∷ []) where
    pub load_faulted : first_fault (load_faults_in b cell u p i x) ≡ first_fault (field_faults (field_count_in u x) i (not (is_ref (field_in u x i))))
    load_faulted = accessed cell beside (fault_where (not (is_ref (field_in u x i))) WrongKind ∷ [])

    pub number_faulted : first_fault (number_faults_in b cell u p i x) ≡ first_fault (field_faults (field_count_in u x) i (is_ref (field_in u x i)))
    number_faulted = accessed cell beside (fault_where (is_ref (field_in u x i)) WrongKind ∷ [])

    pub store_faulted : (trace : Trace) (value : Option Name) →
        first_fault (store_faults_in trace b cell u p i value x)
        ≡ first_fault (store_faults (field_count_in u x) i (not (is_ref (field_in u x i))) (is_frozen_in b cell) (not (passes_barrier_in (owner_in trace b) cell value)))
    store_faulted trace value =
        accessed cell beside
        (fault_where (not (is_ref (field_in u x i))) WrongKind ∷ fault_where (is_frozen_in b cell) Frozen ∷ fault_where (not (passes_barrier_in (owner_in trace b) cell value)) Segv ∷ [])

-- the faults of a field by equal numbers of fields and equal contents
pub told_by : (count fields : ℕ) (stored content : Content) (i : ℕ) (is_other_kind : Content → Bool) (said : Option Fault) → count ≡ fields → stored ≡ content →
    first_fault (field_faults count i (is_other_kind stored)) ≡ said → first_fault (field_faults fields i (is_other_kind content)) ≡ said
told_by count fields stored content i is_other_kind said same_count same_content is =
    ap₂ (λ (n : ℕ) (t : Content). first_fault (field_faults n i (is_other_kind t))) (sym same_count) (sym same_content) ∙ is
