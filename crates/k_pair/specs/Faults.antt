-- The faults of an access to a field of an object that the process may reach.
use Rattle.std.specs.Prelude.{◌≡◌, ◌<◌, ℕ, nat_le, not, length, Bool, List, [], ◌∷◌, ◌++◌, Option}
use Rattle.k_types.specs.declared.event.Fault.{Fault}
use Rattle.k_types.specs.declared.event.Fault.TheVariants.{Frozen, NoField, Segv, WrongKind}
use Rattle.k_types.specs.declared.names.Heap.{Heap}
use Rattle.k_types.specs.declared.names.Heap.TheVariants.{Shared}
use Rattle.k_types.specs.declared.names.Name.{Name}
use Rattle.k_types.specs.declared.names.SharedId.{SharedId}
use Rattle.k_types.specs.Agree.{book_shown_by}
use Rattle.k_types.specs.Replies.{fault_where, is_ref}
use Rattle.k_commit.specs.k_book.Books.{BookRecord}
use Rattle.k_commit.specs.k_cell.Looks.{field_among, field_count_among}
use Rattle.k_laws.specs.Answers.{is_frozen_in, passes_barrier_in}
use Rattle.k_commit.specs.Others.{OtherValue}
use Rattle.k_pair.specs.Remembered.{TellsOwner}

-- the faults of the field of that number, of so many: it is not there, or it is of the other kind
abbrev pub field_faults : ℕ → ℕ → Bool → List (Option Fault)
field_faults count field is_other_kind = fault_where (nat_le count field) NoField ∷ fault_where is_other_kind WrongKind ∷ []

-- these, and then that the heap is frozen, and that the barrier does not let the reference pass
abbrev pub store_faults : ℕ → ℕ → Bool → Bool → Bool → List (Option Fault)
store_faults count field is_other_kind is_frozen is_barred = field_faults count field is_other_kind ++ fault_where is_frozen Frozen ∷ fault_where is_barred Segv ∷ []

-- the faults of the store of that into the field of the object, by the cell, the phases on the book and the owners
abbrev pub store_faults_of : (ℕ → Heap) → OtherValue → BookRecord → Name → ℕ → Option Name → List (Option Fault)
store_faults_of own other book x i value =
    store_faults (field_count_among other.held.value.objects x) i (not (is_ref (field_among other.held.value.objects x i)))
    (is_frozen_in (book_shown_by book.value) other.cell) (not (passes_barrier_in own other.cell value))

-- the book has the phase of the heap, where it is a shared one
abbrev pub HasPhase : Heap → BookRecord → Type 0
HasPhase heap book = (id : SharedId) → heap ≡ Shared id → id.0 < length book.value.phases

-- the book has the phase of the heap, and tells the owner of what the reference is to
pub record CanJudge (own : ℕ → Heap) (other : OtherValue) (book : BookRecord) (value : Option Name) : Type 0 where
  pub phase : HasPhase other.cell book
  pub told : TellsOwner own book value
