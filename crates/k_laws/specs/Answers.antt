-- What an operation is answered, by the parts of the process's own cell, of the touched cells and of the book.
use Rattle.std.specs.Prelude.{◌≡◌, ℕ, ◌+◌, not, nat_lt, nat_le, Bool, true, false, List, [], ◌∷◌, ◌++◌, length, slice_index_or, Option, Some, None, if◌then◌else◌, ◌&&◌}
use Rattle.k_types.specs.declared.names.Name.{Name}
use Rattle.k_types.specs.declared.names.SharedId.{SharedId}
use Rattle.k_types.specs.declared.names.Heap.{Heap}
use Rattle.k_types.specs.declared.names.Heap.TheVariants.{Kernel, User, Shared}
use Rattle.k_types.specs.declared.op.Op.{Op}
use Rattle.k_types.specs.declared.op.Op.TheVariants.{New, KNew, SNew, Store, Load, Move, Clear, Dir, Put, Get, Collect, KCollect, Share, Freeze, Attach, Exit, Kill, Resize}
use Rattle.k_types.specs.declared.event.Fault.{Fault}
use Rattle.k_types.specs.declared.event.Fault.TheVariants.{Foreign, NotSharer, NoField, WrongKind, Frozen, Segv, NotPopulating, NotFrozen, Taken, KernelFull, ProcNotBelow, LimitNotBelow, InUse}
use Rattle.k_types.specs.declared.event.Event.{Event}
use Rattle.k_types.specs.declared.event.Event.TheVariants.{Done as DoneEvent, Ended, Absorbed, Closing}
use Rattle.k_types.specs.declared.event.Reply.{Reply}
use Rattle.k_types.specs.declared.event.Reply.TheVariants.{Done, Made, Loaded, Value}
use Rattle.k_types.specs.Barrier.{legal_store}
use Rattle.k_types.specs.Names.{heap_eq, kind_of, directory}
use Rattle.k_types.specs.Trace.{Trace, limit_of, size_of_type, segment_of}
use Rattle.k_types.specs.State.{Content, Holds, object_at, fields_of}
use Rattle.k_types.specs.Owners.{user, phase_of}
use Rattle.k_types.specs.Replies.{fault_where, first_fault, at_base, limit_fault, refused_or, is_foreign, is_ref, is_unmade, is_frozen, is_populating, root_of, reference, number_in, may_resize}
use Rattle.k_types.specs.Cells.{Cell, CellPart, BookPart, use_shown}
use Rattle.k_laws.specs.CellChanges.{next_name_in}
use Rattle.k_laws.specs.BookChanges.{owner_in, bytes_in}
use Rattle.k_laws.specs.Told.{full_limit_in, full_for_in}
use Rattle.k_laws.specs.CellAfter.{register_in}
use Rattle.k_types.specs.Limits.{is_above}

-- what the field of the object holds, by the cell that has it
abbrev pub field_in : CellPart → Name → ℕ → Content
field_in c x i = slice_index_or (fields_of (object_at c.objects x)) i (Holds 0)

-- the number of the object's fields, by the cell that has it
abbrev pub field_count_in : CellPart → Name → ℕ
field_count_in c x = length (fields_of (object_at c.objects x))

-- the object is owned by a shared heap that the process doesn't share, by the book
abbrev pub sharer_fault_in : BookPart → Heap → ℕ → Option Fault
sharer_fault_in book Kernel p = None
sharer_fault_in book (User q) p = None
sharer_fault_in book (Shared s) p = fault_where (not (book.shares p s.0)) (NotSharer s)

-- the heap is a frozen shared heap, by the book
abbrev pub is_frozen_in : BookPart → Heap → Bool
is_frozen_in book Kernel = false
is_frozen_in book (User q) = false
is_frozen_in book (Shared s) = is_frozen (phase_of book.phases s.0)

-- so many bytes more don't fit for the process, by the book
unfoldable pub size_fault_in : Trace → BookPart → ℕ → ℕ → Option Fault
size_fault_in trace book p size = limit_fault (full_limit_in trace book (limit_of trace p) size)

-- the barrier lets an object of the one heap refer to the value, by the owners
abbrev pub passes_barrier_in : (ℕ → Heap) → Heap → Option Name → Bool
passes_barrier_in own h None = true
passes_barrier_in own h (Some y) = legal_store (kind_of h) (kind_of (own y.seg.0)) (heap_eq h (own y.seg.0))

-- the faults of an access to a field of an object, by the book and the cell of the object's owner
unfoldable pub access_faults_in : BookPart → Heap → CellPart → ℕ → Name → ℕ → List (Option Fault)
access_faults_in book h c p x i =
    fault_where (is_foreign h p) Foreign
    ∷ sharer_fault_in book h p
    ∷ fault_where (nat_le (field_count_in c x) i) NoField
    ∷ []

-- the faults of a store into a field of the object, of which the owner and its cell are given
abbrev pub store_faults_in : Trace → BookPart → Heap → CellPart → ℕ → ℕ → Option Name → Name → List (Option Fault)
store_faults_in trace book h c p i value x =
    access_faults_in book h c p x i
    ++ fault_where (not (is_ref (field_in c x i))) WrongKind
    ∷ fault_where (is_frozen_in book h) Frozen
    ∷ fault_where (not (passes_barrier_in (owner_in trace book) h value)) Segv
    ∷ []

-- the faults of a load from a field of the object
abbrev pub load_faults_in : BookPart → Heap → CellPart → ℕ → ℕ → Name → List (Option Fault)
load_faults_in book h c p i x = access_faults_in book h c p x i ++ fault_where (not (is_ref (field_in c x i))) WrongKind ∷ []

-- the faults of a put or a get
abbrev pub number_faults_in : BookPart → Heap → CellPart → ℕ → ℕ → Name → List (Option Fault)
number_faults_in book h c p i x = access_faults_in book h c p x i ++ fault_where (is_ref (field_in c x i)) WrongKind ∷ []

-- the faults of a freezing with that root
abbrev pub freeze_faults_in : Trace → BookPart → ℕ → Heap → SharedId → Name → List (Option Fault)
freeze_faults_in trace book p h s x =
    fault_where (not (heap_eq (owner_in trace book x.seg.0) h)) Segv
    ∷ fault_where (not (is_populating (phase_of book.phases s.0) p)) (NotPopulating s)
    ∷ []

-- the faults of an operation, the lowest first
unfoldable pub faults_in : Trace → BookPart → (Cell → CellPart) → ℕ → Op → List (Option Fault)
faults_in trace book parts p (New r ty) = size_fault_in trace book p (size_of_type trace ty) ∷ []
faults_in trace book parts p (KNew r ty) =
    fault_where (nat_lt trace.ceiling (bytes_in (parts Kernel) + size_of_type trace ty)) KernelFull ∷ []
faults_in trace book parts p (SNew r s ty) =
    fault_where (not (is_populating (phase_of book.phases s.0) p)) (NotPopulating s)
    ∷ size_fault_in trace book p (size_of_type trace ty)
    ∷ []
faults_in trace book parts p (Store base i value) = at_base (register_in parts p base.0) (λ x.
    store_faults_in trace book (owner_in trace book x.seg.0) (parts (owner_in trace book x.seg.0)) p i (register_in parts p value.0) x)
faults_in trace book parts p (Load r base i) = at_base (register_in parts p base.0) (λ x.
    load_faults_in book (owner_in trace book x.seg.0) (parts (owner_in trace book x.seg.0)) p i x)
faults_in trace book parts p (Move r from) = []
faults_in trace book parts p (Clear r) = []
faults_in trace book parts p (Dir r) = []
faults_in trace book parts p (Put base i number) = at_base (register_in parts p base.0) (λ x.
    number_faults_in book (owner_in trace book x.seg.0) (parts (owner_in trace book x.seg.0)) p i x)
faults_in trace book parts p (Get base i) = at_base (register_in parts p base.0) (λ x.
    number_faults_in book (owner_in trace book x.seg.0) (parts (owner_in trace book x.seg.0)) p i x)
faults_in trace book parts p Collect = []
faults_in trace book parts p KCollect = []
faults_in trace book parts p (Share s) = fault_where (not (is_unmade (phase_of book.phases s.0))) (Taken s) ∷ []
faults_in trace book parts p (Freeze s root) = at_base (register_in parts p root.0) (freeze_faults_in trace book p (Shared s) s)
faults_in trace book parts p (Attach r s) =
    fault_where (not (is_frozen (phase_of book.phases s.0))) (NotFrozen s)
    ∷ (if book.shares p s.0 then None else size_fault_in trace book p (slice_index_or book.shared_bytes s.0 0))
    ∷ []
faults_in trace book parts p Exit = []
faults_in trace book parts p (Kill q) = fault_where (not (is_above trace p q.0)) (ProcNotBelow q) ∷ []
faults_in trace book parts p (Resize m max) =
    (if may_resize trace p m.0 then limit_fault (full_for_in trace book m.0 max) else None)
    ∷ fault_where (not (may_resize trace p m.0)) (LimitNotBelow m)
    ∷ fault_where (may_resize trace p m.0 && nat_lt max (use_shown trace book m.0)) (InUse m)
    ∷ []

-- the reference in the field of what the register holds
abbrev pub reference_from_in : Trace → BookPart → (Cell → CellPart) → Option Name → ℕ → Option Name
reference_from_in trace book parts None i = None
reference_from_in trace book parts (Some x) i = reference (field_in (parts (owner_in trace book x.seg.0)) x i)

-- the number in the field of what the register holds
abbrev pub number_from_in : Trace → BookPart → (Cell → CellPart) → Option Name → ℕ → ℕ
number_from_in trace book parts None i = 0
number_from_in trace book parts (Some x) i = number_in (field_in (parts (owner_in trace book x.seg.0)) x i)

-- what the operation is answered where it isn't refused
unfoldable pub answer_in : Trace → BookPart → (Cell → CellPart) → ℕ → Op → Reply
answer_in trace book parts p (New r ty) = Made (next_name_in (segment_of trace (user p)) (parts (user p)))
answer_in trace book parts p (KNew r ty) = Made (next_name_in (segment_of trace Kernel) (parts Kernel))
answer_in trace book parts p (SNew r s ty) = Made (next_name_in (segment_of trace (Shared s)) (parts (Shared s)))
answer_in trace book parts p (Store base i value) = Done
answer_in trace book parts p (Load r base i) = Loaded (reference_from_in trace book parts (register_in parts p base.0) i)
answer_in trace book parts p (Move r from) = Done
answer_in trace book parts p (Clear r) = Done
answer_in trace book parts p (Dir r) = Loaded (Some directory)
answer_in trace book parts p (Put base i number) = Done
answer_in trace book parts p (Get base i) = Value (number_from_in trace book parts (register_in parts p base.0) i)
answer_in trace book parts p Collect = Done
answer_in trace book parts p KCollect = Done
answer_in trace book parts p (Share s) = Done
answer_in trace book parts p (Freeze s root) = Done
answer_in trace book parts p (Attach r s) = Loaded (root_of (phase_of book.phases s.0))
answer_in trace book parts p Exit = Done
answer_in trace book parts p (Kill q) = Done
answer_in trace book parts p (Resize m max) = Done

-- the reply to an operation of the process: the lowest fault that applies, or else its answer
unfoldable pub reply_in : Trace → BookPart → (Cell → CellPart) → ℕ → Op → Reply
reply_in trace book parts p op = refused_or (first_fault (faults_in trace book parts p op)) (answer_in trace book parts p op)

-- the event is no operation, or one that is answered what the parts give
abbrev pub IsAnswered : Trace → BookPart → (Cell → CellPart) → Event → Type 0
IsAnswered trace book parts (DoneEvent pid op said) = said ≡ reply_in trace book parts pid.0 op
IsAnswered trace book parts (Ended h objects bytes exits shares) = Unit {0}
IsAnswered trace book parts (Absorbed s) = Unit {0}
IsAnswered trace book parts Closing = Unit {0}
