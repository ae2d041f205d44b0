-- What an operation of a host asks and leaves.
use Rattle.std.specs.Prelude.{◌≡◌, ◌⊎◌, ℕ, ◌+◌, ◌-◌, ◌^◌, ◌<◌, ◌≤◌, ◌==◌, Bool, false, IfSome, IsFalse, IsTrue, List, [], ◌∷◌, ◌++◌, length, None, Option, Some, slice_set}
use Rattle.k_types.specs.declared.event.Event.{Event}
use Rattle.k_types.specs.declared.event.Event.TheVariants.{Done}
use Rattle.k_types.specs.declared.event.Reply.{Reply}
use Rattle.k_types.specs.declared.names.CellPhase.TheVariants.{Idle}
use Rattle.k_types.specs.declared.names.Heap.TheVariants.{Kernel, Shared}
use Rattle.k_types.specs.declared.names.Field.{Field}
use Rattle.k_types.specs.declared.names.SharedId.{SharedId}
use Rattle.k_types.specs.declared.names.TypeId.{TypeId}
use Rattle.k_types.specs.declared.op.Op.{Op}
use Rattle.k_types.specs.Agree.{book_shown_by}
use Rattle.k_types.specs.Cells.{Cell}
use Rattle.k_types.specs.Steps.{IsPossible, in_range, state_after}
use Rattle.k_laws.specs.PartUpdates.{done_in}
use Rattle.k_operate.specs.k_process.Bodies.{type_made}
use Rattle.k_laws.specs.Counts.{one_if}
use Rattle.k_laws.specs.Locals.{is_local_in}
use Rattle.k_laws.specs.Touches.{other_cells_in}
use Rattle.k_agree.specs.Shown.{idle_part}
use Rattle.k_book.specs.Books.{BookRecord}
use Rattle.k_cell.specs.Holdings.{HoldingsValue}
use Rattle.k_heap.specs.Heaps.{has_ended_in}
use Rattle.k_operate.specs.k_process.Locals.{after_local}
use Rattle.k_operate.specs.Own.{is_collect}
use Rattle.k_operate.specs.Operating.{collects_or_exits}
use Rattle.k_shared.specs.SharedHeaps.{SharedRecord}
use Rattle.k_space.specs.Objects.{BodyValue, new_body}
use Rattle.k_guests.specs.declared.guest.Guest.{Guest}
use Rattle.k_guests.specs.Serving.{Basis, BookServes, GuestServes, GuestServesWith, HasTailRoom, KeepsPair, KernelServes, RestServes, SharedServes, supply_of}
use Rattle.k_calls.specs.Adding.{HasKernelRoom, HasSharedRoom}

-- an allocation finds a body of its type in the supply
abbrev pub HasItsBody : Basis → ℕ → Op → Type 0
HasItsBody basis bodies op = IfSome (type_made op) (λ ty. (ty.0 ≡ basis.ty.0) × (0 < bodies))

-- the object that is made, if one is, is of the supply's type
abbrev pub is_of : Basis → Option TypeId → Bool
is_of basis (Some ty) = ty.0 == basis.ty.0
is_of basis None = false

-- the operation makes an object of the supply's type
abbrev pub is_supplied : Basis → Op → Bool
is_supplied basis op = is_of basis (type_made op)

-- how many bodies of so many the supply has once the operation has taken its own, if one was there
abbrev pub left_after : Basis → Op → ℕ → ℕ
left_after basis op bodies = bodies - one_if (is_supplied basis op)

-- the body of the object that is made, if one is
abbrev pub body_made : List (List Field) → Option TypeId → List BodyValue
body_made types (Some ty) = new_body types ty ∷ []
body_made types None = []

-- the body of the object that the operation makes comes before those of the supply
abbrev pub bodies_for : Basis → Op → ℕ → List BodyValue
bodies_for basis op bodies = body_made basis.trace.types (type_made op) ++ supply_of basis bodies

-- the process has the body of the object that the operation makes, which is taken from the supply or made, and nothing else has changed
abbrev pub provided_for : Basis → Op → Guest → Guest
provided_for basis op g = record {
  cell = record g.cell { bodies = bodies_for basis op (left_after basis op g.bodies) };
  bodies = left_after basis op g.bodies;
}

-- the process lives, and its heap is not collected
pub record IsAwake (g : Guest) : Type 0 where
  pub lives : IsFalse (has_ended_in g.cell.value.process)
  pub idle : g.cell.value.collection ≡ Idle

-- the process can do one operation more
abbrev pub HasCountRoom : Guest → Type 0
HasCountRoom g = done_in g.cell.value.process < 2 ^ 64 - 1

-- the journal has room for the unpublished events of the process, and for one more
abbrev pub HasEventsLeft : Basis → Guest → BookRecord → Type 0
HasEventsLeft basis g b = length b.journal.list + length g.cell.value.tail < basis.rooms.events

-- the journal has room for the unpublished events of the process
abbrev pub HasRoomToPublish : Basis → Guest → BookRecord → Type 0
HasRoomToPublish basis g b = length b.journal.list + length g.cell.value.tail ≤ basis.rooms.events

-- the process is awake and can do one operation more, and the operation names what the setup declares, begins no collection and ends no process
pub record IsReady (basis : Basis) (g : Guest) (op : Op) : Type 0 where
  pub in_range : IsTrue (in_range basis.trace op)
  pub no_collection : IsFalse (is_collect op)
  pub goes_on : IsFalse (collects_or_exits op)
  pub awake : IsAwake g
  pub room : HasCountRoom g

-- the process serves and is awake, the operation names what the setup declares, and there can be one operation and one unpublished event more
pub record CanDoInside (basis : Basis) (g : Guest) (op : Op) : Type 0 where
  pub serves : GuestServes basis g.cell.note.table g
  pub in_range : IsTrue (in_range basis.trace op)
  pub awake : IsAwake g
  pub room : HasCountRoom g
  pub tail : HasTailRoom basis g

-- the operation was done inside the heap: its event is the newest that the journal lacks, and possible after those before it
pub record HasDoneInside (basis : Basis) (op : Op) (old g : Guest) (said : Reply) : Type 0 where
  pub serves : GuestServes basis old.cell.note.table g
  pub guest_is : g ≡ record old { cell = record old.cell { value = after_local old.cell.pid op said old.cell.value } }
  pub possible : IsPossible basis.trace (state_after basis.trace (old.cell.note.list ++ old.cell.value.tail)) (Done old.cell.pid op said)

-- what the process had unpublished is in the journal, and nothing else has changed
pub record HasPublishedAll (basis : Basis) (old g : Guest) (old_b b : BookRecord) : Type 0 where
  pub keeps : KeepsPair basis old g old_b b
  pub guest_is : g ≡ record old { cell = record old.cell { note = g.cell.note; value = record old.cell.value { tail = [] } } }
  pub book_is : b ≡ record old_b { journal = b.journal }
  pub journal : b.journal.list ≡ old_b.journal.list ++ old.cell.value.tail

-- where no event more can be unpublished, all that were so are published, and else nothing has changed
abbrev pub IsPublishedWhereFull : Basis → Guest → Guest → BookRecord → BookRecord → Type 0
IsPublishedWhereFull basis old g old_b b =
    (HasTailRoom basis old × (g ≡ old) × (b ≡ old_b)) ⊎ ((basis.rooms.tail ≤ length old.cell.value.tail) × HasPublishedAll basis old g old_b b)

-- process and book serve and are ready for the operation, which is not done inside the heap and touches these cells beside the own; the
-- process has these bodies
pub record IsDueBy (basis : Basis) (bodies : List BodyValue) (g : Guest) (b : BookRecord) (op : Op) (cells : List Cell) : Type 0 where
  pub guest : GuestServesWith basis b.journal.table bodies g
  pub book : BookServes basis b
  pub ready : IsReady basis g op
  pub outside : IsFalse (is_local_in (idle_part g.cell.value) g.cell.pid.0 op)
  pub room : HasEventsLeft basis g b
  pub touches : other_cells_in basis.trace (book_shown_by b.value) (idle_part g.cell.value) g.cell.pid.0 op ≡ cells

-- the operation is due, and the process has the bodies of its supply
abbrev pub IsDue : Basis → Guest → BookRecord → Op → List Cell → Type 0
IsDue basis g b op cells = IsDueBy basis (supply_of basis g.bodies) g b op cells

-- the operation is due, and the process has the body of the object that it makes
abbrev pub IsDueWith : Basis → Guest → BookRecord → Op → List Cell → Type 0
IsDueWith basis g b op cells = IsDueBy basis (bodies_for basis op g.bodies) g b op cells

-- behind what the process had unpublished the event is possible, and the newest of the journal
pub record IsAppended (basis : Basis) (old : Guest) (old_b b : BookRecord) (event : Event) : Type 0 where
  pub journal : b.journal.list ≡ (old_b.journal.list ++ old.cell.value.tail) ++ event ∷ []
  pub possible : IsPossible basis.trace (state_after basis.trace (old_b.journal.list ++ old.cell.value.tail)) event

-- process and book serve still, and the event of the operation is appended; the process has nothing unpublished, its heap is not
-- collected, and it has its supply of bodies still
pub record HasDoneAlone (basis : Basis) (op : Op) (old g : Guest) (old_b b : BookRecord) (event : Event) : Type 0 where
  pub guest : GuestServes basis b.journal.table g
  pub book : BookServes basis b
  pub same_table : b.journal.table ≡ old_b.journal.table
  pub pid : g.cell.pid ≡ old.cell.pid
  pub said : Reply
  pub event_is : event ≡ Done old.cell.pid op said
  pub appended : IsAppended basis old old_b b event
  pub settled : g.cell.value.tail ≡ []
  pub idle : g.cell.value.collection ≡ Idle
  pub bodies : g.bodies ≡ old.bodies

-- the kernel's heap is not collected, and has room for what the operation adds to it
pub record IsKernelReady (basis : Basis) (k : HoldingsValue) (b : BookRecord) (op : Op) : Type 0 where
  pub idle : k.value.collection ≡ Idle
  pub room : HasKernelRoom basis k b op

-- the operation touches the kernel's cell too, which serves and is ready
pub record CanDoWithKernel (basis : Basis) (g : Guest) (k : HoldingsValue) (b : BookRecord) (op : Op) : Type 0 where
  pub due : IsDueWith basis g b op (Kernel ∷ [])
  pub kernel : KernelServes basis b.journal.table k
  pub ready : IsKernelReady basis k b op

-- the kernel's cell serves still, too, and its heap is not collected
pub record HasDoneWithKernel (basis : Basis) (op : Op) (old g : Guest) (k : HoldingsValue) (old_b b : BookRecord) (event : Event) : Type 0 where
  pub own : HasDoneAlone basis op old g old_b b event
  pub kernel : KernelServes basis b.journal.table k
  pub idle : k.value.collection ≡ Idle

-- the operation touches the shared heap's cell too, which serves and has room for what the operation adds to it
pub record CanDoWithShared (basis : Basis) (g : Guest) (s : SharedRecord) (b : BookRecord) (op : Op) : Type 0 where
  pub due : IsDueWith basis g b op (Shared s.id ∷ [])
  pub shared : SharedServes basis b.journal.table s
  pub room : HasSharedRoom basis s b op

-- the shared heap's cell serves still, too, and is the same one
pub record HasDoneWithShared (basis : Basis) (op : Op) (old g : Guest) (old_s s : SharedRecord) (old_b b : BookRecord) (event : Event) : Type 0 where
  pub own : HasDoneAlone basis op old g old_b b event
  pub shared : SharedServes basis b.journal.table s
  pub same : s.id ≡ old_s.id

-- all that an operation may touch serves
pub record CanOperate (basis : Basis) (g : Guest) (k : HoldingsValue) (shared : List SharedRecord) (b : BookRecord) : Type 0 where
  pub guest : GuestServes basis b.journal.table g
  pub rest : RestServes basis k shared b

-- the cells beside its process's own that the operation touches, by what that cell and the book show
abbrev pub touched_by : Basis → Guest → BookRecord → Op → List Cell
touched_by basis g b op = other_cells_in basis.trace (book_shown_by b.value) (idle_part g.cell.value) g.cell.pid.0 op

-- no other cell is touched, and all are as they were
pub record LeavesAll (cells : List Cell) (old_k k : HoldingsValue) (old_shared shared : List SharedRecord) : Type 0 where
  pub touches : cells ≡ []
  pub kernel_is : k ≡ old_k
  pub shared_is : shared ≡ old_shared

-- the kernel's cell is touched, whose heap is not collected, and no shared heap has changed
pub record LeavesShared (cells : List Cell) (k : HoldingsValue) (old_shared shared : List SharedRecord) : Type 0 where
  pub touches : cells ≡ Kernel ∷ []
  pub idle : k.value.collection ≡ Idle
  pub shared_is : shared ≡ old_shared

-- the cell of one shared heap is touched, and no other cell has changed
pub record LeavesKernel (cells : List Cell) (old_k k : HoldingsValue) (old_shared shared : List SharedRecord) : Type 0 where
  pub id : SharedId
  pub after : SharedRecord
  pub touches : cells ≡ Shared id ∷ []
  pub kernel_is : k ≡ old_k
  pub shared_is : shared ≡ slice_set old_shared id.0 after

-- the cells that are not touched are as they were
abbrev pub LeavesOthers : List Cell → HoldingsValue → HoldingsValue → List SharedRecord → List SharedRecord → Type 0
LeavesOthers cells old_k k old_shared shared =
    LeavesAll cells old_k k old_shared shared ⊎ LeavesShared cells k old_shared shared ⊎ LeavesKernel cells old_k k old_shared shared

-- the operation needs the process's heap alone and was done inside it, one event more can be unpublished, and nothing else has changed
pub record IsKept (basis : Basis) (op : Op) (old g : Guest) (old_k k : HoldingsValue) (old_shared shared : List SharedRecord) (old_b b : BookRecord) (said : Reply) : Type 0 where
  pub own : IsTrue (is_local_in (idle_part old.cell.value) old.cell.pid.0 op)
  pub inside : HasDoneInside basis op old g said
  pub few : HasTailRoom basis g
  pub kernel_is : k ≡ old_k
  pub shared_is : shared ≡ old_shared
  pub book_is : b ≡ old_b

-- the operation needs the process's heap alone and was done inside it. With it there were as many unpublished events as there can be,
-- which were published, and nothing else has changed
pub record IsKeptAndPublished (basis : Basis) (op : Op) (old g : Guest) (old_k k : HoldingsValue) (old_shared shared : List SharedRecord) (old_b b : BookRecord) (said : Reply) : Type 0 where
  pub own : IsTrue (is_local_in (idle_part old.cell.value) old.cell.pid.0 op)
  pub mid : Guest
  pub inside : HasDoneInside basis op old mid said
  pub full : basis.rooms.tail ≤ length mid.cell.value.tail
  pub published : HasPublishedAll basis mid g old_b b
  pub kernel_is : k ≡ old_k
  pub shared_is : shared ≡ old_shared

-- the operation does not need the process's heap alone. Its event is appended behind what the process had unpublished; the process has
-- nothing unpublished, its heap is not collected, and an allocation has taken a body of its type from the supply if one was there
pub record IsRecorded (basis : Basis) (op : Op) (old g : Guest) (old_k k : HoldingsValue) (old_shared shared : List SharedRecord) (old_b b : BookRecord) (event : Event) : Type 0 where
  pub outside : IsFalse (is_local_in (idle_part old.cell.value) old.cell.pid.0 op)
  pub appended : IsAppended basis old old_b b event
  pub settled : g.cell.value.tail ≡ []
  pub idle : g.cell.value.collection ≡ Idle
  pub bodies : g.bodies ≡ left_after basis op old.bodies
  pub others : LeavesOthers (touched_by basis old old_b op) old_k k old_shared shared

-- all serves still, and the event of the operation is kept by the process, kept and then published, or recorded in the journal
pub record HasOperated (basis : Basis) (op : Op) (old g : Guest) (old_k k : HoldingsValue) (old_shared shared : List SharedRecord) (old_b b : BookRecord) (event : Event) : Type 0 where
  pub can : CanOperate basis g k shared b
  pub same_table : b.journal.table ≡ old_b.journal.table
  pub pid : g.cell.pid ≡ old.cell.pid
  pub said : Reply
  pub event_is : event ≡ Done old.cell.pid op said
  pub done : IsKept basis op old g old_k k old_shared shared old_b b said
      ⊎ IsKeptAndPublished basis op old g old_k k old_shared shared old_b b said
      ⊎ IsRecorded basis op old g old_k k old_shared shared old_b b event
