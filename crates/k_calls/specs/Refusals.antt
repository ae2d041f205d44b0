-- When a call is refused, and with which error: a refused call changes nothing, and its error names what is lacking.
use Rattle.std.specs.Prelude.{◌≡◌, ◌⊎◌, ◌||◌, ◌+◌, ◌<◌, Bool, not, IsFalse, IsTrue, List, Some, [], ◌∷◌, length, slice_get}
use Rattle.k_types.specs.declared.names.CellPhase.TheVariants.{Idle}
use Rattle.k_types.specs.declared.names.Heap.TheVariants.{Kernel, Shared, User}
use Rattle.k_types.specs.declared.names.Pid.{Pid}
use Rattle.k_types.specs.declared.names.SharedId.{SharedId}
use Rattle.k_types.specs.declared.op.Op.{Op}
use Rattle.k_types.specs.Steps.{in_range}
use Rattle.k_book.specs.Books.{BookRecord}
use Rattle.k_cell.specs.Holdings.{HoldingsValue}
use Rattle.k_heap.specs.Heaps.{has_ended_in}
use Rattle.k_operate.specs.Own.{is_collect}
use Rattle.k_operate.specs.Operating.{collects_or_exits}
use Rattle.k_shared.specs.SharedHeaps.{SharedRecord}
use Rattle.k_guests.specs.declared.guest.Guest.{Guest}
use Rattle.k_guests.specs.Serving.{Basis}
use Rattle.k_calls.specs.declared.errors.HostError.{HostError}
use Rattle.k_calls.specs.declared.errors.HostError.TheVariants.{Unknown, OwnCall, Ended, Phase, Full, NoMemory}
use Rattle.k_calls.specs.Adding.{HasKernelRoom, HasOwnRoom, HasSharedRoom, lacking}
use Rattle.k_calls.specs.Doing.{HasCountRoom, HasEventsLeft, HasItsBody, HasRoomToPublish, touched_by}

-- the error that a call answers is this one, since what it asks for does not hold
pub record Lacks (error : HostError) (asked : Type 0) (why : HostError) : Type 0 where
  pub error_is : why ≡ error
  pub fails : ¬ asked

-- a process is not awake: it has ended, or a collection of its heap is open
abbrev pub IsNotAwake : Guest → HostError → Type 0
IsNotAwake g why = Lacks Ended (IsFalse (has_ended_in g.cell.value.process)) why ⊎ Lacks Phase (g.cell.value.collection ≡ Idle) why

-- the operation has no call of its own: it begins no collection and ends no process
abbrev pub is_plain : Op → Bool
is_plain op = not (is_collect op || collects_or_exits op)

-- an operation is not ready: it names what the setup does not declare or has a call of its own, its process is not awake or has done as
-- many operations as can be counted, or the supply has no body for its object and memory is wanting
abbrev pub IsNotReady : Basis → Guest → Op → HostError → Type 0
IsNotReady basis g op why =
    Lacks Unknown (IsTrue (in_range basis.trace op)) why
    ⊎ Lacks OwnCall (IsTrue (is_plain op)) why
    ⊎ IsNotAwake g why
    ⊎ Lacks Full (HasCountRoom g) why
    ⊎ Lacks NoMemory (HasItsBody basis g.bodies op) why

-- a heap has no room for what the operation adds to it: an object, or an exit item with its entry item
abbrev pub LacksRoom : Op → Type 0 → HostError → Type 0
LacksRoom op asked why = Lacks (lacking op) asked why

-- the operation touches the process's own cell alone, whose heap has no room for what it adds
pub record IsOwnBarred (basis : Basis) (g : Guest) (b : BookRecord) (op : Op) (why : HostError) : Type 0 where
  pub touches : touched_by basis g b op ≡ []
  pub barred : LacksRoom op (HasOwnRoom basis g b op) why

-- the kernel's heap is not ready: a collection of it is open, or it has no room for what the operation adds
abbrev pub IsKernelNotReady : Basis → HoldingsValue → BookRecord → Op → HostError → Type 0
IsKernelNotReady basis k b op why = Lacks Phase (k.value.collection ≡ Idle) why ⊎ LacksRoom op (HasKernelRoom basis k b op) why

-- the operation touches the kernel's heap, which is not ready
pub record IsKernelBarred (basis : Basis) (g : Guest) (k : HoldingsValue) (b : BookRecord) (op : Op) (why : HostError) : Type 0 where
  pub touches : touched_by basis g b op ≡ Kernel ∷ []
  pub barred : IsKernelNotReady basis k b op why

-- the operation touches a shared heap, which has no room for what it adds
pub record IsSharedBarred (basis : Basis) (g : Guest) (shared : List SharedRecord) (b : BookRecord) (op : Op) (why : HostError) : Type 0 where
  pub id : SharedId
  pub heap : SharedRecord
  pub there : slice_get shared id.0 ≡ Some heap
  pub touches : touched_by basis g b op ≡ Shared id ∷ []
  pub barred : LacksRoom op (HasSharedRoom basis heap b op) why

-- the process can't do the operation: it is not ready, the journal is full, or the heap to which it adds bars it
abbrev pub CanNotOperate : Basis → HoldingsValue → List SharedRecord → BookRecord → Op → Guest → HostError → Type 0
CanNotOperate basis k shared b op g why =
    IsNotReady basis g op why
    ⊎ Lacks Full (HasEventsLeft basis g b) why
    ⊎ IsOwnBarred basis g b op why
    ⊎ IsKernelBarred basis g k b op why
    ⊎ IsSharedBarred basis g shared b op why

-- the operation ends another process: it has a call of its own, which is lent that process too
pub record EndsAnother (basis : Basis) (g : Guest) (b : BookRecord) (op : Op) (why : HostError) : Type 0 where
  pub target : Pid
  pub in_range : IsTrue (in_range basis.trace op)
  pub touches : touched_by basis g b op ≡ User target ∷ Kernel ∷ []
  pub error_is : why ≡ OwnCall

-- the process can't do the operation where no other process is lent
abbrev pub CanNotOperateAlone : Basis → HoldingsValue → List SharedRecord → BookRecord → Op → Guest → HostError → Type 0
CanNotOperateAlone basis k shared b op g why = CanNotOperate basis k shared b op g why ⊎ EndsAnother basis g b op why

-- the process can't try the operation inside its heap: it names what the setup does not declare, or the process is not awake, or
-- after the operation no more of them can be counted or no more events can be unpublished
abbrev pub CanNotDoInside : Basis → Op → Guest → HostError → Type 0
CanNotDoInside basis op g why =
    Lacks Unknown (IsTrue (in_range basis.trace op)) why
    ⊎ IsNotAwake g why
    ⊎ Lacks Full (HasCountRoom g × (length g.cell.value.tail + 1 < basis.rooms.tail)) why

-- the journal has no room for what the process has unpublished
abbrev pub CanNotPublish : Basis → BookRecord → Guest → HostError → Type 0
CanNotPublish basis b g why = Lacks Full (HasRoomToPublish basis g b) why
