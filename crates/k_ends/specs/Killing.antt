-- What an operation that may end another process asks and leaves, and when it is refused.
use Rattle.std.specs.Prelude.{◌≡◌, ◌⊎◌, ◌+◌, ◌<◌, IsTrue, [], ◌∷◌, ◌++◌, length}
use Rattle.k_types.specs.declared.event.Event.{Event}
use Rattle.k_types.specs.declared.names.CellPhase.TheVariants.{Idle}
use Rattle.k_types.specs.declared.names.Heap.TheVariants.{Kernel, User}
use Rattle.k_types.specs.declared.op.Op.{Op}
use Rattle.k_types.specs.declared.op.Op.TheVariants.{Kill}
use Rattle.k_types.specs.Steps.{IsPossible, state_after}
use Rattle.k_book.specs.Books.{BookRecord}
use Rattle.k_cell.specs.Holdings.{HoldingsValue}
use Rattle.k_calls.specs.DepartKilling.{kill_of}
use Rattle.k_heap.specs.Heaps.{has_ended_in}
use Rattle.k_calls.specs.k_guests.declared.guest.Guest.{Guest}
use Rattle.k_calls.specs.k_guests.Serving.{Basis, BookServes, GuestServes, KeepsPair, KernelServes}
use Rattle.k_calls.specs.declared.errors.HostError.{HostError}
use Rattle.k_calls.specs.declared.errors.HostError.TheVariants.{Full, Phase}
use Rattle.k_calls.specs.Doing.{HasDoneAlone, HasEventsLeft, IsReady, touched_by}
use Rattle.k_calls.specs.Refusals.{IsNotReady, Lacks}

-- the journal has room for the unpublished events of both processes, and for one more
abbrev pub HasRoomToKill : Basis → Guest → Guest → BookRecord → Type 0
HasRoomToKill basis g t b = length b.journal.list + length g.cell.value.tail + length t.cell.value.tail < basis.rooms.events

-- neither the target's heap nor the kernel's is collected, and the journal has room
pub record IsReadyToEnd (basis : Basis) (g t : Guest) (k : HoldingsValue) (b : BookRecord) : Type 0 where
  pub idle : t.cell.value.collection ≡ Idle
  pub kernel_idle : k.value.collection ≡ Idle
  pub room : HasRoomToKill basis g t b

-- the operation touches the cells of the end of the other process
abbrev pub EndsThis : Basis → Guest → Guest → BookRecord → Op → Type 0
EndsThis basis g t b op = touched_by basis g b op ≡ User t.cell.pid ∷ Kernel ∷ []

-- all that the end of the target touches serves, and the process is ready for the operation, which ends it
pub record CanKillNow (basis : Basis) (g t : Guest) (k : HoldingsValue) (b : BookRecord) (op : Op) : Type 0 where
  pub guest : GuestServes basis b.journal.table g
  pub target : GuestServes basis b.journal.table t
  pub kernel : KernelServes basis b.journal.table k
  pub book : BookServes basis b
  pub ready : IsReady basis g op
  pub asks : op ≡ Kill t.cell.pid
  pub touches : EndsThis basis g t b op
  pub can : IsReadyToEnd basis g t k b

-- the target has ended, by the operation of the process: the journal has what the process had unpublished, then what the target had, and
-- then the event of the kill, which is possible there. All serves still, nothing of either is unpublished, and neither the process's heap
-- nor the kernel's is collected
pub record HasKilledNow (basis : Basis) (op : Op) (old g old_t t : Guest) (k : HoldingsValue) (old_b b : BookRecord) (event : Event) : Type 0 where
  pub touches : EndsThis basis old old_t old_b op
  pub keeps : KeepsPair basis old g old_b b
  pub target : KeepsPair basis old_t t old_b b
  pub kernel : KernelServes basis b.journal.table k
  pub event_is : event ≡ kill_of old.cell.pid old_t.cell.pid
  pub journal : b.journal.list ≡ ((old_b.journal.list ++ old.cell.value.tail) ++ old_t.cell.value.tail) ++ event ∷ []
  pub possible : IsPossible basis.trace (state_after basis.trace ((old_b.journal.list ++ old.cell.value.tail) ++ old_t.cell.value.tail)) event
  pub settled : g.cell.value.tail ≡ []
  pub target_settled : t.cell.value.tail ≡ []
  pub idle : g.cell.value.collection ≡ Idle
  pub kernel_idle : k.value.collection ≡ Idle
  pub ended : IsTrue (has_ended_in t.cell.value.process)

-- the operation ends nobody: it was done in the process's own cell, and neither the other process nor the kernel has changed
pub record HasEndedNobody (basis : Basis) (op : Op) (old g old_t t : Guest) (old_k k : HoldingsValue) (old_b b : BookRecord) (event : Event) : Type 0 where
  pub touches : touched_by basis old old_b op ≡ []
  pub alone : HasDoneAlone basis op old g old_b b event
  pub target_is : t ≡ old_t
  pub kernel_is : k ≡ old_k

-- the kill was done: it ended nobody, or its target
abbrev pub HasTriedToKill : Basis → Op → Guest → Guest → Guest → Guest → HoldingsValue → HoldingsValue → BookRecord → BookRecord → Event → Type 0
HasTriedToKill basis op old g old_t t old_k k old_b b event =
    HasEndedNobody basis op old g old_t t old_k k old_b b event ⊎ HasKilledNow basis op old g old_t t k old_b b event

-- the target can't end now: a collection of its heap or of the kernel's is open, or the journal is full
abbrev pub IsNotReadyToEnd : Basis → HoldingsValue → BookRecord → Guest → Guest → HostError → Type 0
IsNotReadyToEnd basis k b g t why =
    Lacks Phase (t.cell.value.collection ≡ Idle) why
    ⊎ Lacks Phase (k.value.collection ≡ Idle) why
    ⊎ Lacks Full (HasRoomToKill basis g t b) why

-- the operation would end the target, which can't end now
pub record IsEndBarred (basis : Basis) (k : HoldingsValue) (b : BookRecord) (op : Op) (t g : Guest) (why : HostError) : Type 0 where
  pub touches : EndsThis basis g t b op
  pub barred : IsNotReadyToEnd basis k b g t why

-- the process can't do the kill: it is not ready, the journal is full, or the target can't end now
abbrev pub CanNotKill : Basis → HoldingsValue → BookRecord → Op → Guest → Guest → HostError → Type 0
CanNotKill basis k b op t g why = IsNotReady basis g op why ⊎ Lacks Full (HasEventsLeft basis g b) why ⊎ IsEndBarred basis k b op t g why
