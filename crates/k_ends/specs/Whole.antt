-- What a whole collection of a host asks and leaves, and when it is refused: it begins, marks and ends in one call.
use Rattle.std.specs.Prelude.{◌≡◌, ◌⊎◌, ◌+◌, ◌≤◌, IsFalse, List, None, [], ◌∷◌, ◌++◌, length}
use Rattle.k_types.specs.declared.event.Event.{Event}
use Rattle.k_types.specs.declared.event.Event.TheVariants.{Done}
use Rattle.k_types.specs.declared.event.Reply.TheVariants.{Done as DoneReply}
use Rattle.k_types.specs.declared.names.CellPhase.TheVariants.{Idle}
use Rattle.k_types.specs.declared.names.Heap.TheVariants.{Kernel, User}
use Rattle.k_types.specs.declared.names.Name.{Name}
use Rattle.k_types.specs.declared.op.Op.TheVariants.{Collect, KCollect}
use Rattle.k_types.specs.Steps.{state_after}
use Rattle.k_types.specs.Trace.{Trace}
use Rattle.k_mark.specs.Listening.{times}
use Rattle.k_book.specs.Books.{BookRecord}
use Rattle.k_cell.specs.Holdings.{HoldingsValue}
use Rattle.k_calls.specs.k_collect.Freed.{gone_between}
use Rattle.k_calls.specs.k_collect.Settling.{IsTheEnd}
use Rattle.k_heap.specs.Heaps.{has_ended_in}
use Rattle.k_shares.specs.Sharers.{lowest_orphan}
use Rattle.k_calls.specs.k_guests.declared.guest.Guest.{Guest}
use Rattle.k_calls.specs.k_guests.Serving.{Basis, BookServes, GuestServes, KeepsPair, KernelServes}
use Rattle.k_calls.specs.declared.errors.HostError.{HostError}
use Rattle.k_calls.specs.declared.errors.HostError.TheVariants.{Full, Orphan, Phase}
use Rattle.k_calls.specs.Refusals.{IsNotAwake, Lacks}

-- each object that the machine had before the last of these events, and has no more, stands once among the names, and nothing else does
pub record AreFreedLast (trace : Trace) (history : List Event) (names : List Name) : Type 0 where
  pub before : List Event
  pub last : Event
  pub history_is : history ≡ before ++ last ∷ []
  pub once : (n : Name) → times n names ≡ gone_between (state_after trace before) (state_after trace history) n

-- the journal has room for the unpublished events of the process, and for the two of a collection
abbrev pub HasRoomToCollect : Basis → Guest → BookRecord → Type 0
HasRoomToCollect basis g b = length b.journal.list + length g.cell.value.tail + 2 ≤ basis.rooms.events

-- process and book serve, the process lives, no collection of its heap is open, and the journal has room for one
pub record CanCollect (basis : Basis) (g : Guest) (b : BookRecord) : Type 0 where
  pub guest : GuestServes basis b.journal.table g
  pub book : BookServes basis b
  pub lives : IsFalse (has_ended_in g.cell.value.process)
  pub idle : g.cell.value.collection ≡ Idle
  pub room : HasRoomToCollect basis g b

-- process and book serve still. The journal has what the process had unpublished, the beginning of the collection and its end, and no
-- collection of the process's heap is open
pub record HasCollected (basis : Basis) (old g : Guest) (old_b b : BookRecord) (event : Event) : Type 0 where
  pub keeps : KeepsPair basis old g old_b b
  pub journal : b.journal.list ≡ ((old_b.journal.list ++ old.cell.value.tail) ++ Done old.cell.pid Collect DoneReply ∷ []) ++ event ∷ []
  pub is_end : IsTheEnd (User old.cell.pid) (event ∷ [])
  pub phase : g.cell.value.collection ≡ Idle
  pub settled : g.cell.value.tail ≡ []

-- the kernel serves too and is not collected, and no shared heap is an orphan
pub record CanCollectKernel (basis : Basis) (g : Guest) (k : HoldingsValue) (b : BookRecord) : Type 0 where
  pub own : CanCollect basis g b
  pub kernel : KernelServes basis b.journal.table k
  pub idle : k.value.collection ≡ Idle
  pub orphans : lowest_orphan b.value.phases b.value.shares ≡ None

-- the same of the kernel's heap, whose collection is an operation of the process
pub record HasCollectedKernel (basis : Basis) (old g : Guest) (k : HoldingsValue) (old_b b : BookRecord) (event : Event) : Type 0 where
  pub keeps : KeepsPair basis old g old_b b
  pub kernel : KernelServes basis b.journal.table k
  pub journal : b.journal.list ≡ ((old_b.journal.list ++ old.cell.value.tail) ++ Done old.cell.pid KCollect DoneReply ∷ []) ++ event ∷ []
  pub is_end : IsTheEnd Kernel (event ∷ [])
  pub phase : k.value.collection ≡ Idle
  pub idle : g.cell.value.collection ≡ Idle
  pub settled : g.cell.value.tail ≡ []

-- the process's heap can't be collected: the process is not awake, or the journal is full
abbrev pub CanNotCollect : Basis → BookRecord → Guest → HostError → Type 0
CanNotCollect basis b g why = IsNotAwake g why ⊎ Lacks Full (HasRoomToCollect basis g b) why

-- the kernel's heap can't be collected: the process is not awake, a collection of the heap is open, a shared heap is an orphan, or the
-- journal is full
abbrev pub CanNotCollectKernel : Basis → HoldingsValue → BookRecord → Guest → HostError → Type 0
CanNotCollectKernel basis k b g why =
    IsNotAwake g why
    ⊎ Lacks Phase (k.value.collection ≡ Idle) why
    ⊎ Lacks Orphan (lowest_orphan b.value.phases b.value.shares ≡ None) why
    ⊎ Lacks Full (HasRoomToCollect basis g b) why
