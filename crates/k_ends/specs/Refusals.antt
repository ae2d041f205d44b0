-- When a call on collections, absorptions or the end of a process is refused, and with which error.
use Rattle.std.specs.Prelude.{◌≡◌, ◌⊎◌, ◌<◌, IsFalse, Some, None, length}
use Rattle.k_types.specs.declared.names.CellPhase.TheVariants.{Begun, Idle, Marked}
use Rattle.k_types.specs.declared.names.SharedId.{SharedId}
use Rattle.k_book.specs.Books.{BookRecord}
use Rattle.k_cell.specs.Holdings.{HoldingsValue}
use Rattle.k_heap.specs.Heaps.{has_ended_in}
use Rattle.k_shares.specs.Sharers.{lowest_orphan}
use Rattle.k_calls.specs.k_guests.declared.guest.Guest.{Guest}
use Rattle.k_calls.specs.k_guests.Serving.{Basis}
use Rattle.k_calls.specs.declared.errors.HostError.{HostError}
use Rattle.k_calls.specs.declared.errors.HostError.TheVariants.{Ended, Phase, Full, Orphan}
use Rattle.k_calls.specs.Doing.{HasEventsLeft}
use Rattle.k_calls.specs.Refusals.{IsNotAwake, Lacks}

-- no collection of the process's heap can begin: the process is not awake, or the journal is full
abbrev pub CanNotBegin : Basis → BookRecord → Guest → HostError → Type 0
CanNotBegin basis b g why = IsNotAwake g why ⊎ Lacks Full (HasEventsLeft basis g b) why

-- no collection of the process's heap has begun that is not marked
abbrev pub CanNotMark : Guest → HostError → Type 0
CanNotMark g why = Lacks Phase (g.cell.value.collection ≡ Begun) why

-- no collection of the process's heap can end: the process has ended, its heap is not marked, or the journal is full
abbrev pub CanNotEnd : Basis → BookRecord → Guest → HostError → Type 0
CanNotEnd basis b g why =
    Lacks Ended (IsFalse (has_ended_in g.cell.value.process)) why
    ⊎ Lacks Phase (g.cell.value.collection ≡ Marked) why
    ⊎ Lacks Full (HasEventsLeft basis g b) why

-- the process's heap can't be settled: the process has ended, or the journal is full
abbrev pub CanNotSettle : Basis → BookRecord → Guest → HostError → Type 0
CanNotSettle basis b g why = Lacks Ended (IsFalse (has_ended_in g.cell.value.process)) why ⊎ Lacks Full (HasEventsLeft basis g b) why

-- no collection of the kernel's heap can begin: the process is not awake, one is open, a shared heap is an orphan, or the journal is full
abbrev pub CanNotBeginKernel : Basis → HoldingsValue → BookRecord → Guest → HostError → Type 0
CanNotBeginKernel basis k b g why =
    IsNotAwake g why
    ⊎ Lacks Phase (k.value.collection ≡ Idle) why
    ⊎ Lacks Orphan (lowest_orphan b.value.phases b.value.shares ≡ None) why
    ⊎ Lacks Full (HasEventsLeft basis g b) why

-- the process can't end: it is not awake, a collection of the kernel's heap is open, or the journal is full
abbrev pub CanNotExit : Basis → HoldingsValue → BookRecord → Guest → HostError → Type 0
CanNotExit basis k b g why =
    IsNotAwake g why
    ⊎ Lacks Phase (k.value.collection ≡ Idle) why
    ⊎ Lacks Full (HasEventsLeft basis g b) why

-- no collection of the kernel's heap has begun that is not marked
abbrev pub CanNotMarkKernel : HoldingsValue → HostError → Type 0
CanNotMarkKernel k why = Lacks Phase (k.value.collection ≡ Begun) why

-- no collection of the kernel's heap can end: it is not marked, or the journal is full
abbrev pub CanNotEndKernel : Basis → HoldingsValue → BookRecord → HostError → Type 0
CanNotEndKernel basis k b why = Lacks Phase (k.value.collection ≡ Marked) why ⊎ Lacks Full (length b.journal.list < basis.rooms.events) why

-- the kernel's heap can't be settled: the journal is full
abbrev pub CanNotSettleKernel : Basis → BookRecord → HostError → Type 0
CanNotSettleKernel basis b why = Lacks Full (length b.journal.list < basis.rooms.events) why

-- the shared heap of that number can't be absorbed: it is not the first orphan, a collection of the kernel's heap is open, or the
-- journal is full
abbrev pub CanNotAbsorb : Basis → HoldingsValue → BookRecord → SharedId → HostError → Type 0
CanNotAbsorb basis k b id why =
    Lacks Orphan (lowest_orphan b.value.phases b.value.shares ≡ Some id.0) why
    ⊎ Lacks Phase (k.value.collection ≡ Idle) why
    ⊎ Lacks Full (length b.journal.list < basis.rooms.events) why
