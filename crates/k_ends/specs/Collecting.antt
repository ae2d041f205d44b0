-- What the collections of a host, its absorptions and the ends of its processes ask and leave.
use Rattle.std.specs.Prelude.{◌≡◌, ◌<◌, IsFalse, IsTrue, List, None, [], ◌∷◌, ◌++◌, length}
use Rattle.k_types.specs.declared.event.Event.{Event}
use Rattle.k_types.specs.declared.event.Event.TheVariants.{Absorbed, Done}
use Rattle.k_types.specs.declared.event.Reply.TheVariants.{Done as DoneReply}
use Rattle.k_types.specs.declared.names.CellPhase.{CellPhase}
use Rattle.k_types.specs.declared.names.CellPhase.TheVariants.{Begun, Idle, Marked}
use Rattle.k_types.specs.declared.names.Heap.TheVariants.{Kernel, User}
use Rattle.k_types.specs.declared.op.Op.TheVariants.{Collect, Exit, KCollect}
use Rattle.k_types.specs.Steps.{IsPossible, state_after}
use Rattle.k_book.specs.Books.{BookRecord}
use Rattle.k_cell.specs.Holdings.{HoldingsValue}
use Rattle.k_calls.specs.k_collect.Settling.{AreEnds, IsTheEnd}
use Rattle.k_heap.specs.Heaps.{has_ended_in}
use Rattle.k_shared.specs.SharedHeaps.{SharedRecord}
use Rattle.k_shares.specs.Sharers.{is_orphan_by, lowest_orphan}
use Rattle.k_calls.specs.k_guests.declared.guest.Guest.{Guest}
use Rattle.k_calls.specs.Doing.{HasEventsLeft, IsAppended}
use Rattle.k_calls.specs.k_guests.Serving.{Basis, BookServes, GuestServes, KeepsPair, KernelServes, SharedServes}

-- process and book serve, the process lives, and the journal has room
pub record CanGoOn (basis : Basis) (g : Guest) (b : BookRecord) : Type 0 where
  pub guest : GuestServes basis b.journal.table g
  pub book : BookServes basis b
  pub lives : IsFalse (has_ended_in g.cell.value.process)
  pub room : HasEventsLeft basis g b

-- process and book serve still, the event is appended, and the process has nothing unpublished
pub record HasGoneOn (basis : Basis) (old g : Guest) (old_b b : BookRecord) (event : Event) : Type 0 where
  pub keeps : KeepsPair basis old g old_b b
  pub appended : IsAppended basis old old_b b event
  pub settled : g.cell.value.tail ≡ []

-- no collection of the process's heap is open
pub record CanBegin (basis : Basis) (g : Guest) (b : BookRecord) : Type 0 where
  pub can : CanGoOn basis g b
  pub idle : g.cell.value.collection ≡ Idle

-- the collection of the process's heap has begun
pub record HasBegun (basis : Basis) (old g : Guest) (old_b b : BookRecord) (event : Event) : Type 0 where
  pub goes_on : HasGoneOn basis old g old_b b event
  pub event_is : event ≡ Done old.cell.pid Collect DoneReply
  pub phase : g.cell.value.collection ≡ Begun

-- the process serves and its collection has begun
pub record CanMarkGuest (basis : Basis) (g : Guest) : Type 0 where
  pub serves : GuestServes basis g.cell.note.table g
  pub begun : g.cell.value.collection ≡ Begun

-- the heap is marked, and nothing else has changed
pub record HasMarkedGuest (basis : Basis) (old g : Guest) : Type 0 where
  pub serves : GuestServes basis old.cell.note.table g
  pub guest_is : g ≡ record old { cell = record old.cell { value = g.cell.value } }
  pub tail : g.cell.value.tail ≡ old.cell.value.tail
  pub phase : g.cell.value.collection ≡ Marked

-- the heap of the process is marked
pub record CanEnd (basis : Basis) (g : Guest) (b : BookRecord) : Type 0 where
  pub can : CanGoOn basis g b
  pub marked : g.cell.value.collection ≡ Marked

-- the collection of the process's heap has ended
pub record HasEnded (basis : Basis) (old g : Guest) (old_b b : BookRecord) (event : Event) : Type 0 where
  pub goes_on : HasGoneOn basis old g old_b b event
  pub is_end : IsTheEnd (User old.cell.pid) (event ∷ [])
  pub phase : g.cell.value.collection ≡ Idle

-- what the process had unpublished is in the journal, and then the end of its open collection; no collection of its heap is open, and
-- it has nothing unpublished
pub record HasSettled (basis : Basis) (old g : Guest) (old_b b : BookRecord) : Type 0 where
  pub keeps : KeepsPair basis old g old_b b
  pub phase : g.cell.value.collection ≡ Idle
  pub settled : g.cell.value.tail ≡ []
  pub last : List Event
  pub ends : AreEnds (User old.cell.pid) old.cell.value.collection last
  pub journal : b.journal.list ≡ (old_b.journal.list ++ old.cell.value.tail) ++ last

-- the kernel serves too, and neither it nor the process is collected; no shared heap is an orphan
pub record CanBeginKernel (basis : Basis) (g : Guest) (k : HoldingsValue) (b : BookRecord) : Type 0 where
  pub own : CanBegin basis g b
  pub kernel : KernelServes basis b.journal.table k
  pub idle : k.value.collection ≡ Idle
  pub orphans : lowest_orphan b.value.phases b.value.shares ≡ None

-- the collection of the kernel's heap has begun, and none of the process's heap is open
pub record HasBegunKernel (basis : Basis) (old g : Guest) (k : HoldingsValue) (old_b b : BookRecord) (event : Event) : Type 0 where
  pub goes_on : HasGoneOn basis old g old_b b event
  pub event_is : event ≡ Done old.cell.pid KCollect DoneReply
  pub kernel : KernelServes basis b.journal.table k
  pub phase : k.value.collection ≡ Begun
  pub idle : g.cell.value.collection ≡ Idle

-- the kernel and the book serve, the collection of its heap has got so far, and the journal has room
pub record KernelCanGoOn (basis : Basis) (k : HoldingsValue) (b : BookRecord) (phase : CellPhase) : Type 0 where
  pub kernel : KernelServes basis b.journal.table k
  pub book : BookServes basis b
  pub in_phase : k.value.collection ≡ phase
  pub room : length b.journal.list < basis.rooms.events

-- the kernel and the book serve still, the event is appended and possible there, and the collection has got so far
pub record KernelHasGoneOn (basis : Basis) (k : HoldingsValue) (old_b b : BookRecord) (event : Event) (phase : CellPhase) : Type 0 where
  pub kernel : KernelServes basis b.journal.table k
  pub book : BookServes basis b
  pub same_table : b.journal.table ≡ old_b.journal.table
  pub in_phase : k.value.collection ≡ phase
  pub journal : b.journal.list ≡ old_b.journal.list ++ event ∷ []
  pub possible : IsPossible basis.trace (state_after basis.trace old_b.journal.list) event

-- the collection of the kernel's heap has ended
pub record KernelHasEnded (basis : Basis) (k : HoldingsValue) (old_b b : BookRecord) (event : Event) : Type 0 where
  pub goes_on : KernelHasGoneOn basis k old_b b event Idle
  pub is_end : IsTheEnd Kernel (event ∷ [])

-- the kernel serves and its collection has begun
pub record CanMarkKernel (basis : Basis) (k : HoldingsValue) : Type 0 where
  pub serves : KernelServes basis k.note.table k
  pub begun : k.value.collection ≡ Begun

-- the kernel's heap is marked, and nothing else has changed
pub record HasMarkedKernel (basis : Basis) (old k : HoldingsValue) : Type 0 where
  pub serves : KernelServes basis old.note.table k
  pub kernel_is : k ≡ record old { value = k.value }
  pub phase : k.value.collection ≡ Marked

-- the end of the kernel's open collection is in the journal, and no collection of it is open
pub record HasSettledKernel (basis : Basis) (old k : HoldingsValue) (old_b b : BookRecord) : Type 0 where
  pub kernel : KernelServes basis b.journal.table k
  pub book : BookServes basis b
  pub same_table : b.journal.table ≡ old_b.journal.table
  pub phase : k.value.collection ≡ Idle
  pub last : List Event
  pub ends : AreEnds Kernel old.value.collection last
  pub journal : b.journal.list ≡ old_b.journal.list ++ last

-- the kernel is not collected. It can take the exit items of the process's heap beside its own, since no history has more than events
pub record CanExitNow (basis : Basis) (g : Guest) (k : HoldingsValue) (b : BookRecord) : Type 0 where
  pub own : CanBegin basis g b
  pub kernel : KernelServes basis b.journal.table k
  pub idle : k.value.collection ≡ Idle

-- the process has ended, and no collection of the kernel's heap is open
pub record HasExitedNow (basis : Basis) (old g : Guest) (k : HoldingsValue) (old_b b : BookRecord) (event : Event) : Type 0 where
  pub goes_on : HasGoneOn basis old g old_b b event
  pub event_is : event ≡ Done old.cell.pid Exit DoneReply
  pub kernel : KernelServes basis b.journal.table k
  pub idle : k.value.collection ≡ Idle
  pub ended : IsTrue (has_ended_in g.cell.value.process)

-- the shared heap serves too, and is an orphan
pub record CanAbsorbNow (basis : Basis) (s : SharedRecord) (k : HoldingsValue) (b : BookRecord) : Type 0 where
  pub own : KernelCanGoOn basis k b Idle
  pub shared : SharedServes basis b.journal.table s
  pub orphan : IsTrue (is_orphan_by b.value.phases b.value.shares s.id.0)

-- the shared heap is absorbed
pub record HasAbsorbedNow (basis : Basis) (old_s s : SharedRecord) (k : HoldingsValue) (old_b b : BookRecord) (event : Event) : Type 0 where
  pub own : KernelHasGoneOn basis k old_b b event Idle
  pub shared : SharedServes basis b.journal.table s
  pub same : s.id ≡ old_s.id
  pub event_is : event ≡ Absorbed old_s.id
