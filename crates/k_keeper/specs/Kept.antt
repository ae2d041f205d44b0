-- What the calls on a keeper leave, and when they are refused.
use Rattle.std.specs.Prelude.{◌≡◌, ◌⊎◌, ℕ, ◌+◌, ◌<◌, ◌≤◌, ◌++◌, IsFalse, IsTrue, List, None, Some, length, map, slice_get}
use Rattle.k_types.specs.declared.event.Event.{Event}
use Rattle.k_types.specs.declared.event.Event.TheVariants.{Absorbed}
use Rattle.k_types.specs.declared.names.Pid.{Pid}
use Rattle.k_types.specs.declared.names.SharedId.{SharedId}
use Rattle.k_types.specs.declared.names.TypeId.{TypeId}
use Rattle.k_types.specs.declared.op.Op.{Op}
use Rattle.k_types.specs.TraceRules.{is_spelled}
use Rattle.k_shares.specs.Sharers.{lowest_orphan}
use Rattle.k_words.specs.Words.{Text}
use Rattle.k_laws.specs.Counts.{is_allocation}
use Rattle.k_host.specs.k_guests.declared.guest.Guest.{Guest}
use Rattle.k_host.specs.k_guests.declared.rooms.Rooms.{Rooms}
use Rattle.k_host.specs.HostError.{HostError}
use Rattle.k_host.specs.HostError.TheVariants.{Ended, Objects, Reserved, Unknown}
use Rattle.k_host.specs.CallsRefusals.{Lacks}
use Rattle.k_host.specs.declared.errors.OpenError.{OpenError}
use Rattle.k_host.specs.declared.errors.OpenError.TheVariants.{Terms}
use Rattle.k_host.specs.Asked.{has_ended_of}
use Rattle.k_host.specs.Calls.{HasCollectedKernelIn}
use Rattle.k_host.specs.Growing.{HasGrown}
use Rattle.k_host.specs.Hosts.{HostValue}
use Rattle.k_host.specs.Opening.{HasRead, IsNotRead}
use Rattle.k_host.specs.Refusals.{CanNotOperateIn, MayRefuse, MayRefuseAbsorption}
use Rattle.k_keeper.specs.Keeping.{KeeperValue, most_objects, needed_by_the_kernel, needed_to_absorb, needed_to_collect, needed_to_operate, next_event}

-- the process of that number is one of the host's, and lives
pub record IsAlive (h : HostValue) (pid : Pid) : Type 0 where
  pub guest : Guest
  pub there : slice_get h.guests pid.0 ≡ Some guest
  pub lives : IsFalse (has_ended_of guest)

-- a call is refused since there is no such process, or it has ended; and for no other reason
abbrev pub IsGone : HostValue → Pid → HostError → Type 0
IsGone h pid why = MayRefuse h pid (λ g. Lacks Ended (IsFalse (has_ended_of g))) why

-- a call is refused since no more is left than so many events
abbrev pub IsReserved : KeeperValue → ℕ → HostError → Type 0
IsReserved k needed why = Lacks Reserved (needed ≤ k.left) why

-- there can be one object more, where the operation makes one
abbrev pub HasObjectLeft : KeeperValue → Op → Type 0
HasObjectLeft k op = IsTrue (is_allocation op) → k.objects < most_objects k.host

-- an operation is refused: for the host's reasons, since no more is left than the reserve, since the host can have no object more, or since
-- no line of a trace can have the operation
abbrev pub MayRefuseOperation : KeeperValue → Pid → Op → HostError → Type 0
MayRefuseOperation k pid op why =
    MayRefuse k.host pid (CanNotOperateIn k.host op) why
    ⊎ IsReserved k (needed_to_operate k.host) why
    ⊎ Lacks Objects (HasObjectLeft k op) why
    ⊎ Lacks Unknown (IsTrue (is_spelled op)) why

-- a collection of a process's heap is refused
abbrev pub MayRefuseCollection : KeeperValue → Pid → HostError → Type 0
MayRefuseCollection k pid why = IsGone k.host pid why ⊎ IsReserved k (needed_to_collect k.host) why

-- a collection of the kernel's heap is refused
abbrev pub MayRefuseKernel : KeeperValue → Pid → HostError → Type 0
MayRefuseKernel k pid why = IsGone k.host pid why ⊎ IsReserved k (needed_by_the_kernel k.host) why

-- an absorption is refused
abbrev pub MayRefuseToAbsorb : KeeperValue → SharedId → HostError → Type 0
MayRefuseToAbsorb k id why = MayRefuseAbsorption k.host id why ⊎ IsReserved k (needed_to_absorb k.host) why

-- these shared heaps were absorbed, each by an event that was taken of what is left, and no process has changed
pub record HaveAbsorbed (old new : HostValue) (left rest : ℕ) : Type 0 where
  pub ids : List SharedId
  pub journal : new.book.journal.list ≡ old.book.journal.list ++ map Absorbed ids
  pub guests : new.guests ≡ old.guests
  pub basis : new.basis ≡ old.basis
  pub heaps : length new.shared ≡ length old.shared
  pub spends : left ≡ rest + length ids

-- no shared heap is an orphan
abbrev pub HasNoOrphan : HostValue → Type 0
HasNoOrphan h = lowest_orphan h.book.value.phases h.book.value.shares ≡ None

-- all orphans were absorbed, and then the kernel's heap was collected as the process, which takes two events more
pub record HasCollectedAll (old new : KeeperValue) (pid : Pid) (event : Event) : Type 0 where
  pub between : KeeperValue
  pub absorbed : HaveAbsorbed old.host between.host old.left between.left
  pub none_left : HasNoOrphan between.host
  pub collected : HasCollectedKernelIn between.host new.host pid event
  pub spends : between.left ≡ new.left + 2

-- a host of what the bytes declare, in which nothing has happened; what is left is all but one event for each process
pub record HasOpened (bytes : Text) (ty : TypeId) (bodies : ℕ) (rooms : Rooms) (k : KeeperValue) : Type 0 where
  pub read : HasRead bytes ty bodies rooms k.host
  pub all : k.left + length k.host.guests ≡ rooms.events
  pub enough : needed_to_operate k.host ≤ k.left
  pub untaken : k.taken ≡ 0

-- a host of what the bytes declare would have no room for one operation beside the reserve
pub record HasFewEvents (bytes : Text) (ty : TypeId) (bodies : ℕ) (rooms : Rooms) (why : OpenError) : Type 0 where
  pub error_is : why ≡ Terms
  pub host : HostValue
  pub read : HasRead bytes ty bodies rooms host
  pub few : ¬ (needed_to_operate host + length host.guests ≤ rooms.events)

-- no keeper is opened
abbrev pub IsNotOpened : Text → TypeId → ℕ → Rooms → OpenError → Type 0
IsNotOpened bytes ty bodies rooms why = IsNotRead bytes ty rooms why ⊎ HasFewEvents bytes ty bodies rooms why

-- the host has these rooms, which are larger ones, so many of the last events can be read, as many more are left as there is room for, and
-- nothing else has changed
pub record HasGrownIn (old new : KeeperValue) (rooms : Rooms) (kept : ℕ) : Type 0 where
  pub host : HasGrown old.host new.host rooms kept
  pub left : new.left + old.host.basis.rooms.events ≡ old.left + rooms.events
  pub rest : new ≡ record old { host = new.host; left = new.left }

-- the next event is taken out, which is still among those that are kept, and nothing else has changed
pub record HasTaken (old new : KeeperValue) (number : ℕ) (event : Event) : Type 0 where
  pub there : slice_get old.host.book.journal.list number ≡ Some event
  pub next : number ≡ next_event old
  pub rest : new ≡ record old { taken = number + 1 }

-- no event is there to be taken out, and nothing has changed
pub record HasTakenNone (old new : KeeperValue) : Type 0 where
  pub none : length old.host.book.journal.list ≤ next_event old
  pub same : new ≡ old
