-- What a keeper keeps of its host: room in the journal for the ends of all processes, and no collection open.
use Rattle.std.specs.Prelude.{◌≡◌, ℕ, ◌+◌, ◌-◌, ◌*◌, ◌<◌, ◌≤◌, ◌^◌, Result, Ok, Err, IsFalse, List, Some, if◌then◌else◌, length, slice_get}
use Rattle.k_types.specs.declared.names.CellPhase.TheVariants.{Idle}
use Rattle.k_types.specs.declared.event.Event.{Event}
use Rattle.k_types.specs.declared.names.Name.{Name}
use Rattle.k_types.specs.Totals.{total}
use Rattle.k_types.specs.Trace.{segment_count}
use Rattle.k_spell.specs.Spelled.{AreSpelled}
use Rattle.k_host.specs.k_guests.Enough.{lesser}
use Rattle.k_host.specs.k_guests.Objects.{gone_by, made_by, objects_after}
use Rattle.k_host.specs.k_guests.declared.guest.Guest.{Guest}
use Rattle.k_host.specs.k_guests.Serving.{Basis}
use Rattle.k_host.specs.k_trace.Rules.{IsTrace}
use Rattle.k_host.specs.HostError.{HostError}
use Rattle.k_host.specs.Asked.{has_ended_of}
use Rattle.k_host.specs.Hosts.{HostServes, HostValue, next_from}

-- how many events the journal will have of the process when it ends now: what it has not published, and its end
abbrev pub owed_by : Guest → ℕ
owed_by g = length g.cell.value.tail + (if has_ended_of g then 0 else 1)

-- the events of the journal, and those that the ends of all processes will add
abbrev pub spent : HostValue → ℕ
spent h = length h.book.journal.list + total owed_by h.guests

-- no collection of the heap of a process that lives is open
abbrev pub IsIdle : Guest → Type 0
IsIdle g = IsFalse (has_ended_of g) → g.cell.value.collection ≡ Idle

abbrev pub AreIdle : HostValue → Type 0
AreIdle h = (k : ℕ) (g : Guest) → slice_get h.guests k ≡ Some g → IsIdle g

-- what is declared is a trace of the second version, with its names
pub record IsFit (basis : Basis) : Type 0 where
  pub is_trace : IsTrace (record { names = basis.names; trace = basis.trace })
  pub second : basis.trace.version ≡ 2

-- a line of a trace can have each operation that the process has not published
abbrev pub IsSpelledBy : Guest → Type 0
IsSpelledBy g = AreSpelled g.cell.value.tail

-- a line of a trace can have each operation that was done
pub record AllSpelled (h : HostValue) : Type 0 where
  pub journal : AreSpelled h.book.journal.list
  pub tails : (k : ℕ) (g : Guest) → slice_get h.guests k ≡ Some g → IsSpelledBy g

-- the host serves, what it declares has names, a line of a trace can have all that was done, no collection is open, and beside what the ends
-- of its processes need the journal has room for so many events
pub record IsKept (h : HostValue) (left : ℕ) : Type 0 where
  pub serves : HostServes h
  pub fit : IsFit h.basis
  pub spelled : AllSpelled h
  pub idle : AreIdle h
  pub kernel_idle : h.kernel.value.collection ≡ Idle
  pub room : spent h + left ≤ h.basis.rooms.events

-- how many objects the machine has after the journal
abbrev pub objects_in : HostValue → ℕ
objects_in h = objects_after h.basis.trace h.book.journal.list

-- how many objects a host can have at once, where it has room for so many in each segment, as far as they can be counted
abbrev pub most_with : HostValue → ℕ → ℕ
most_with h objects = lesser (segment_count h.basis.trace * objects) (2 ^ 32 - 1)

abbrev pub most_objects : HostValue → ℕ
most_objects h = most_with h h.basis.rooms.objects

-- a keeper: its host, how many events are left beside those that are kept for the ends of processes, the names of the objects that the
-- last collection freed, how many objects there are, and how many of the first events were taken out or passed over
pub record KeeperValue : Type 0 where
  pub host : HostValue
  pub left : ℕ
  pub freed : List Name
  pub objects : ℕ
  pub taken : ℕ

-- the number of the first event that was neither taken out nor passed over, and is still among those that are kept
abbrev pub next_event : KeeperValue → ℕ
next_event k = next_from k.host.book k.host.basis.rooms.kept k.taken

-- how many events a collection of the kernel's heap asks for: its beginning and end, and an absorption of each shared heap
abbrev pub needed_by_the_kernel : HostValue → ℕ
needed_by_the_kernel h = length h.shared + 2

-- how many a collection of a process's heap asks for: its two, and those of one collection of the kernel's heap
abbrev pub needed_to_collect : HostValue → ℕ
needed_to_collect h = needed_by_the_kernel h + 2

-- how many an operation asks for: its own, those of a collection of each process's heap, and of one of the kernel's
abbrev pub needed_to_operate : HostValue → ℕ
needed_to_operate h = needed_by_the_kernel h + 2 * length h.guests + 1

-- how many an absorption asks for: its own, and those of one collection of the kernel's heap
abbrev pub needed_to_absorb : HostValue → ℕ
needed_to_absorb h = needed_by_the_kernel h + 1

-- how many objects there are once a call has answered
abbrev pub objects_then : ℕ → Result Event HostError → ℕ
objects_then objects (Ok event) = (objects - gone_by event) + made_by event
objects_then objects (Err why) = objects

-- there are objects for those that go, and those that come can be counted
abbrev pub CanCount : ℕ → Result Event HostError → Type 0
CanCount objects (Ok event) = (gone_by event ≤ objects) × (objects + made_by event < 2 ^ 32)
CanCount objects (Err why) = Unit {0}

-- how many events are left by a call that takes so many where it is done
abbrev pub left_after : ℕ → ℕ → Result Event HostError → ℕ
left_after left cost (Ok event) = left - cost
left_after left cost (Err why) = left
