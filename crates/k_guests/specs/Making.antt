-- What the making of a host asks and leaves.
use Rattle.std.specs.Prelude.{◌≡◌, ℕ, ◌+◌, ◌*◌, ◌<◌, ◌≤◌, ◌^◌, List, [], map, length, Some, slice_get}
use Rattle.atomic_table.specs.Seated.{TableId}
use Rattle.k_types.specs.declared.names.CellPhase.TheVariants.{Idle}
use Rattle.k_types.specs.declared.names.Heap.TheVariants.{Shared}
use Rattle.k_types.specs.declared.names.Pid.{Pid}
use Rattle.k_types.specs.declared.names.SharedId.{SharedId}
use Rattle.k_types.specs.declared.names.TypeId.{TypeId}
use Rattle.k_types.specs.declared.setup.Setup.{Setup}
use Rattle.k_types.specs.Numbers.{numbers_from}
use Rattle.k_types.specs.Trace.{segment_of}
use Rattle.k_types.specs.TraceRules.{KeepsRules}
use Rattle.k_book.specs.Books.{BookRecord}
use Rattle.k_heap.specs.Heaps.{own_segment}
use Rattle.k_shared.specs.SharedHeaps.{SharedRecord}
use Rattle.k_tie.specs.Values.{JournalValue, NoteValue, blank_note}
use Rattle.k_guests.specs.declared.guest.Guest.{Guest}
use Rattle.k_guests.specs.declared.making.Parts.{Parts}
use Rattle.k_guests.specs.declared.rooms.Rooms.{Rooms}
use Rattle.k_guests.specs.declared.terms.Terms.{Terms}
use Rattle.k_guests.specs.Serving.{BookServes, GuestServes, GuestsServe, RestServes, SharedServes, basis_of, open_trace}

-- there are fewer than 2^55 events, and each of the other rooms is below 2^30
pub record AreFew (rooms : Rooms) : Type 0 where
  pub events : rooms.events < 2 ^ 55
  pub kept : rooms.kept < 2 ^ 30
  pub tail : rooms.tail < 2 ^ 30
  pub objects : rooms.objects < 2 ^ 30
  pub exits : rooms.exits < 2 ^ 30
  pub kernel_exits : rooms.kernel_exits < 2 ^ 30
  pub entries : rooms.entries < 2 ^ 30

-- no more events are kept than there can be, there is room for an unpublished event and for the directory, and the kernel's heap has
-- room for the exit items of all so many processes
pub record AreEnough (procs : ℕ) (rooms : Rooms) : Type 0 where
  pub kept : rooms.kept ≤ rooms.events
  pub tail : 1 ≤ rooms.tail
  pub objects : 1 ≤ rooms.objects
  pub reserve : rooms.exits * procs ≤ rooms.kernel_exits

-- the type is one of the setup's, and the rooms are few and enough
pub record AreFit (setup : Setup) (ty : TypeId) (rooms : Rooms) : Type 0 where
  pub known : ty.0 < length setup.types
  pub few : AreFew rooms
  pub enough : AreEnough (length setup.procs.items) rooms

-- the setup keeps the rules, and the rest is fit
pub record CanMake (terms : Terms) : Type 0 where
  pub rules : KeepsRules (open_trace terms.setup)
  pub fit : AreFit terms.setup terms.ty terms.rooms

-- the notes are the blank ones of so many cells, from that number on
abbrev pub AreNotes : TableId → ℕ → ℕ → List NoteValue → Type 0
AreNotes tie first left notes = notes ≡ map (blank_note tie) (numbers_from first left)

-- the process is one of the setup's, and the note is its cell's
pub record CanMakeGuest (terms : Terms) (pid : Pid) (note : NoteValue) : Type 0 where
  pub can : CanMake terms
  pub known : pid.0 < length terms.setup.procs.items
  pub blank : note ≡ blank_note note.table (own_segment pid)

-- the shared heap is one of the setup's, and the note is its cell's
pub record CanMakeShared (terms : Terms) (id : SharedId) (note : NoteValue) : Type 0 where
  pub can : CanMake terms
  pub known : id.0 < terms.setup.shared
  pub blank : note ≡ blank_note note.table (segment_of (open_trace terms.setup) (Shared id))

-- the book serves with the seat's journal, and counts the processes and the shared heaps of the setup
pub record HasMadeBook (terms : Terms) (seat : JournalValue) (b : BookRecord) : Type 0 where
  pub can : CanMake terms
  pub serves : BookServes (basis_of terms) b
  pub journal : b.journal ≡ seat
  pub procs : length b.procs ≡ length terms.setup.procs.items
  pub heaps : length b.value.phases ≡ terms.setup.shared

-- the book counts the processes of the setup, and the notes of all cells but the kernel's are left
pub record CanMakeGuests (terms : Terms) (b : BookRecord) (notes : List NoteValue) : Type 0 where
  pub can : CanMake terms
  pub procs : length b.procs ≡ length terms.setup.procs.items
  pub notes_left : AreNotes b.journal.table 1 (length terms.setup.procs.items + terms.setup.shared) notes

-- the book counts the shared heaps of the setup, and the notes of their cells are left
pub record CanMakeHeaps (terms : Terms) (b : BookRecord) (notes : List NoteValue) : Type 0 where
  pub can : CanMake terms
  pub heaps : length b.value.phases ≡ terms.setup.shared
  pub notes_left : AreNotes b.journal.table (length terms.setup.procs.items + 1) terms.setup.shared notes

-- nothing has happened to the process yet: it has as many bodies as were made, nothing unpublished, and no collection is open
pub record IsFirstGuest (bodies : ℕ) (g : Guest) : Type 0 where
  pub all_left : g.bodies ≡ bodies
  pub settled : g.cell.value.tail ≡ []
  pub idle : g.cell.value.collection ≡ Idle

-- so many processes are made, in the places of their numbers, nothing has happened to them, and so many notes are left
pub record AreGuestsSoFar (terms : Terms) (tie : TableId) (made : ℕ) (guests : List Guest) (notes : List NoteValue) : Type 0 where
  pub left : ℕ
  pub all : made + left ≡ length terms.setup.procs.items + terms.setup.shared
  pub notes_left : AreNotes tie (made + 1) left notes
  pub count : length guests ≡ made
  pub each : (k : ℕ) (g : Guest) → slice_get guests k ≡ Some g → GuestServes (basis_of terms) tie g × (g.cell.pid.0 ≡ k) × IsFirstGuest terms.bodies g

-- all processes are made, nothing has happened to them, and the notes of the shared heaps are left
pub record HaveMadeGuests (terms : Terms) (tie : TableId) (guests : List Guest) (notes : List NoteValue) : Type 0 where
  pub serve : GuestsServe (basis_of terms) tie guests
  pub first : (k : ℕ) (g : Guest) → slice_get guests k ≡ Some g → IsFirstGuest terms.bodies g
  pub notes_left : AreNotes tie (length terms.setup.procs.items + 1) terms.setup.shared notes

-- so many cells of shared heaps are made, in the places of their numbers, and so many notes are left
pub record AreHeapsSoFar (terms : Terms) (tie : TableId) (made : ℕ) (shared : List SharedRecord) (notes : List NoteValue) : Type 0 where
  pub left : ℕ
  pub all : made + left ≡ terms.setup.shared
  pub notes_left : AreNotes tie (1 + length terms.setup.procs.items + made) left notes
  pub count : length shared ≡ made
  pub each : (k : ℕ) (s : SharedRecord) → slice_get shared k ≡ Some s → SharedServes (basis_of terms) tie s × (s.id.0 ≡ k)

-- all parts serve by the terms, and nothing has happened yet: the journal is empty, and no collection is open
pub record AreFirstParts (terms : Terms) (parts : Parts) : Type 0 where
  pub guests : GuestsServe (basis_of terms) parts.book.journal.table parts.guests.items
  pub rest : RestServes (basis_of terms) parts.kernel parts.shared.items parts.book
  pub first : (k : ℕ) (g : Guest) → slice_get parts.guests.items k ≡ Some g → IsFirstGuest terms.bodies g
  pub idle : parts.kernel.value.collection ≡ Idle
  pub empty : parts.book.journal.list ≡ []
