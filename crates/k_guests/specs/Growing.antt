-- A host whose rooms are made larger while it lives: what may be asked for, and what becomes of its parts.
use Rattle.std.specs.Prelude.{◌≡◌, ℕ, zero, suc, ◌+◌, ◌*◌, ◌<◌, ◌≤◌, ◌^◌, Bool, IsFalse, List, Option, Some, [], ◌∷◌, if◌then◌else◌, length, map, replicate, slice_get, slice_set, vec_capacity}
use Rattle.k_book.specs.Books.{BookRecord}
use Rattle.k_cell.specs.Holdings.{CanGrowTo, CanNarrowTo, HoldingsValue, living_in}
use Rattle.k_heap.specs.Heaps.{has_ended_in, own_segment}
use Rattle.k_shared.specs.SharedHeaps.{SharedRecord}
use Rattle.k_process.specs.Keeping.{is_absorbed_in}
use Rattle.k_guests.specs.declared.growing.GuestRoom.{GuestRoom}
use Rattle.k_guests.specs.declared.growing.Larger.{Larger}
use Rattle.k_guests.specs.declared.guest.Guest.{Guest}
use Rattle.k_guests.specs.declared.rooms.Rooms.{Rooms}
use Rattle.k_guests.specs.declared.terms.Terms.{Terms}
use Rattle.k_guests.specs.Making.{AreEnough, AreFew}
use Rattle.k_guests.specs.Serving.{Basis, GuestsServe, HasSegment, HasTailRoom, RestServes, basis_of}

-- each of the new rooms is no less than the old one
pub record AreNoLess (old new : Rooms) : Type 0 where
  pub events : old.events ≤ new.events
  pub kept : old.kept ≤ new.kept
  pub tail : old.tail ≤ new.tail
  pub objects : old.objects ≤ new.objects
  pub exits : old.exits ≤ new.exits
  pub kernel_exits : old.kernel_exits ≤ new.kernel_exits
  pub entries : old.entries ≤ new.entries

-- the new rooms are few, enough for so many processes and each no less than the old one; of the kernel's exit items there are so many
-- more as all processes together can have more
pub record AreLarger (procs : ℕ) (old new : Rooms) : Type 0 where
  pub few : AreFew new
  pub enough : AreEnough procs new
  pub no_less : AreNoLess old new
  pub reserve : new.exits * procs + old.kernel_exits ≤ new.kernel_exits + old.exits * procs

-- so many objects can live at once in the segment, unless it is gone
abbrev pub with_object_room : Bool → ℕ → ℕ → List (Option ℕ) → List (Option ℕ)
with_object_room gone seg objects rooms = if gone then rooms else slice_set rooms seg (Some objects)

-- so many objects can live at once in the own segment of a process that lives
abbrev pub guest_with_objects : ℕ → Guest → Guest
guest_with_objects objects g =
    record g { cell = record g.cell { serial_rooms = with_object_room (has_ended_in g.cell.value.process) (own_segment g.cell.pid) objects g.cell.serial_rooms } }

-- so many objects can live at once in the kernel's own segment
abbrev pub kernel_with_objects : ℕ → HoldingsValue → HoldingsValue
kernel_with_objects objects k = record k { serial_rooms = slice_set k.serial_rooms 0 (Some objects) }

-- so many objects can live at once in the own segment of a shared heap that is not absorbed
abbrev pub heap_with_objects : ℕ → SharedRecord → SharedRecord
heap_with_objects objects s = record s { serial_rooms = with_object_room (is_absorbed_in s.value.phase) s.seg.0 objects s.serial_rooms }

-- the process can have so many exit items and unpublished events
abbrev pub guest_with_tables : ℕ → ℕ → Guest → Guest
guest_with_tables exits tail g = record g { cell = record g.cell { exit_room = exits; tail_room = tail } }

-- the shared heap can have so many exit items
abbrev pub heap_with_tables : ℕ → SharedRecord → SharedRecord
heap_with_tables exits s = record s { exit_room = exits }

-- the process with these rooms, and nothing else of it changed
abbrev pub guest_with_rooms : Rooms → Guest → Guest
guest_with_rooms rooms g = record g {
  cell = record g.cell {
    serial_rooms = with_object_room (has_ended_in g.cell.value.process) (own_segment g.cell.pid) rooms.objects g.cell.serial_rooms;
    exit_room = rooms.exits;
    tail_room = rooms.tail;
  };
}

-- the kernel's cell with these rooms, and nothing else of it changed
abbrev pub kernel_with_rooms : Rooms → HoldingsValue → HoldingsValue
kernel_with_rooms rooms k = record k { serial_rooms = slice_set k.serial_rooms 0 (Some rooms.objects); exit_room = rooms.kernel_exits }

-- the cell of a shared heap with these rooms, and nothing else of it changed
abbrev pub heap_with_rooms : Rooms → SharedRecord → SharedRecord
heap_with_rooms rooms s = record s {
  serial_rooms = with_object_room (is_absorbed_in s.value.phase) s.seg.0 rooms.objects s.serial_rooms;
  exit_room = rooms.exits;
}

-- the book with these rooms, of whose events so many can be read, and nothing else of it changed
abbrev pub book_with_rooms : Rooms → ℕ → BookRecord → BookRecord
book_with_rooms rooms kept b = record b { entry_room = rooms.entries; event_room = rooms.events; kept = kept }

-- what all parts have in common with these rooms, where so many of the last events can be read
abbrev pub basis_with_rooms : Basis → Rooms → ℕ → Basis
basis_with_rooms basis rooms kept = record basis { rooms = record rooms { kept = kept } }

-- so many of the last events can be read: no fewer than before, no more than were asked for, and exactly these while no event was forgotten
pub record AreKept (events old asked kept : ℕ) : Type 0 where
  pub least : old ≤ kept
  pub most : kept ≤ asked
  pub all : events ≤ old → kept ≡ asked

-- memory for the tables of a process with these rooms
pub record IsGuestRoom (rooms : Rooms) (room : GuestRoom) : Type 0 where
  pub exits : room.exits ≡ rooms.exits
  pub empty : room.tail.items ≡ []
  pub tail : vec_capacity room.tail ≡ rooms.tail

-- memory for the tables of so many processes and so many shared heaps, of the kernel and of the book with these rooms
pub record AreLargerRooms (procs shared_heaps : ℕ) (rooms : Rooms) (larger : Larger) : Type 0 where
  pub guests : length larger.guests.items ≡ procs
  pub each : (k : ℕ) (room : GuestRoom) → slice_get larger.guests.items k ≡ Some room → IsGuestRoom rooms room
  pub kernel : larger.kernel ≡ rooms.kernel_exits
  pub heaps : larger.heaps.items ≡ replicate shared_heaps rooms.exits
  pub entries : larger.entries ≡ rooms.entries

-- the first so many are changed, and the others are as they were
abbrev pub changed_first : {A : Type 0} → (A → A) → ℕ → List A → List A
changed_first f zero xs = xs
changed_first f (suc n) [] = []
changed_first f (suc n) (x ∷ xs) = f x ∷ changed_first f n xs

-- the process lives, by its cell
abbrev pub Lives : Guest → Type 0
Lives g = IsFalse (has_ended_in g.cell.value.process)

-- the shared heap is not absorbed, by its cell
abbrev pub Stands : SharedRecord → Type 0
Stands s = IsFalse (is_absorbed_in s.value.phase)

-- of the process so many objects can live at once in its own segment, where it lives
abbrev pub HasObjects : ℕ → Guest → Type 0
HasObjects objects g = Lives g → HasSegment objects g.cell.serial_rooms (own_segment g.cell.pid)

-- the same of a shared heap that is not absorbed
abbrev pub HeapHasObjects : ℕ → SharedRecord → Type 0
HeapHasObjects objects s = Stands s → HasSegment objects s.serial_rooms s.seg.0

-- no more objects live in the own segment of the process
abbrev pub FitsIn : ℕ → Guest → Type 0
FitsIn objects g = Lives g → living_in (own_segment g.cell.pid) g.cell.value.objects ≤ objects

-- no more objects live in the own segment of the shared heap
abbrev pub HeapFitsIn : ℕ → SharedRecord → Type 0
HeapFitsIn objects s = Stands s → living_in s.seg.0 s.value.objects ≤ objects

-- the own segment of the process can be made larger, to so many objects, where it lives
abbrev pub CanGrowGuest : ℕ → Guest → Type 0
CanGrowGuest objects g = Lives g → CanGrowTo g.cell.serial_rooms (own_segment g.cell.pid) objects

-- the own segment of the process can be made smaller, to so many objects, where it lives
abbrev pub CanNarrowGuest : ℕ → Guest → Type 0
CanNarrowGuest objects g = Lives g → CanNarrowTo g.cell.serial_rooms g.cell.value.objects (own_segment g.cell.pid) objects

-- the own segment of the shared heap can be made larger, to so many objects, where it is not absorbed
abbrev pub CanGrowHeap : ℕ → SharedRecord → Type 0
CanGrowHeap objects s = Stands s → CanGrowTo s.serial_rooms s.seg.0 objects

-- the own segment of the shared heap can be made smaller, to so many objects, where it is not absorbed
abbrev pub CanNarrowHeap : ℕ → SharedRecord → Type 0
CanNarrowHeap objects s = Stands s → CanNarrowTo s.serial_rooms s.value.objects s.seg.0 objects

-- that is so of the first so many
abbrev pub OfFirst : {A : Type 0} → (A → Type 0) → ℕ → List A → Type 0
OfFirst {A} P count xs = (k : ℕ) (x : A) → k < count → slice_get xs k ≡ Some x → P x

-- that is so of each
abbrev pub OfEach : {A : Type 0} → (A → Type 0) → List A → Type 0
OfEach {A} P xs = (k : ℕ) (x : A) → slice_get xs k ≡ Some x → P x

-- of each heap so many objects can live at once in its own segment, where it lives
pub record HaveObjects (objects : ℕ) (guests : List Guest) (k : HoldingsValue) (shared : List SharedRecord) : Type 0 where
  pub guests_have : OfEach (HasObjects objects) guests
  pub kernel_has : HasSegment objects k.serial_rooms 0
  pub shared_have : OfEach (HeapHasObjects objects) shared

-- no more objects live in the own segment of each heap
pub record HaveFit (objects : ℕ) (guests : List Guest) (k : HoldingsValue) (shared : List SharedRecord) : Type 0 where
  pub guests_fit : OfEach (FitsIn objects) guests
  pub kernel_fits : living_in 0 k.value.objects ≤ objects
  pub shared_fit : OfEach (HeapFitsIn objects) shared

-- the own segment of each heap can be made smaller, to so many objects, where it lives
pub record CanNarrowObjects (objects : ℕ) (guests : List Guest) (k : HoldingsValue) (shared : List SharedRecord) : Type 0 where
  pub guests_can : OfEach (CanNarrowGuest objects) guests
  pub kernel_can : CanNarrowTo k.serial_rooms k.value.objects 0 objects
  pub shared_can : OfEach (CanNarrowHeap objects) shared

-- so many objects can live at once in the own segment of each heap that lives, and nothing else of the cells has changed
pub record HaveGrownObjects (objects : ℕ) (old_guests guests : List Guest) (old_k k : HoldingsValue) (old_shared shared : List SharedRecord) : Type 0 where
  pub guests_are : guests ≡ map (guest_with_objects objects) old_guests
  pub kernel_is : k ≡ kernel_with_objects objects old_k
  pub shared_are : shared ≡ map (heap_with_objects objects) old_shared

-- the memory is enough for the tables of the process
pub record CanMoveGuest (g : Guest) (room : GuestRoom) : Type 0 where
  pub exits : g.cell.exit_room ≤ room.exits
  pub empty : room.tail.items ≡ []
  pub tail : length g.cell.value.tail ≤ vec_capacity room.tail
  pub small : vec_capacity room.tail < 2 ^ 32

-- the rooms are enough for the tables of the process
pub record CanMoveIn (rooms : Rooms) (g : Guest) : Type 0 where
  pub exits : g.cell.exit_room ≤ rooms.exits
  pub tail : length g.cell.value.tail ≤ rooms.tail

-- the rooms are few, and enough for the tables of all parts
pub record CanMove (rooms : Rooms) (guests : List Guest) (k : HoldingsValue) (shared : List SharedRecord) (b : BookRecord) : Type 0 where
  pub few : AreFew rooms
  pub guests_can : OfEach (CanMoveIn rooms) guests
  pub kernel_can : k.exit_room ≤ rooms.kernel_exits
  pub shared_can : OfEach (λ s. s.exit_room ≤ rooms.exits) shared
  pub entries : b.entry_room ≤ rooms.entries
  pub events : b.event_room ≤ rooms.events

-- all parts have tables with these rooms, and nothing else of them has changed
pub record HaveMoved (rooms : Rooms) (old_guests guests : List Guest) (old_k k : HoldingsValue) (old_shared shared : List SharedRecord) (old_b b : BookRecord) : Type 0 where
  pub guests_are : guests ≡ map (guest_with_tables rooms.exits rooms.tail) old_guests
  pub kernel_is : k ≡ record old_k { exit_room = rooms.kernel_exits }
  pub shared_are : shared ≡ map (heap_with_tables rooms.exits) old_shared
  pub book_is : b ≡ record old_b { entry_room = rooms.entries; event_room = rooms.events }

-- the parts serve by the terms, one event more of each process can be unpublished, and the rooms are larger ones
pub record CanGrow (terms : Terms) (rooms : Rooms) (guests : List Guest) (k : HoldingsValue) (shared : List SharedRecord) (b : BookRecord) : Type 0 where
  pub larger : AreLarger (length terms.setup.procs.items) terms.rooms rooms
  pub all : GuestsServe (basis_of terms) b.journal.table guests
  pub few : OfEach (HasTailRoom (basis_of terms)) guests
  pub rest : RestServes (basis_of terms) k shared b

-- all parts have these rooms, where so many of the last events can be read, and nothing else of them has changed
pub record HaveGrown (rooms : Rooms) (kept : ℕ) (old_guests guests : List Guest) (old_k k : HoldingsValue) (old_shared shared : List SharedRecord) (old_b b : BookRecord) : Type 0 where
  pub guests_are : guests ≡ map (guest_with_rooms rooms) old_guests
  pub kernel_is : k ≡ kernel_with_rooms rooms old_k
  pub shared_are : shared ≡ map (heap_with_rooms rooms) old_shared
  pub book_is : b ≡ book_with_rooms rooms kept old_b

-- no part has changed
pub record HaveStayed (old_guests guests : List Guest) (old_k k : HoldingsValue) (old_shared shared : List SharedRecord) (old_b b : BookRecord) : Type 0 where
  pub guests_are : guests ≡ old_guests
  pub kernel_is : k ≡ old_k
  pub shared_are : shared ≡ old_shared
  pub book_is : b ≡ old_b
