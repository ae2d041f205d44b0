-- A host that is made and taken apart, and its parts, which are taken one after the other.
use Rattle.std.specs.Prelude.{◌≡◌, ℕ, [], ◌∷◌, Option, Some, None}
use Rattle.k_types.specs.declared.names.TypeId.{TypeId}
use Rattle.k_embed.specs.declared.messages.Rooms.{Rooms}
use Rattle.k_embed.specs.Asked.{rooms_of}
use Rattle.k_embed.specs.Codes.{line_of, reason_of}
use Rattle.k_embed.specs.Words.{Text}
use Rattle.k_parts.specs.OpenError.{OpenError}
use Rattle.k_parts.specs.Hosts.{HostValue}
use Rattle.k_parts.specs.HostsOpening.{HasRead, IsNotRead}
use Rattle.k_parts.specs.Parts.{BookPartValue, KernelPartValue}
use Rattle.k_parts.specs.Splitting.{AreSplit}
use Rattle.k_slots.specs.declared.slots.Part.{Part}
use Rattle.k_slots.specs.declared.slots.Part.TheVariants.{Book, Empty, Guest, Kernel, Lacking, Row as InRow, Shared}
use Rattle.k_slots.specs.declared.slots.Row.{Row}

-- the parts are those of the host, which know it by this number
pub record IsParted (host : HostValue) (number freed : ℕ) (row : Row) : Type 0 where
  pub kernel : KernelPartValue
  pub book : BookPartValue
  pub split : AreSplit host number freed row.guests.items kernel row.shared.items book
  pub kernel_there : row.kernel ≡ Some kernel
  pub book_there : row.book ≡ Some book

-- and that is a host of what the bytes declare, before its first event
pub record IsRowOf (bytes : Text) (ty : TypeId) (bodies : ℕ) (rooms : Rooms) (number freed : ℕ) (row : Row) : Type 0 where
  pub host : HostValue
  pub read : HasRead bytes ty bodies (rooms_of rooms) host
  pub parted : IsParted host number freed row

-- there is no host of what the bytes declare, and line and reason are those of the cause
pub record HasNoRow (bytes : Text) (ty : TypeId) (rooms : Rooms) (line reason : ℕ) : Type 0 where
  pub why : OpenError
  pub cause : IsNotRead bytes ty (rooms_of rooms) why
  pub line_is : line ≡ line_of why
  pub reason_is : reason ≡ reason_of why

abbrev pub IsOpenedRow : Text → TypeId → ℕ → Rooms → ℕ → ℕ → Part → Type 0
IsOpenedRow bytes ty bodies rooms number freed (InRow row) = IsRowOf bytes ty bodies rooms number freed row
IsOpenedRow bytes ty bodies rooms number freed (Lacking line reason) = HasNoRow bytes ty rooms line reason
IsOpenedRow bytes ty bodies rooms number freed Empty = ⊥
IsOpenedRow bytes ty bodies rooms number freed (Guest p) = ⊥
IsOpenedRow bytes ty bodies rooms number freed (Kernel p) = ⊥
IsOpenedRow bytes ty bodies rooms number freed (Shared p) = ⊥
IsOpenedRow bytes ty bodies rooms number freed (Book p) = ⊥

-- no process is left in the row
abbrev pub HasNoGuests : Row → Row → Type 0
HasNoGuests old new = (old.guests.items ≡ []) × (new.guests.items ≡ [])

-- neither a process nor the kernel
abbrev pub HasNoCells : Row → Row → Type 0
HasNoCells old new = HasNoGuests old new × (old.kernel ≡ None) × (new.kernel ≡ None)

-- nor a shared heap
abbrev pub HasNoHeaps : Row → Row → Type 0
HasNoHeaps old new = HasNoCells old new × (old.shared.items ≡ []) × (new.shared.items ≡ [])

-- the part was the first of those in the row, in the order processes, kernel, shared heaps, book, and the others are left; `Empty` where
-- none was left
abbrev pub IsTakenFrom : Row → Row → Part → Type 0
IsTakenFrom old new (Guest p) = (old.guests.items ≡ p ∷ new.guests.items) × (new.kernel ≡ old.kernel) × (new.shared.items ≡ old.shared.items) × (new.book ≡ old.book)
IsTakenFrom old new (Kernel p) = HasNoGuests old new × (old.kernel ≡ Some p) × (new.kernel ≡ None) × (new.shared.items ≡ old.shared.items) × (new.book ≡ old.book)
IsTakenFrom old new (Shared p) = HasNoCells old new × (old.shared.items ≡ p ∷ new.shared.items) × (new.book ≡ old.book)
IsTakenFrom old new (Book p) = HasNoHeaps old new × (old.book ≡ Some p) × (new.book ≡ None)
IsTakenFrom old new Empty = HasNoHeaps old new × (old.book ≡ None) × (new.book ≡ None)
IsTakenFrom old new (Lacking line reason) = ⊥
IsTakenFrom old new (InRow row) = ⊥

-- the row is in its place still, and this was taken from it
pub record IsTakenInRow (old : Row) (place taken : Part) : Type 0 where
  pub now : Row
  pub there : place ≡ InRow now
  pub first : IsTakenFrom old now taken

-- in the place lies no row: nothing is taken
pub record IsTakenNone (old place taken : Part) : Type 0 where
  pub same : place ≡ old
  pub none : taken ≡ Empty

abbrev pub IsTaken : Part → Part → Part → Type 0
IsTaken (InRow row) place taken = IsTakenInRow row place taken
IsTaken Empty place taken = IsTakenNone Empty place taken
IsTaken (Lacking line reason) place taken = IsTakenNone (Lacking line reason) place taken
IsTaken (Guest p) place taken = IsTakenNone (Guest p) place taken
IsTaken (Kernel p) place taken = IsTakenNone (Kernel p) place taken
IsTaken (Shared p) place taken = IsTakenNone (Shared p) place taken
IsTaken (Book p) place taken = IsTakenNone (Book p) place taken
