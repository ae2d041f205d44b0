-- The parts of a host: each of them keeps what it keeps by itself, whatever becomes of the others.
use Rattle.std.specs.Prelude.{◌≡◌, ℕ, IsTrue, List, Option, Some, None, is_some}
use Rattle.atomic_table.specs.Seated.{TableId}
use Rattle.k_types.specs.declared.names.Name.{Name}
use Rattle.k_mark.specs.Listening.{FreedNames}
use Rattle.k_book.specs.Books.{BookRecord}
use Rattle.k_cell.specs.Holdings.{HoldingsValue}
use Rattle.k_shared.specs.SharedHeaps.{SharedRecord}
use Rattle.k_ends.specs.k_guests.declared.guest.Guest.{Guest}
use Rattle.k_ends.specs.k_guests.Serving.{Basis, BookServes, GuestServes, HasTailRoom, KernelServes, SharedServes, basis_of}
use Rattle.k_parts.specs.declared.head.Head.{Head}

-- the host of a part: what its parts have in common, the number that it was given, and the table of its journal
pub record Home : Type 0 where
  pub basis : Basis
  pub number : ℕ
  pub table : TableId

abbrev pub home_at : Head → TableId → Home
home_at head table = record { basis = basis_of head.terms; number = head.number; table = table }

-- the part is of the host that is named, where one is
abbrev pub IsOf : Option Home → Home → Type 0
IsOf None home = Unit {0}
IsOf (Some named) home = home ≡ named

-- a type names the host
abbrev pub IsNamed : Option Home → Type 0
IsNamed named = IsTrue (is_some named)

-- parts that have one number are of one host
abbrev pub AreToldApart : Home → Home → Type 0
AreToldApart a b = a.number ≡ b.number → b ≡ a

-- two parts can be lent to one call: one host is named for both, or their hosts are told apart by their numbers
abbrev pub CanMeet : Option Home → Home → Home → Type 0
CanMeet None a b = AreToldApart a b
CanMeet (Some named) a b = Unit {0}

-- a process: its cell with what is left of its supply, and its host
pub record GuestPartValue : Type 0 where
  pub guest : Guest
  pub home : Home

-- the kernel's cell
pub record KernelPartValue : Type 0 where
  pub kernel : HoldingsValue
  pub home : Home

-- the cell of a shared heap
pub record SharedPartValue : Type 0 where
  pub heap : SharedRecord
  pub home : Home

-- the book, the names of what the last collection freed, for so many of which there is room, and how many of the first events were taken
-- out or passed over
pub record BookPartValue : Type 0 where
  pub book : BookRecord
  pub home : Home
  pub freed : List Name
  pub room : ℕ
  pub taken : ℕ

-- what is seen of the parts: their host is that of their head and of their table
abbrev pub guest_seen : Head → Guest → GuestPartValue
guest_seen head g = record { home = home_at head g.cell.note.table; guest = g }

abbrev pub kernel_seen : Head → HoldingsValue → KernelPartValue
kernel_seen head k = record { home = home_at head k.note.table; kernel = k }

abbrev pub shared_seen : Head → SharedRecord → SharedPartValue
shared_seen head s = record { home = home_at head s.note.table; heap = s }

abbrev pub book_seen : Head → BookRecord → FreedNames → ℕ → BookPartValue
book_seen head b n taken = record { home = home_at head b.journal.table; book = b; freed = n.names; room = n.room; taken = taken }

-- the process serves, and one event more of it can be unpublished
pub record GuestServesApart (basis : Basis) (table : TableId) (g : Guest) : Type 0 where
  pub serves : GuestServes basis table g
  pub few : HasTailRoom basis g

-- the book serves, and has the journal of that table
pub record BookServesApart (basis : Basis) (table : TableId) (b : BookRecord) : Type 0 where
  pub serves : BookServes basis b
  pub table_is : b.journal.table ≡ table

-- a part rests: it serves as those of its host do, and is of the host that is named
pub record Rests {A : Type 0} (Serves : Basis → TableId → A → Type 0) (named : Option Home) (home : Home) (part : A) : Type 0 where
  pub serves : Serves home.basis home.table part
  pub of_host : IsOf named home

abbrev pub GuestRests : Option Home → Home → Guest → Type 0
GuestRests = Rests GuestServesApart

abbrev pub KernelRests : Option Home → Home → HoldingsValue → Type 0
KernelRests = Rests KernelServes

abbrev pub SharedRests : Option Home → Home → SharedRecord → Type 0
SharedRests = Rests SharedServes

abbrev pub BookRests : Option Home → Home → BookRecord → Type 0
BookRests = Rests BookServesApart
