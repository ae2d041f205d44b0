-- What a contract sees of the exit items of a heap.
use Rattle.std.specs.Prelude.{◌≡◌, ℕ, ◌+◌, ◌≤◌, ◌==◌, ◌&&◌, ◌||◌, not, Bool, true, false, List, [], ◌∷◌, ◌++◌, length, map, take, drop, slice_get, count_by, Some, if◌then◌else◌, IsTrue}
use Rattle.std.specs.List.{list_any}
use Rattle.std.specs.List.Sorted.{IsPermutation}
use Rattle.k_types.specs.declared.names.Name.{Name}
use Rattle.k_types.specs.declared.names.Link.{Link}
use Rattle.k_types.specs.Names.{name_eq, name_lt, name_of}

-- a target, and whether it is marked
pub record ExitRow : Type 0 where
  pub target : Name
  pub marked : Bool

-- the items, and how many there can be
pub record ExitList : Type 0 where
  pub items : List ExitRow
  pub room : ℕ

-- the target is there
abbrev pub has_target : List ExitRow → Name → Bool
has_target items t = list_any (λ e. name_eq e.target t) items

-- the target is there, and marked
abbrev pub target_marked : List ExitRow → Name → Bool
target_marked items t = list_any (λ e. name_eq e.target t && e.marked) items

-- the names of the targets
abbrev pub targets : List ExitRow → List Name
targets items = map (λ e. e.target) items

-- no target stands there twice
abbrev pub AreDistinct : List ExitRow → Type 0
AreDistinct items = (t : Name) → count_by (λ e. name_eq e.target t) items ≤ 1

-- the list with one more target, unmarked, where it is new
abbrev pub with_target : ExitList → Name → ExitList
with_target e t = if has_target e.items t then e else record e { items = e.items ++ record { target = t; marked = false } ∷ [] }

-- the item, marked if that is its target
abbrev pub marked_if : Name → ExitRow → ExitRow
marked_if t e = record { target = e.target; marked = e.marked || name_eq e.target t }

-- the list where that target is marked
abbrev pub with_marked : ExitList → Name → ExitList
with_marked e t = record e { items = map (marked_if t) e.items }

-- the item with a mark
abbrev pub marked_row : ExitRow → ExitRow
marked_row e = record e { marked = true }

-- the items, of which so many at the front are marked
abbrev pub marked_first : ℕ → List ExitRow → List ExitRow
marked_first count items = map marked_row (take count items) ++ drop count items

-- the list where so many items at the front are marked
abbrev pub with_first_marked : ExitList → ℕ → ExitList
with_first_marked e count = record e { items = marked_first count e.items }

-- the item with no mark
abbrev pub unmarked_row : ExitRow → ExitRow
unmarked_row e = record e { marked = false }

-- the list with no marks
abbrev pub unmarked : ExitList → ExitList
unmarked e = record e { items = map unmarked_row e.items }

-- some target lies in that segment
abbrev pub leads_into : List ExitRow → ℕ → Bool
leads_into items seg = list_any (λ e. e.target.seg.0 == seg) items

-- that item is gone, and no other; what is left stays marked or not as it was, in any order
pub record IsTaken (old new : ExitList) (link : Link) (row : ExitRow) : Type 0 where
  pub target : row.target ≡ name_of link
  pub taken : IsPermutation old.items (row ∷ new.items)
  pub left : (n : Name) → has_target new.items n ≡ (has_target old.items n && not (name_eq row.target n))
  pub marks : (n : Name) → target_marked new.items n ≡ (target_marked old.items n && not (name_eq row.target n))
  pub fewer : length new.items + 1 ≡ length old.items
  pub room : new.room ≡ old.room
  pub distinct : AreDistinct new.items

-- the targets rise by segment and serial
abbrev pub AreInOrder : List ExitRow → Type 0
AreInOrder items = (i : ℕ) (x y : ExitRow) → slice_get items i ≡ Some x → slice_get items (i + 1) ≡ Some y → IsTrue (name_lt x.target y.target)
