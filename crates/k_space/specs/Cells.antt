-- The objects of a segment by slot, and the list of free slots. No public clause cites this file.
use Rattle.std.specs.Prelude.{◌≡◌, ◌≢◌, ℕ, zero, suc, Bool, true, false, List, map, count_by, is_some, slice_get, slice_index_or, slice_set, Option, Some, None}
use Rattle.k_space.specs.declared.cells.Cell.{Cell}
use Rattle.k_space.specs.declared.cells.SlotState.{SlotState}
use Rattle.k_space.specs.declared.cells.SlotState.TheVariants.{Free, Full}

-- the object in each slot from 0 on, or nothing, and how many slots there is memory for
pub record CellsValue : Type 0 where
  pub slots : List (Option Cell)
  pub capacity : ℕ

-- the object in that slot
abbrev pub get : CellsValue → ℕ → Option Cell
get cells slot = slice_index_or cells.slots slot None

-- how many objects there are
abbrev pub count_held : CellsValue → ℕ
count_held cells = count_by is_some cells.slots

-- with that object in the slot
abbrev pub with_cell : CellsValue → ℕ → Cell → CellsValue
with_cell cells slot cell = record cells { slots = slice_set cells.slots slot (Some cell) }

-- the slot has that object now, or none, and every other slot what it had
pub record ChangesAt (old new : CellsValue) (slot : ℕ) (now : Option Cell) : Type 0 where
  pub there : get new slot ≡ now
  pub others : (other : ℕ) → other ≢ slot → get new other ≡ get old other

-- the object of a slot
abbrev pub cell_of : SlotState → Option Cell
cell_of (Free next) = None
cell_of (Full cell) = Some cell

-- the slot has no object
abbrev pub is_free : SlotState → Bool
is_free (Free next) = true
is_free (Full cell) = false

-- so many free slots, each with the next; the first number, and each that a slot has, is one more than a slot, and 0 at the end
abbrev pub IsFreeList : List SlotState → ℕ → ℕ → Type 0
IsFreeList states zero first = first ≡ 0
IsFreeList states (suc n) first = (slot : ℕ) × (next : ℕ) × (first ≡ suc slot) × (slice_get states slot ≡ Some (Free next)) × IsFreeList states n next

-- all free slots are one list, and there are so many objects
pub record AreSorted (states : List SlotState) (first count : ℕ) : Type 0 where
  pub frees : IsFreeList states (count_by is_free states) first
  pub counted : count ≡ count_by is_some (map cell_of states)
