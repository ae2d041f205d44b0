-- How a segment keeps its objects. No public clause cites this file.
use Rattle.std.specs.Prelude.{◌≡◌, ℕ, zero, suc, ◌+◌, ◌*◌, ◌<◌, ◌≤◌, ◌^◌, Bool, true, false, List, [], ◌∷◌, length, map, count_by, slice_index_or, Option, Some, None}
use Rattle.k_space.specs.Cells.{CellsValue, get, count_held}
use Rattle.k_types.specs.Totals.{total}
use Rattle.k_types.specs.Types.{object_size}
use Rattle.k_space.specs.declared.marks.Place.{Place}
use Rattle.k_space.specs.declared.marks.Place.TheVariants.{Empty, At}
use Rattle.k_space.specs.declared.marks.Mark.{Mark}
use Rattle.k_space.specs.declared.marks.Mark.TheVariants.{White as MarkWhite, Gray as MarkGray, Black as MarkBlack}
use Rattle.k_space.specs.declared.cells.Cell.{Cell}
use Rattle.k_space.specs.Segments.{Color, White, Gray, Black, Row}

-- the color that a mark is
abbrev pub color_of : Mark → Color
color_of MarkWhite = White
color_of (MarkGray next) = Gray
color_of MarkBlack = Black

-- the object in that slot
abbrev pub row_in : ℕ → Mark → Option Cell → Option Row
row_in slot mark None = None
row_in slot mark (Some cell) = Some (record { slot = slot; color = color_of mark; ty = cell.body.ty; fields = cell.body.fields })

-- the object of a place
abbrev pub row_of : CellsValue → Place → Option Row
row_of cells Empty = None
row_of cells (At slot mark) = row_in slot mark (get cells slot)

-- the place has a gray object
abbrev pub is_gray_place : Place → Bool
is_gray_place (At slot (MarkGray next)) = true
is_gray_place _ = false

-- so many gray places, each with the next
abbrev pub IsGrayList : List Place → ℕ → ℕ → Type 0
IsGrayList places zero head = head ≡ 0
IsGrayList places (suc n) head = (0 < head) × (slot : ℕ) × (next : ℕ) × (slice_index_or places head Empty ≡ At slot (MarkGray next))
    × IsGrayList places n next

-- the place there is gray, and names no next one
pub record IsGrayEnd (places : List Place) (last : ℕ) : Type 0 where
  pub slot : ℕ
  pub there : slice_index_or places last Empty ≡ At slot (MarkGray 0)

-- no other gray place names no next one
abbrev pub IsLastGray : List Place → ℕ → Type 0
IsLastGray places last = (i : ℕ) (slot : ℕ) → slice_index_or places i Empty ≡ At slot (MarkGray 0) → i ≡ last

-- the slot has the object of that serial
pub record IsPlaced (cells : CellsValue) (serial slot : ℕ) : Type 0 where
  pub cell : Cell
  pub there : get cells slot ≡ Some cell
  pub serial_is : cell.serial.0 ≡ serial

-- the object's serial has the slot, and it has at most 16 fields
pub record IsKept (places : List Place) (slot : ℕ) (cell : Cell) : Type 0 where
  pub mark : Mark
  pub there : slice_index_or places cell.serial.0 Empty ≡ At slot mark
  pub few : length cell.body.fields ≤ 16

-- the bytes of an object
abbrev pub row_bytes : Option Row → ℕ
row_bytes None = 0
row_bytes (Some row) = object_size (length row.fields)

-- the place has an object
abbrev pub is_taken : Place → Bool
is_taken Empty = false
is_taken (At slot mark) = true

-- the serials are numbers of 32 bits, the objects are those of the places and within the room, and there is memory for as many
-- at once, with a spot for each slot
pub record IsSized (places : List Place) (cells : CellsValue) (room capacity : ℕ) : Type 0 where
  pub given : length places < 2 ^ 32
  pub counted : count_held cells ≡ count_by is_taken places
  pub within : count_held cells ≤ room
  pub fits : room ≤ cells.capacity
  pub slots : cells.capacity ≤ capacity
  pub keys : cells.capacity + 1 < 2 ^ 32

-- places and slots name each other, the gray places are one list, and there is room for each object
pub record IsSound (places : List Place) (cells : CellsValue) (room capacity head : ℕ) : Type 0 where
  pub first : slice_index_or places 0 Empty ≡ Empty
  pub begun : 0 < length places
  pub sized : IsSized places cells room capacity
  pub placed : (i slot : ℕ) (mark : Mark) → slice_index_or places i Empty ≡ At slot mark → IsPlaced cells i slot
  pub kept : (slot : ℕ) (cell : Cell) → get cells slot ≡ Some cell → IsKept places slot cell
  pub grays : IsGrayList places (count_by is_gray_place places) head

-- the bytes are those of the objects, at most 144 for each serial
pub record AreBytes (places : List Place) (cells : CellsValue) (bytes : ℕ) : Type 0 where
  pub counted : bytes ≡ total row_bytes (map (row_of cells) places)
  pub small : bytes + 144 ≤ 144 * length places

-- the place with no mark
abbrev pub white_place : Place → Place
white_place Empty = Empty
white_place (At slot mark) = At slot MarkWhite

-- the place has an object that isn't marked
abbrev pub is_white_place : Place → Bool
is_white_place (At slot MarkWhite) = true
is_white_place _ = false

-- the place of a black object
abbrev pub black_place : Place → Place
black_place Empty = Empty
black_place (At slot mark) = At slot MarkBlack

-- the places of so many serials from the first are black
abbrev pub black_places : ℕ → List Place → List Place
black_places zero places = places
black_places (suc n) [] = []
black_places (suc n) (p ∷ places) = black_place p ∷ black_places n places
