-- What a contract sees of a segment.
use Rattle.std.specs.Prelude.{◌≡◌, ℕ, zero, suc, ◌+◌, ◌-◌, ◌*◌, ◌<◌, ◌≤◌, ◌^◌, Bool, true, false, List, [], ◌∷◌, ◌++◌, length, map, slice_index_or, slice_set, count_by, is_some, Option, Some, None}
use Rattle.k_types.specs.declared.names.TypeId.{TypeId}
use Rattle.k_types.specs.State.{Content, Object}
use Rattle.k_types.specs.Totals.{total}
use Rattle.k_types.specs.Owners.{object_bytes}
use Rattle.k_space.specs.Objects.{BodyValue}

-- white: not marked; gray: marked, its fields not yet looked at; black: marked, its fields looked at
pub data Color : Type 0 where
  White : Color
  Gray : Color
  Black : Color

-- a live object: where it lies, its mark and its content
pub record Row : Type 0 where
  pub slot : ℕ
  pub color : Color
  pub ty : Option TypeId
  pub fields : List Content

-- how many objects can live at once, and at each serial from 0 on the object, or nothing where it is gone; no object has
-- serial 0
pub record SegmentValue : Type 0 where
  pub number : ℕ
  pub room : ℕ
  pub rows : List (Option Row)

-- the live object of that serial
abbrev pub row_at : SegmentValue → ℕ → Option Row
row_at s serial = slice_index_or s.rows serial None

-- how many serials were given
abbrev pub made : SegmentValue → ℕ
made s = length s.rows - 1

-- how many objects live
abbrev pub living : SegmentValue → ℕ
living s = count_by is_some s.rows

-- the segment where the serial has that object, or none
abbrev pub with_row : SegmentValue → ℕ → Option Row → SegmentValue
with_row s serial row = record s { rows = slice_set s.rows serial row }

-- a new object, which is not marked
abbrev pub new_row : ℕ → BodyValue → Row
new_row slot body = record { slot = slot; color = White; ty = body.ty; fields = body.fields }

-- what a live object holds
abbrev pub body_of : Row → BodyValue
body_of row = record { ty = row.ty; fields = row.fields }

-- the segment with one more object, under the next serial
abbrev pub placed : SegmentValue → ℕ → BodyValue → SegmentValue
placed s slot body = record s { rows = s.rows ++ Some (new_row slot body) ∷ [] }

-- the slot has the live object of that serial
pub record LiesAt (s : SegmentValue) (slot serial : ℕ) (row : Row) : Type 0 where
  pub there : row_at s serial ≡ Some row
  pub slot_is : row.slot ≡ slot

-- the slot has a live object
pub record IsLive (s : SegmentValue) (slot : ℕ) : Type 0 where
  pub serial : ℕ
  pub row : Row
  pub lies : LiesAt s slot serial row

-- the object as the machine sees it
abbrev pub object_of : ℕ → ℕ → Row → Object
object_of number serial row =
    record { name = record { seg = record { 0 = number }; serial = record { 0 = serial } }; ty = row.ty; fields = row.fields }

-- the live objects of these rows, of which the first has that serial
abbrev pub objects_from : ℕ → ℕ → List (Option Row) → List Object
objects_from number serial [] = []
objects_from number serial (None ∷ rows) = objects_from number (serial + 1) rows
objects_from number serial (Some row ∷ rows) = object_of number serial row ∷ objects_from number (serial + 1) rows

-- the live objects by rising serial
abbrev pub segment_objects : SegmentValue → List Object
segment_objects s = objects_from s.number 0 s.rows

-- the bytes of the live objects
abbrev pub segment_bytes : SegmentValue → ℕ
segment_bytes s = total object_bytes (segment_objects s)

-- the color is gray
abbrev pub is_gray : Color → Bool
is_gray Gray = true
is_gray White = false
is_gray Black = false

-- the color is black
abbrev pub is_black : Color → Bool
is_black White = false
is_black Gray = false
is_black Black = true

-- the color is gray or black
abbrev pub is_marked : Color → Bool
is_marked Gray = true
is_marked White = false
is_marked Black = true

-- there is an object, and it is gray
abbrev pub some_gray : Option Row → Bool
some_gray None = false
some_gray (Some row) = is_gray row.color

-- there is an object, and it is black
abbrev pub some_black : Option Row → Bool
some_black None = false
some_black (Some row) = is_black row.color

-- there is an object, and it is marked
abbrev pub some_marked : Option Row → Bool
some_marked None = false
some_marked (Some row) = is_marked row.color

-- the mark of an object that a reference leads to
abbrev pub gray_or_black : Color → Color
gray_or_black White = Gray
gray_or_black Gray = Gray
gray_or_black Black = Black

-- the same objects with no marks
abbrev pub unmarked_row : Option Row → Option Row
unmarked_row None = None
unmarked_row (Some row) = Some (record row { color = White })

-- the segment with no marks
abbrev pub unmarked_segment : SegmentValue → SegmentValue
unmarked_segment s = record s { rows = map unmarked_row s.rows }

-- the object, black
abbrev pub blackened_row : Option Row → Option Row
blackened_row None = None
blackened_row (Some row) = Some (record row { color = Black })

-- the objects of so many serials from the first are black
abbrev pub blackened_rows : ℕ → List (Option Row) → List (Option Row)
blackened_rows zero rows = rows
blackened_rows (suc n) [] = []
blackened_rows (suc n) (row ∷ rows) = blackened_row row ∷ blackened_rows n rows

-- the segment where the objects with a lower serial are black
abbrev pub blackened_segment : ℕ → SegmentValue → SegmentValue
blackened_segment below s = record s { rows = blackened_rows below s.rows }

-- one more object can be put in: fewer live than can at once, and a serial is left
pub record HasRoom (s : SegmentValue) : Type 0 where
  pub few : living s < s.room
  pub left : made s + 2 < 2 ^ 32

-- what holds of every segment: the serials from 1 on were given, the objects that live are within the room; an object has at most 16 fields; no two objects lie in one slot
pub record IsSegment (s : SegmentValue) : Type 0 where
  pub begun : length s.rows ≡ made s + 1
  pub first : row_at s 0 ≡ None
  pub within : living s ≤ s.room
  pub given : made s + 1 < 2 ^ 32
  pub small : s.room + 1 < 2 ^ 32
  pub fields : (serial : ℕ) (row : Row) → row_at s serial ≡ Some row → length row.fields ≤ 16
  pub bytes : segment_bytes s ≤ 144 * made s
  pub apart : (i j : ℕ) (one other : Row) → row_at s i ≡ Some one → row_at s j ≡ Some other → one.slot ≡ other.slot → i ≡ j
