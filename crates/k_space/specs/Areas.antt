-- What a contract sees of an area.
use Rattle.std.specs.Prelude.{◌≡◌, ℕ, ◌==◌, not, Bool, false, List, length, map, slice_get, slice_set, Option, Some, None, is_some, option_map}
use Rattle.std.specs.List.{position_or_len, sum_by}
use Rattle.k_types.specs.declared.names.Name.{Name}
use Rattle.k_types.specs.State.{Content}
use Rattle.k_space.specs.declared.bound.Bound.{Bound}
use Rattle.k_space.specs.Bounds.{bound_in}
use Rattle.k_space.specs.Segments.{SegmentValue, Row, Black, Gray, row_at, with_row, some_gray, some_black, some_marked, unmarked_segment, blackened_segment, gray_or_black}

-- the segments, and how many there can be
pub record AreaValue : Type 0 where
  pub segments : List SegmentValue
  pub room : ℕ

-- where the segment of that number stands; the length where there is none
abbrev pub place_of : List SegmentValue → ℕ → ℕ
place_of segments number = position_or_len (λ s. s.number == number) segments

-- the segment of that number
abbrev pub segment_at : List SegmentValue → ℕ → Option SegmentValue
segment_at segments number = slice_get segments (place_of segments number)

-- there is a segment, and that is its number
abbrev pub has_number : Option SegmentValue → ℕ → Bool
has_number None number = false
has_number (Some s) number = s.number == number

-- the numbers are distinct
abbrev pub HasDistinct : List SegmentValue → Type 0
HasDistinct segments = (i : ℕ) (s : SegmentValue) → slice_get segments i ≡ Some s → place_of segments s.number ≡ i

-- the live object of that serial, where there is a segment
abbrev pub row_in_segment : Option SegmentValue → ℕ → Option Row
row_in_segment None serial = None
row_in_segment (Some s) serial = row_at s serial

-- the live object of that name
abbrev pub row_of_name : List SegmentValue → Name → Option Row
row_of_name segments n = row_in_segment (segment_at segments n.seg.0) n.serial.0

-- the area with another segment in the place of the one of that number
abbrev pub with_segment : AreaValue → ℕ → SegmentValue → AreaValue
with_segment a number s = record a { segments = slice_set a.segments (place_of a.segments number) s }

-- the area where the name has that object in its segment, if there is one
abbrev pub with_row_in : AreaValue → Name → Option Row → Option SegmentValue → AreaValue
with_row_in a n row None = a
with_row_in a n row (Some s) = with_segment a n.seg.0 (with_row s n.serial.0 row)

-- the area where the name has that object, or none
abbrev pub with_row_of : AreaValue → Name → Option Row → AreaValue
with_row_of a n row = with_row_in a n row (segment_at a.segments n.seg.0)

-- the fields of the object of that name
abbrev pub fields_at : AreaValue → Name → Option (List Content)
fields_at a n = option_map (λ row. row.fields) (row_of_name a.segments n)

-- no segment of the area has that number
abbrev pub is_foreign : AreaValue → Name → Bool
is_foreign a n = not (is_some (segment_at a.segments n.seg.0))

-- that object is gray
abbrev pub gray_at : AreaValue → Name → Bool
gray_at a n = some_gray (row_of_name a.segments n)

-- that object is black
abbrev pub black_at : AreaValue → Name → Bool
black_at a n = some_black (row_of_name a.segments n)

-- that object is marked
abbrev pub marked_at : AreaValue → Name → Bool
marked_at a n = some_marked (row_of_name a.segments n)

-- the area with no marks
abbrev pub unmarked : AreaValue → AreaValue
unmarked a = record a { segments = map unmarked_segment a.segments }

-- the segment where the objects that the bound covers are black
abbrev pub blackened_in : Bound → SegmentValue → SegmentValue
blackened_in b s = blackened_segment (bound_in b s.number (length s.rows)) s

-- the area where the objects that the bound covers are black
abbrev pub blackened : Bound → AreaValue → AreaValue
blackened b a = record a { segments = map (blackened_in b) a.segments }

-- the area where that row, if there is one, is gray in place of white
abbrev pub grayed_row : AreaValue → Name → Option Row → AreaValue
grayed_row a n None = a
grayed_row a n (Some row) = with_row_of a n (Some (record row { color = gray_or_black row.color }))

-- the area where that object is gray, if it was white
abbrev pub grayed : AreaValue → Name → AreaValue
grayed a n = grayed_row a n (row_of_name a.segments n)

-- that object was gray, and is black
pub record IsBlackened (old new : AreaValue) (n : Name) : Type 0 where
  pub row : Row
  pub there : row_of_name old.segments n ≡ Some row
  pub was : row.color ≡ Gray
  pub now : new ≡ with_row_of old n (Some (record row { color = Black }))

-- the sum of what the function gives for each serial of each segment
abbrev pub rows_total : (Option Row → ℕ) → AreaValue → ℕ
rows_total g a = sum_by (λ s. sum_by g s.rows) a.segments
