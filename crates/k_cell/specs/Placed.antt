-- What changes of one segment make of an area.
use Rattle.std.specs.Prelude.{◌≡◌, ◌⊎◌, ℕ, ◌<◌, ◌≤◌, Bool, true, false, List, length, slice_set, Some}
use Rattle.k_mark.specs.k_types.declared.names.Name.{Name}
use Rattle.k_mark.specs.k_types.declared.names.Link.{Link}
use Rattle.k_mark.specs.k_types.State.{Content}
use Rattle.k_mark.specs.k_space.Objects.{BodyValue, HasInt, HasRef}
use Rattle.k_mark.specs.k_space.Segments.{HasRoom, Row, SegmentValue, living, made, placed}
use Rattle.k_mark.specs.k_space.Areas.{AreaValue, row_of_name, segment_at, with_row_of, with_segment}

-- the segment of that number is there and has room for one more object, which it has where fewer serials were given
pub record CanPlace (segments : List SegmentValue) (number : ℕ) : Type 0 where
  pub segment : SegmentValue
  pub there : segment_at segments number ≡ Some segment
  pub left : (made segment < segment.room) ⊎ HasRoom segment

-- the segment of that number is there, and no more than so many objects can live in it at once
pub record CanGrow (segments : List SegmentValue) (number room : ℕ) : Type 0 where
  pub segment : SegmentValue
  pub there : segment_at segments number ≡ Some segment
  pub more : segment.room ≤ room

-- the segment of that number is there, so many objects can live in it at once, and no more do
pub record CanNarrow (segments : List SegmentValue) (number room : ℕ) : Type 0 where
  pub segment : SegmentValue
  pub there : segment_at segments number ≡ Some segment
  pub less : room ≤ segment.room
  pub enough : living segment ≤ room

-- so many objects can live at once in the segment, and all else is as it was
pub record IsResized (old new : AreaValue) (number room : ℕ) : Type 0 where
  pub segment : SegmentValue
  pub there : segment_at old.segments number ≡ Some segment
  pub resized : new ≡ with_segment old number (record segment { room = room })

-- the segment has the object under its next serial, and all else is as it was
pub record IsPlacedIn (old new : AreaValue) (number : ℕ) (body : BodyValue) (link : Link) : Type 0 where
  pub segment : SegmentValue
  pub there : segment_at old.segments number ≡ Some segment
  pub begun : 0 < length segment.rows
  pub seg : link.seg.0 ≡ number
  pub serial : link.serial.0 ≡ length segment.rows
  pub placed : new ≡ with_segment old number (placed segment link.slot.0 body)

-- the object is there and its field is a reference
pub record IsRefAt (segments : List SegmentValue) (n : Name) (field : ℕ) : Type 0 where
  pub row : Row
  pub there : row_of_name segments n ≡ Some row
  pub is : HasRef row.fields field

-- the object is there and its field is an integer
pub record IsIntAt (segments : List SegmentValue) (n : Name) (field : ℕ) : Type 0 where
  pub row : Row
  pub there : row_of_name segments n ≡ Some row
  pub is : HasInt row.fields field

-- the field of the object holds the content, and all else is as it was
pub record IsWrittenIn (old new : AreaValue) (n : Name) (field : ℕ) (content : Content) : Type 0 where
  pub row : Row
  pub there : row_of_name old.segments n ≡ Some row
  pub written : new ≡ with_row_of old n (Some (record row { fields = slice_set row.fields field content }))

-- the same where the test holds, and else nothing has changed
abbrev pub IsWrittenIf : Bool → AreaValue → AreaValue → Name → ℕ → Content → Type 0
IsWrittenIf true old new n field content = IsWrittenIn old new n field content
IsWrittenIf false old new n field content = new ≡ old
