-- What a visit of a gray object does.
use Rattle.std.specs.Prelude.{◌≡◌, ℕ, ◌<◌, ◌≤◌, IsFalse, List, length, slice_get, slice_index_or, Some}
use Rattle.k_types.specs.State.{Content}
use Rattle.k_space.specs.declared.body.Stored.{Stored}
use Rattle.k_space.specs.declared.body.Stored.TheVariants.{Null as NoTarget}
use Rattle.k_space.specs.declared.segment.Visited.{Visited}
use Rattle.k_space.specs.declared.bound.Bound.{Bound}
use Rattle.k_space.specs.Bounds.{is_covered}
use Rattle.k_space.specs.Objects.{content_of}
use Rattle.k_space.specs.Segments.{SegmentValue, Row, Black, Gray, row_at, with_row}
use Rattle.k_space.specs.Areas.{AreaValue, IsBlackened}

-- so many fields are all of these, at most 16, and the front of the list has what they hold
pub record AreHeld (fields : List Content) (count : ℕ) (list : List Stored) : Type 0 where
  pub counted : count ≡ length fields
  pub most : count ≤ 16
  pub each : (i : ℕ) → i < count → slice_get fields i ≡ Some (content_of (slice_index_or list i NoTarget))

-- that object of the segment was gray, and is black, and the front of the list has what its fields hold
pub record IsVisitedIn (old new : SegmentValue) (found : Visited) (list : List Stored) : Type 0 where
  pub row : Row
  pub number : found.name.seg.0 ≡ old.number
  pub there : row_at old found.name.serial.0 ≡ Some row
  pub was : row.color ≡ Gray
  pub now : new ≡ with_row old found.name.serial.0 (Some (record row { color = Black }))
  pub held : AreHeld row.fields found.fields list

-- the same of an object of the area
pub record IsVisited (old new : AreaValue) (found : Visited) (list : List Stored) : Type 0 where
  pub black : IsBlackened old new found.name
  pub held : AreHeld black.row.fields found.fields list

-- that object of the segment was gray, and is black, and where the bound does not cover it the front of the list has what its fields hold
pub record IsVisitedFromIn (b : Bound) (old new : SegmentValue) (found : Visited) (list : List Stored) : Type 0 where
  pub row : Row
  pub number : found.name.seg.0 ≡ old.number
  pub there : row_at old found.name.serial.0 ≡ Some row
  pub was : row.color ≡ Gray
  pub now : new ≡ with_row old found.name.serial.0 (Some (record row { color = Black }))
  pub most : found.fields ≤ 16
  pub held : IsFalse (is_covered b found.name) → AreHeld row.fields found.fields list

-- the same of an object of the area
pub record IsVisitedFrom (b : Bound) (old new : AreaValue) (found : Visited) (list : List Stored) : Type 0 where
  pub black : IsBlackened old new found.name
  pub most : found.fields ≤ 16
  pub held : IsFalse (is_covered b found.name) → AreHeld black.row.fields found.fields list
