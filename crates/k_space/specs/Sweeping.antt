-- What sweeping frees.
use Rattle.std.specs.Prelude.{◌≡◌, Some, None, length}
use Rattle.k_types.specs.Types.{object_size}
use Rattle.k_space.specs.declared.segment.Gone.{Gone}
use Rattle.k_space.specs.Segments.{SegmentValue, Row, White, row_at, with_row}

-- that object was live and not marked, and now it alone is gone
pub record IsTakenAway (old new : SegmentValue) (gone : Gone) : Type 0 where
  pub row : Row
  pub there : row_at old gone.serial.0 ≡ Some row
  pub slot : row.slot ≡ gone.slot.0
  pub unmarked : row.color ≡ White
  pub bytes : gone.bytes ≡ object_size (length row.fields)
  pub freed : new ≡ with_row old gone.serial.0 None
