-- What sweeping frees.
use Rattle.std.specs.Prelude.{ℕ, map, length, Option, Some, None, if◌then◌else◌}
use Rattle.k_laws.specs.k_types.Types.{object_size}
use Rattle.k_space.specs.Segments.{Row, SegmentValue, is_marked}
use Rattle.k_space.specs.Areas.{AreaValue, rows_total}

-- the object where it is marked
abbrev pub survivor : Option Row → Option Row
survivor None = None
survivor (Some row) = if is_marked row.color then Some row else None

-- the segment without the objects that aren't marked
abbrev pub swept_segment : SegmentValue → SegmentValue
swept_segment s = record s { rows = map survivor s.rows }

-- the area without the objects that aren't marked
abbrev pub swept : AreaValue → AreaValue
swept a = record a { segments = map swept_segment a.segments }

-- 1 for an object that isn't marked
abbrev pub dead_row : Option Row → ℕ
dead_row None = 0
dead_row (Some row) = if is_marked row.color then 0 else 1

-- the bytes of an object that isn't marked
abbrev pub dead_bytes_of : Option Row → ℕ
dead_bytes_of None = 0
dead_bytes_of (Some row) = if is_marked row.color then 0 else object_size (length row.fields)

-- how many objects aren't marked
abbrev pub dead_objects : AreaValue → ℕ
dead_objects a = rows_total dead_row a

-- and their bytes
abbrev pub dead_bytes : AreaValue → ℕ
dead_bytes a = rows_total dead_bytes_of a
