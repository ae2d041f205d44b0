-- What an area ends as, where one of its segments is lent.
use Rattle.std.specs.Prelude.{ℕ, Option}
use Rattle.std.specs.Borrow.{LendsIf, Fml, MutBor}
use Rattle.k_space.specs.Segments.{SegmentValue}
use Rattle.k_space.specs.Areas.{AreaValue, with_segment}
use Rattle.k_space.specs.contracts.area.Area.{the_row as area_row}
use Rattle.k_space.specs.contracts.segment.Segment.{the_row as segment_row}

-- the area lent ends with that segment as it is given back, and all else as it was
abbrev pub lends_segment : MutBor AreaValue → ℕ → Option (MutBor SegmentValue) → Fml
lends_segment a number r = LendsIf area_row segment_row a r (with_segment a.now number) a.now
