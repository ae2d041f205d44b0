-- Where the segments of an area may stand. No public clause cites this file.
use Rattle.std.specs.Prelude.{◌≡◌, ℕ, ◌<◌, List, length, map, slice_get, slice_index_or, Some}
use Rattle.k_space.specs.Segments.{SegmentValue}

-- the numbers of the segments
abbrev pub numbers : List SegmentValue → List ℕ
numbers segments = map (λ s. s.number) segments

-- the hint of each number that a segment has leads to one
abbrev pub AreExact : List ℕ → List ℕ → Type 0
AreExact numbers hints = (i number : ℕ) → slice_get numbers i ≡ Some number → number < length hints → slice_get numbers (slice_index_or hints number 0) ≡ Some number
