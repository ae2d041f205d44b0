-- The names of the objects that a sweep frees.
use Rattle.std.specs.Prelude.{◌≡◌, ℕ, ◌+◌, ◌==◌, List, length, if◌then◌else◌}
use Rattle.std.specs.List.{sum_by}
use Rattle.k_laws.specs.k_types.declared.names.Name.{Name}
use Rattle.k_laws.specs.k_types.Names.{name_eq}
use Rattle.k_space.specs.Segments.{SegmentValue, row_at}
use Rattle.k_space.specs.Areas.{AreaValue, row_of_name}
use Rattle.k_mark.specs.Sweeping.{dead_row}

-- the names of objects that were freed, and how many there is room for
pub record FreedNames : Type 0 where
  pub names : List Name
  pub room : ℕ

-- how often the name stands among these
abbrev pub times : Name → List Name → ℕ
times n names = sum_by (λ m. if name_eq m n then 1 else 0) names

-- 1 for an object of the segment with that name that isn't marked
abbrev pub dead_in : SegmentValue → Name → ℕ
dead_in s n = if s.number == n.seg.0 then dead_row (row_at s n.serial.0) else 0

-- 1 for an object of that name that isn't marked
abbrev pub dead_at : AreaValue → Name → ℕ
dead_at a n = dead_row (row_of_name a.segments n)

-- so many names came to those that were there, each so often
pub record AreTold (each : Name → ℕ) (count : ℕ) (old new : List Name) : Type 0 where
  pub more : length new ≡ length old + count
  pub each_is : (n : Name) → times n new ≡ times n old + each n
