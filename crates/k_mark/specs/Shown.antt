-- The objects that an area shows, as the machine has them.
use Rattle.std.specs.Prelude.{◌≡◌, ◌≢◌, ℕ, zero, suc, ◌<◌, ◌≤◌, Bool, false, List, [], ◌++◌, Option, Some, None}
use Rattle.std.specs.List.{list_any}
use Rattle.k_laws.specs.k_types.declared.names.Name.{Name}
use Rattle.k_laws.specs.k_types.State.{Object, content_leads_to}
use Rattle.k_space.specs.Segments.{Row, SegmentValue, segment_objects}
use Rattle.k_space.specs.Areas.{segment_at, HasDistinct}

-- the name of a serial of the segment
abbrev pub name_in : SegmentValue → ℕ → Name
name_in s serial = record { seg = record { 0 = s.number }; serial = record { 0 = serial } }

-- the live objects of the segment, if there is one
abbrev pub objects_of_some : Option SegmentValue → List Object
objects_of_some None = []
objects_of_some (Some s) = segment_objects s

-- the live objects of the segments with a number below n, by rising number and serial
abbrev pub area_objects : ℕ → List SegmentValue → List Object
area_objects zero segments = []
area_objects (suc n) segments = area_objects n segments ++ objects_of_some (segment_at segments n)

-- no segment has a number from that one on
abbrev pub HasNoneFrom : List SegmentValue → ℕ → Type 0
HasNoneFrom segments bound = (number : ℕ) → bound ≤ number → segment_at segments number ≡ None

-- the segments have different numbers, all of them below the bound
pub record AreNumberedBelow (bound : ℕ) (segments : List SegmentValue) : Type 0 where
  pub distinct : HasDistinct segments
  pub none : HasNoneFrom segments bound

-- that segment, whose number is below the bound, is taken out, and no other
pub record IsTakenOut (bound : ℕ) (old new : List SegmentValue) (s : SegmentValue) : Type 0 where
  pub below : s.number < bound
  pub there : segment_at old s.number ≡ Some s
  pub gone : segment_at new s.number ≡ None
  pub others : (number : ℕ) → number ≢ s.number → segment_at new number ≡ segment_at old number

-- the object refers to that name
abbrev pub some_refers : Option Row → Name → Bool
some_refers None m = false
some_refers (Some row) m = list_any (content_leads_to m) row.fields
