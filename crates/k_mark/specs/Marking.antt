-- What marking does to an area and the exit items.
use Rattle.std.specs.Prelude.{◌≡◌, ℕ, ◌+◌, Bool, true, false, List, [], ◌∷◌, map, count_by, IsTrue, Option, Some, None, is_some, if◌then◌else◌}
use Rattle.std.specs.List.{list_any}
use Rattle.k_laws.specs.k_types.declared.names.Name.{Name}
use Rattle.k_laws.specs.k_types.State.{Content, Object, Refers, Holds, content_leads_to, has, refers_in}
use Rattle.k_space.specs.Segments.{Row, is_marked}
use Rattle.k_space.specs.Areas.{AreaValue, fields_at, is_foreign, gray_at, grayed, rows_total}
use Rattle.k_exit.specs.Exits.{ExitRow, marked_if}
use Rattle.k_mark.specs.Reached.{IsReached}

-- some field is a reference to that object
abbrev pub fields_lead_to : List Content → Name → Bool
fields_lead_to fields n = list_any (content_leads_to n) fields

-- there is an object, and one of its fields is a reference to that name
abbrev pub some_lead_to : Option (List Content) → Name → Bool
some_lead_to None n = false
some_lead_to (Some fields) n = fields_lead_to fields n

-- the area has that object
abbrev pub lives_at : AreaValue → Name → Bool
lives_at a n = is_some (fields_at a n)

-- the object of the area refers to that name
abbrev pub refers_at : AreaValue → Name → Name → Bool
refers_at a n m = some_lead_to (fields_at a n) m

-- reached from the gray objects by references inside the area
abbrev pub IsReachedIn : AreaValue → Name → Type 0
IsReachedIn a n = IsReached (lives_at a) (refers_at a) (gray_at a) n

-- a reached object refers to that name, which lies in no segment of the area
pub record IsExit (a : AreaValue) (t : Name) : Type 0 where
  pub from : Name
  pub reached : IsReachedIn a from
  pub refers : IsTrue (refers_at a from t)
  pub foreign : IsTrue (is_foreign a t)

-- the area and the exit items, while marking looks at fields
pub record Marks : Type 0 where
  pub area : AreaValue
  pub exits : List ExitRow

-- a name that was looked at: its exit item is marked where it is foreign, else its object is gray
abbrev pub looked_by : Bool → Marks → Name → Marks
looked_by true m n = record m { exits = map (marked_if n) m.exits }
looked_by false m n = record m { area = grayed m.area n }

-- after a look at one field: what it refers to is gray, or its exit item marked
abbrev pub looked : Marks → Content → Marks
looked m (Refers None) = m
looked m (Refers (Some n)) = looked_by (is_foreign m.area n) m n
looked m (Holds number) = m

-- after a look at each of these fields
abbrev pub looked_all : List Content → Marks → Marks
looked_all [] m = m
looked_all (c ∷ cs) m = looked_all cs (looked m c)

-- the field is a reference
abbrev pub is_ref : Content → Bool
is_ref (Refers r) = true
is_ref (Holds number) = false

-- what a marked object costs: one step, and one for each reference field
abbrev pub row_work : Option Row → ℕ
row_work None = 0
row_work (Some row) = if is_marked row.color then count_by is_ref row.fields + 1 else 0

-- the marked objects and their reference fields
abbrev pub work : AreaValue → ℕ
work a = rows_total row_work a

-- the area has the objects of these names, which refer as they do
pub record ShowsObjects (a : AreaValue) (pool : List Object) : Type 0 where
  pub lives : (n : Name) → has pool n ≡ lives_at a n
  pub refers : (n m : Name) → refers_in pool n m ≡ refers_at a n m
