-- What look-ups of an object find, among the objects as the machine has them and in an area.
use Rattle.std.specs.Prelude.{ℕ, Bool, false, List, [], length, not, slice_get, slice_index_or, Option, Some, None}
use Rattle.k_mark.specs.k_types.declared.names.Name.{Name}
use Rattle.k_mark.specs.k_types.declared.names.TypeId.{TypeId}
use Rattle.k_mark.specs.k_types.Replies.{is_ref}
use Rattle.k_mark.specs.k_types.State.{Content, Holds, Object, fields_of, object_at}
use Rattle.k_mark.specs.k_space.Segments.{Row}

-- what the field of the object holds; the number 0 where there is no such field
abbrev pub field_among : List Object → Name → ℕ → Content
field_among objects n i = slice_index_or (fields_of (object_at objects n)) i (Holds 0)

-- the same; none where there is no such field
abbrev pub found_among : List Object → Name → ℕ → Option Content
found_among objects n i = slice_get (fields_of (object_at objects n)) i

-- the field is there, and it is a reference
abbrev pub holds_ref : Option Content → Bool
holds_ref None = false
holds_ref (Some held) = is_ref held

-- the field is there, and it is an integer
abbrev pub holds_int : Option Content → Bool
holds_int None = false
holds_int (Some held) = not (is_ref held)

-- the number of the object's fields; none where there is no such object
abbrev pub field_count_among : List Object → Name → ℕ
field_count_among objects n = length (fields_of (object_at objects n))

-- the type of an object that may be there; the directory has none
abbrev pub type_of_some : Option Object → Option TypeId
type_of_some None = None
type_of_some (Some o) = o.ty

-- the type of the object; none where it has none, or there is no such object
abbrev pub type_among : List Object → Name → Option TypeId
type_among objects n = type_of_some (object_at objects n)

-- the fields of a live object of a segment that may be there
abbrev pub row_fields : Option Row → List Content
row_fields None = []
row_fields (Some row) = row.fields

-- its type
abbrev pub row_type : Option Row → Option TypeId
row_type None = None
row_type (Some row) = row.ty
