-- Types: the kinds of the fields of their objects, and what these take.
use Rattle.std.specs.Prelude.{ℕ, ◌+◌, ◌*◌, ◌≤◌, List, [], length, slice_index_or}
use Rattle.k_types.specs.declared.names.Field.{Field}
use Rattle.k_types.specs.declared.names.TypeId.{TypeId}
use Rattle.k_types.specs.Bounds.{most_fields}

-- the bytes of an object of so many fields
abbrev pub object_size : ℕ → ℕ
object_size fields = 16 + 8 * fields

-- the kinds of the fields of the type
abbrev pub type_row : List (List Field) → TypeId → List Field
type_row types ty = slice_index_or types ty.0 []

-- no type has more fields than a trace may give it
abbrev pub HaveFewFields : List (List Field) → Type 0
HaveFewFields types = (ty : TypeId) → length (type_row types ty) ≤ most_fields
