-- What an object holds, and what a contract sees of a body.
use Rattle.std.specs.Prelude.{◌≡◌, ℕ, List, map, replicate, slice_get, Option, Some, None}
use Rattle.k_types.specs.declared.names.Name.{Name}
use Rattle.k_types.specs.declared.names.TypeId.{TypeId}
use Rattle.k_types.specs.declared.names.Field.{Field}
use Rattle.k_types.specs.Types.{type_row}
use Rattle.k_types.specs.State.{Content, Refers, Holds, fresh}
use Rattle.k_space.specs.declared.body.Stored.{Stored}
use Rattle.k_space.specs.declared.body.Stored.TheVariants.{Null as StoredNull, Refers as StoredRef, Holds as StoredInt}

-- the content of one object; the directory has no type
pub record BodyValue : Type 0 where
  pub ty : Option TypeId
  pub fields : List Content

-- a new object of a type
abbrev pub new_body : List (List Field) → TypeId → BodyValue
new_body types ty = record { ty = Some ty; fields = map fresh (type_row types ty) }

-- a new directory with so many fields
abbrev pub new_directory : ℕ → BodyValue
new_directory fields = record { ty = None; fields = replicate fields (Refers None) }

-- a field as the machine sees it
abbrev pub content_of : Stored → Content
content_of StoredNull = Refers None
content_of (StoredRef target) = Refers (Some target.name)
content_of (StoredInt n) = Holds n

-- the field is there, and it is a reference
pub record HasRef (fields : List Content) (field : ℕ) : Type 0 where
  pub target : Option Name
  pub is : slice_get fields field ≡ Some (Refers target)

-- the field is there, and it is an integer
pub record HasInt (fields : List Content) (field : ℕ) : Type 0 where
  pub number : ℕ
  pub is : slice_get fields field ≡ Some (Holds number)
