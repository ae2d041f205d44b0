-- The bodies that operations need.
use Rattle.std.specs.Prelude.{List, map, Option, Some, None}
use Rattle.std.specs.List.{filter_map}
use Rattle.k_types.specs.declared.names.TypeId.{TypeId}
use Rattle.k_types.specs.declared.names.Field.{Field}
use Rattle.k_types.specs.declared.op.Op.{Op}
use Rattle.k_types.specs.declared.op.Op.TheVariants.{New, KNew, SNew}
use Rattle.k_space.specs.Objects.{BodyValue, new_body}

-- The type of the object that the operation makes.
abbrev pub type_made : Op → Option TypeId
type_made (New r ty) = Some ty
type_made (KNew r ty) = Some ty
type_made (SNew r s ty) = Some ty
type_made _ = None

-- A new body for each operation that makes an object, in their order.
abbrev pub bodies_of : List (List Field) → List Op → List BodyValue
bodies_of types ops = map (new_body types) (filter_map type_made ops)
