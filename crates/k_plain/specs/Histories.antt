-- What a history has done for a process.
use Rattle.std.specs.Prelude.{List, [], ◌∷◌, Option, Some, None}
use Rattle.k_types.specs.declared.op.Op.{Op}

-- the operation, where there is one
abbrev pub one_operation : Option Op → List Op
one_operation None = []
one_operation (Some op) = op ∷ []
