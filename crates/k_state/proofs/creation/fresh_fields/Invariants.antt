use Rattle.std.proofs.Common.{◌≡◌, map, take}
use Rattle.k_types.specs.State.{fresh}
use Rattle.k_types.specs.Types.{type_row}
use Rattle.k_state.specs.Contents.{content}
use Rattle.k_state.proofs.creation.fresh_fields.Given as goal

abbrev pub invariant-loop-i : goal.invariant-loop-i
invariant-loop-i l = map content l.fields.items ≡ map fresh (take l.i (type_row l.types l.ty))
