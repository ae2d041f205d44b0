use Rattle.std.proofs.Common.{◌≡◌, ◌≤◌, map, take, vec_capacity}
use Rattle.k_space.specs.Objects.{content_of}
use Rattle.k_types.specs.State.{fresh}
use Rattle.k_types.specs.Types.{type_row}
use Rattle.k_space.proofs.body.Body.make.Given as goal

abbrev pub invariant-loop-i : goal.invariant-loop-i
invariant-loop-i l = record {
  made : map content_of l.fields.items ≡ map fresh (take l.i (type_row l.fn.types l.fn.ty));
  room : l.count ≤ vec_capacity l.fields;
}
