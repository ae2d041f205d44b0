use Rattle.std.proofs.Common.{◌≡◌, ◌+◌, List, Some, take, count_by}
use Rattle.k_laws.specs.k_types.State.{Content}
use Rattle.k_space.specs.Areas.{fields_at}
use Rattle.k_mark.specs.Marking.{is_ref}
use Rattle.k_mark.proofs.Traces.{TracedTo}
use Rattle.k_mark.proofs.marking.trace.Given as goal

abbrev pub invariant-loop-field : goal.invariant-loop-field
invariant-loop-field g l = record {
  traced : TracedTo l.fn.area l.fn.exits.items l.fn.found.name l.field l.area l.exits.items;
  room : l.exits.room ≡ l.fn.exits.room;
  steps : (fields : List Content) → fields_at l.fn.area l.fn.found.name ≡ Some fields → l.steps ≡ l.fn.steps + count_by is_ref (take l.field fields);
}
