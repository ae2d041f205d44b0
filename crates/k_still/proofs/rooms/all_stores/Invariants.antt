use Rattle.std.proofs.Common.{◌≡◌, take}
use Rattle.k_laws.specs.Counts.{stores_in}
use Rattle.k_types.specs.Totals.{total}
use Rattle.k_trace.specs.Meaning.{meaning_of}
use Rattle.k_still.proofs.rooms.all_stores.Given as goal

abbrev pub invariant-loop-ops : goal.invariant-loop-ops
invariant-loop-ops l = l.stores ≡ total stores_in (take l.ops-index (meaning_of l.trace).trace.operations)
