use Rattle.std.proofs.Common.{◌≡◌, ◌++◌, map, take}
use Rattle.k_laws.specs.Counts.{stores_in}
use Rattle.k_trace.specs.Meaning.{meaning_of}
use Rattle.k_opening.proofs.reporting.add_processes.Given as goal

abbrev pub invariant-loop-ops : goal.invariant-loop-ops
invariant-loop-ops l = l.rooms ≡ l.fn.rooms ++ map stores_in (take l.ops-index (meaning_of l.trace).trace.operations)
