-- The bytes of all objects, by the events of the history.
use Rattle.std.proofs.Common.{◌+◌, ◌*◌, ◌≤◌, List, length, arith}
use Rattle.k_types.specs.declared.event.Event.{Event}
use Rattle.k_types.specs.Owners.{object_bytes}
use Rattle.k_types.specs.Steps.{IsLegalHistory, state_after}
use Rattle.k_types.specs.Totals.{total}
use Rattle.k_types.specs.Trace.{Trace}
use Rattle.k_types.specs.TraceRules.{KeepsRules}
use Rattle.k_laws.specs.Counts.{has_allocated}
use Rattle.k_laws.proofs.Counting.{count_low}
use Rattle.k_laws.proofs.BoundsLaws.{objects_are_at_most_the_allocations}
use Rattle.k_laws.proofs.Fitting.{objects_bounded}

-- each event makes at most one object, of at most 144 bytes
pub objects_weigh : (trace : Trace) (history : List Event) → KeepsRules trace → IsLegalHistory trace history → total object_bytes (state_after trace history).objects ≤ 144 * (1 + length history)
objects_weigh trace history keeps legal =
    let fit = objects_bounded trace history keeps.limits (record { types = keeps.fields; directory = keeps.directory }) legal in
    let objects = objects_are_at_most_the_allocations trace history in
    let events = count_low has_allocated history in
    let bytes = fit.bytes in
    omega (arith, bytes, objects, events)
