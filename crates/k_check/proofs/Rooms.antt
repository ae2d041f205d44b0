-- How long a history that is begun can be.
use Rattle.std.proofs.Common.{◌≤◌, List, length, arith, subst, sym}
use Rattle.k_types.specs.declared.event.Event.{Event}
use Rattle.k_types.specs.Steps.{state_after}
use Rattle.k_types.specs.Trace.{Trace}
use Rattle.k_types.specs.TraceRules.{KeepsRules}
use Rattle.k_laws.proofs.BoundsLaws.{histories_are_short}
use Rattle.k_laws.proofs.KnownLaws.{histories_do_the_operations_of_the_trace}
use Rattle.k_reports.specs.Begun.{IsBegun}
use Rattle.k_state.specs.Rooms.{HasRoom}
use Rattle.k_state.specs.Machines.{Machine}
use Rattle.k_solo.proofs.Rooms.{history_room}
use Rattle.k_check.specs.Walks.{IsWalk, Walked}

-- A history that is begun is short.
pub few_events : (trace : Trace) (history : List Event) → KeepsRules trace → IsBegun trace history → length history ≤ 400066
few_events trace history rules begun =
    let short = histories_are_short trace history rules.limits begun.legal in
    let done = histories_do_the_operations_of_the_trace trace history rules.operations begun.legal begun.in_order in
    omega (arith, short, done, rules.operations.room, rules.shared)

-- There is room for one event more.
pub room_for_one : (trace : Trace) (history : List Event) → KeepsRules trace → IsBegun trace history → HasRoom 1 (state_after trace history)
room_for_one trace history rules begun = let few = few_events trace history rules begun in history_room 1 trace history (omega (arith, few))

-- And so there is in a machine that walks along it.
pub room_here : (w : Walked) (m : Machine) → IsWalk w m → HasRoom 1 m.state
room_here w m walk = subst (HasRoom 1) (sym walk.state) (room_for_one w.trace.trace w.history walk.is_trace.rules walk.begun)
