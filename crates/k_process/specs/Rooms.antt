-- What is left of the rooms that the trace gives.
use Rattle.std.specs.Prelude.{ℕ, ◌+◌, ◌<◌, List, length, slice_index_or, IsTrue, if◌then◌else◌}
use Rattle.std.specs.List.{list_any}
use Rattle.k_types.specs.declared.event.Event.{Event}
use Rattle.k_types.specs.declared.op.Op.{Op}
use Rattle.k_types.specs.Owners.{user}
use Rattle.k_types.specs.Steps.{state_after}
use Rattle.k_types.specs.Trace.{Trace, operations_of}
use Rattle.k_laws.specs.Counts.{allocates_in, exit_count, is_share_of, is_store, stores_in}
use Rattle.k_commit.specs.k_agree.Rooms.{event_room, exit_room, over_processes, serial_room}

-- the history leaves room for the operation that the process does next: for its event and one more, for an exit item if it is a
-- store, and for a serial in the segment in which it allocates
pub record HasRoomLeft (trace : Trace) (history : List Event) (p : ℕ) (op : Op) : Type 0 where
  pub events : length history + 1 < event_room trace
  pub exits : IsTrue (is_store op) → length (state_after trace history).exits < exit_room trace
  pub own_exits : IsTrue (is_store op) → exit_count (state_after trace history).exits (user p) < stores_in (operations_of trace p)
  pub serials : (seg : ℕ) → IsTrue (allocates_in trace seg p op) → slice_index_or (state_after trace history).made seg 0 < serial_room trace seg

-- room for the exit items of a shared heap: one for each store of the processes that may make it, and one more, for a store that is
-- refused once the heap is frozen
abbrev pub shared_exit_room : Trace → ℕ → ℕ
shared_exit_room trace s =
    1 + over_processes trace (λ p. if list_any (is_share_of s) (operations_of trace p) then stores_in (operations_of trace p) else 0)
