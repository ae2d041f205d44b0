-- Room that is left after several steps.
use Rattle.std.proofs.Common.{ℕ, zero, suc, ◌+◌, ◌<◌, ◌≤◌, ◌^◌, List, [], ◌∷◌, length, replicate, get_or, arith}
use Rattle.k_types.specs.declared.event.Event.{Event}
use Rattle.k_types.specs.Effects.{step}
use Rattle.k_types.specs.State.{State, opening}
use Rattle.k_types.specs.Steps.{run, state_after}
use Rattle.k_types.specs.Trace.{Trace}
use Rattle.k_laws.proofs.Sizes.{zeros_at}
use Rattle.k_state.specs.Rooms.{HasRoom}
use Rattle.k_state.proofs.RoomLaws.{room_after_step}

-- less room
pub less_room : (m n : ℕ) (st : State) → m ≤ n → HasRoom n st → HasRoom m st
less_room m n st le room = record {
  objects = omega (arith, room.objects);
  exits = omega (arith, room.exits);
  shares = omega (arith, room.shares);
  ended = omega (arith, room.ended);
  scans = omega (arith, room.scans);
  serials = λ seg. omega (arith, room.serials seg);
  done = λ p. omega (arith, room.done p);
}

-- room after a step, by how much there was
pub step_room : (m n : ℕ) (trace : Trace) (st : State) (event : Event) → n + 1 ≤ m → HasRoom m st → HasRoom n (step trace st event)
step_room m n trace st event le room = room_after_step n trace st event (less_room (1 + n) m st (omega arith) room)

-- room after a run
pub run_room : (n : ℕ) (trace : Trace) (st : State) (events : List Event) → HasRoom (length events + n) st → HasRoom n (run trace st events)
run_room n trace st [] room = less_room n (0 + n) st (omega arith) room
run_room n trace st (event ∷ events) room =
    run_room n trace (step trace st event) events (step_room (length (event ∷ events) + n) (length events + n) trace st event (omega arith) room)

-- the opening state has room for all the steps that a trace can have
pub opening_room : (n : ℕ) (trace : Trace) → n + 1 < 2 ^ 32 → HasRoom n (opening trace)
opening_room n trace few = record {
  objects = omega arith;
  exits = omega arith;
  shares = omega arith;
  ended = omega arith;
  scans = omega arith;
  serials = λ seg. made seg;
  done = λ p. omega (arith, zeros_at (length trace.procs) p);
}
  where
    made : (seg : ℕ) → n + get_or (1 ∷ replicate (length trace.procs + trace.shared_heaps) 0) seg 0 < 2 ^ 32
    made zero = omega arith
    made (suc seg) = omega (arith, zeros_at (length trace.procs + trace.shared_heaps) seg)

-- and so has the state after a history
pub history_room : (n : ℕ) (trace : Trace) (history : List Event) → length history + n + 1 < 2 ^ 32 → HasRoom n (state_after trace history)
history_room n trace history few = run_room n trace (opening trace) history (opening_room (length history + n) trace (omega arith))
