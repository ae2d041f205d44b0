-- The machine on one thread beside a host.
use Rattle.std.specs.Prelude.{◌≡◌, ◌⊎◌, ℕ, ◌+◌, ◌≤◌, List, [], length}
use Rattle.k_types.specs.declared.event.Event.{Event}
use Rattle.k_types.specs.Effects.{step}
use Rattle.k_types.specs.State.{opening}
use Rattle.k_types.specs.Steps.{IsPossible, state_after}
use Rattle.k_types.specs.Trace.{Trace}
use Rattle.k_state.specs.Machines.{Machine}

-- a machine, and how many events it has taken
pub record TwinValue : Type 0 where
  pub machine : Machine
  pub taken : ℕ

-- the machine has taken a history of so many events, and there is an end to them
pub record HasTaken (machine : Machine) (taken : ℕ) : Type 0 where
  pub history : List Event
  pub state : machine.state ≡ state_after machine.setup history
  pub count : length history ≡ taken
  pub few : taken ≤ 1000000

-- the trace without its operations
abbrev pub without_operations : Trace → Trace
without_operations trace = record trace { operations = []; order = [] }

-- the machine before the first event, for what the trace declares
abbrev pub first_twin : Trace → TwinValue
first_twin trace = record { machine = record { setup = without_operations trace; state = opening (without_operations trace) }; taken = 0 }

-- the event is a step of the machine, which has taken it
pub record TakesEvent (old new : TwinValue) (event : Event) : Type 0 where
  pub possible : IsPossible old.machine.setup old.machine.state event
  pub setup : new.machine.setup ≡ old.machine.setup
  pub stepped : new.machine.state ≡ step old.machine.setup old.machine.state event
  pub taken : new.taken ≡ old.taken + 1

-- nothing has changed, since the event is no step of the machine or the machine has taken as many as it can
pub record RefusesEvent (old new : TwinValue) (event : Event) : Type 0 where
  pub same : new ≡ old
  pub cause : (¬ (IsPossible old.machine.setup old.machine.state event)) ⊎ (1000000 ≤ old.taken)
