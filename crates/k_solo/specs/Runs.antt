-- A machine with the events that led to its state.
use Rattle.std.specs.Prelude.{◌≡◌, ℕ, ◌<◌, ◌^◌, List, [], length, slice_index_or}
use Rattle.std.specs.List.{AllByRecursion}
use Rattle.k_types.specs.declared.event.Event.{Event}
use Rattle.k_types.specs.declared.names.Name.{Name}
use Rattle.k_types.specs.Trace.{Trace, segment_count}
use Rattle.k_types.specs.Steps.{IsLegalHistory, state_after}
use Rattle.k_types.specs.Complete.{IsComplete}
use Rattle.k_types.specs.FileOrder.{file_order}
use Rattle.k_types.specs.Known.{IsKnownEvent}
use Rattle.k_text.specs.Shown.{exits_of}
use Rattle.k_laws.specs.Setups.{setup_of}
use Rattle.k_text.specs.Heaps.{heap_at}
use Rattle.k_state.specs.Machines.{Machine}
use Rattle.k_plain.specs.Sounds.{IsSoundMachine}

-- a machine and events
pub record Run : Type 0 where
  pub machine : Machine
  pub events : List Event

-- the state is sound, and the events name what the setup declares and are fewer than the numbers of 32 bits
pub record IsShown (run : Run) : Type 0 where
  pub machine : IsSoundMachine run.machine
  pub known : AllByRecursion (IsKnownEvent run.machine.setup) run.events
  pub few : length run.events < 2 ^ 32

-- the targets of the exit items of each heap in order, by the segments with which the heaps begin
pub record AreTargets (machine : Machine) (targets : List (List Name)) : Type 0 where
  pub sized : length targets ≡ segment_count machine.setup
  pub each : (seg : ℕ) → seg < segment_count machine.setup → slice_index_or targets seg [] ≡ exits_of machine.state.exits (heap_at machine.setup seg)

-- the run can be shown, and the targets beside it are its own
pub record IsArranged (run : Run) (targets : List (List Name)) : Type 0 where
  pub shown : IsShown run
  pub ordered : AreTargets run.machine targets

-- the run has the trace's setup, the events of its file order, which are legal and complete, and the state that they leave
pub record IsFiled (trace : Trace) (end : Run) : Type 0 where
  pub setup : end.machine.setup ≡ setup_of trace
  pub events : end.events ≡ file_order trace
  pub state : end.machine.state ≡ state_after trace (file_order trace)
  pub legal : IsLegalHistory trace (file_order trace)
  pub complete : IsComplete trace (file_order trace)
