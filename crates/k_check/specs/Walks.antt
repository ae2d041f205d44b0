-- How far a machine has walked along the events of a report.
use Rattle.std.specs.Prelude.{◌≡◌, List}
use Rattle.k_types.specs.declared.event.Event.{Event}
use Rattle.k_types.specs.Steps.{state_after}
use Rattle.k_trace.specs.Named.{NamedTrace}
use Rattle.k_trace.specs.Rules.{IsTrace}
use Rattle.k_reports.specs.Begun.{IsBegun}
use Rattle.k_state.specs.Machines.{Machine}
use Rattle.k_state.specs.Setups.{setup_of}

-- The trace, and the events so far.
pub record Walked : Type 0 where
  pub trace : NamedTrace
  pub history : List Event

-- The events are begun, and the machine has done them.
pub record IsWalk (w : Walked) (machine : Machine) : Type 0 where
  pub is_trace : IsTrace w.trace
  pub begun : IsBegun w.trace.trace w.history
  pub setup : machine.setup ≡ setup_of w.trace.trace
  pub state : machine.state ≡ state_after w.trace.trace w.history
