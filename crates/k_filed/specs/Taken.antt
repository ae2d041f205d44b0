-- Events that a machine has taken, one after the other.
use Rattle.std.specs.Prelude.{◌≡◌, List, [], ◌++◌, if◌then◌else◌}
use Rattle.k_types.specs.declared.op.Op.{Op}
use Rattle.k_types.specs.declared.event.Event.{Event}
use Rattle.k_types.specs.FileOrder.{absorptions}
use Rattle.k_types.specs.State.{State}
use Rattle.k_types.specs.Steps.{run, waits_for_orphans}
use Rattle.k_types.specs.Trace.{Trace}
use Rattle.k_state.specs.Machines.{Machine}

-- the machine has taken these events from the state before, and the journal has them at its end
pub record HasTaken (before after : Machine) (old new taken : List Event) : Type 0 where
  pub setup : after.setup ≡ before.setup
  pub state : after.state ≡ run before.setup before.state taken
  pub journal : new ≡ old ++ taken

-- the absorptions for which the operation waits
abbrev pub first_events : Trace → State → Op → List Event
first_events trace st op = if waits_for_orphans op then absorptions trace st else []
