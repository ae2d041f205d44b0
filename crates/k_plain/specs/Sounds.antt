-- Sound states of the plain machine.
use Rattle.k_types.specs.TraceRules.{AreLimits}
use Rattle.k_types.specs.Sound.{IsSound}
use Rattle.k_scan.specs.k_state.Machines.{Machine}

-- the limits keep their rules, and the state is sound
pub record IsSoundMachine (machine : Machine) : Type 0 where
  pub limits : AreLimits machine.setup
  pub sound : IsSound machine.setup machine.state
