-- A run in the order of the file has what a summary asks.
use Rattle.std.proofs.Common.{◌<◌, length, sym, subst}
use Rattle.k_types.specs.FileOrder.{file_order}
use Rattle.k_types.specs.State.{State}
use Rattle.k_types.specs.Trace.{Trace}
use Rattle.k_types.specs.TraceRules.{KeepsRules}
use Rattle.k_state.specs.Setups.{setup_of}
use Rattle.k_solo.specs.Runs.{IsFiled, Run}
use Rattle.k_big.specs.Summary.{HasSmallCharges}
use Rattle.k_big.proofs.Charges.{charges_small}

-- its charges are small
pub filed_charges : (trace : Trace) (run : Run) → KeepsRules trace → IsFiled trace run → HasSmallCharges run.machine.setup run.machine.state
filed_charges trace run rules filed =
    subst (λ (setup : Trace). HasSmallCharges setup run.machine.state) (sym filed.setup)
    (subst (λ (st : State). HasSmallCharges (setup_of trace) st) (sym filed.state) (charges_small trace (file_order trace) rules filed.legal))

-- and it has a root
pub filed_root : (trace : Trace) (run : Run) → 0 < length trace.limits → IsFiled trace run → 0 < length run.machine.setup.limits
filed_root trace run root filed = subst (λ (setup : Trace). 0 < length setup.limits) (sym filed.setup) root
