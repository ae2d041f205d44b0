-- What a snapshot reads of a trace.
use Rattle.std.proofs.Common.{◌≡◌, ℕ, List, refl}
use Rattle.k_types.specs.declared.op.Op.{Op}
use Rattle.k_types.specs.State.{State}
use Rattle.k_types.specs.Trace.{Trace}
use Rattle.k_trace.specs.Named.{DeclaredNames}
use Rattle.k_text.specs.Report.{graph_lines, roots_lines, exits_lines, shares_of_process, shares_lines, kernel_charge_line, limit_charge_line, process_charge_line, shared_charge_line, charges_lines}
use Rattle.k_audit.specs.Snapshots.{gone_lines, made_lines, snapshot_lines, snapshot_text}

-- traces that differ in their operations alone have one snapshot of a state
pub setup_alone : (names : DeclaredNames) (trace : Trace) (operations : List (List Op)) (order : List ℕ) (st : State)
    → snapshot_text names (record trace { operations = operations; order = order }) st ≡ snapshot_text names trace st
unfolding gone_lines made_lines snapshot_lines graph_lines roots_lines exits_lines shares_of_process shares_lines kernel_charge_line limit_charge_line process_charge_line shared_charge_line charges_lines
setup_alone names trace operations order st = refl
