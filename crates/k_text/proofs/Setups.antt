-- What a report reads of a trace.
use Rattle.std.proofs.Common.{◌≡◌, ℕ, List, refl}
use Rattle.k_types.specs.declared.event.Event.{Event}
use Rattle.k_types.specs.declared.op.Op.{Op}
use Rattle.k_types.specs.State.{State}
use Rattle.k_types.specs.Trace.{Trace}
use Rattle.k_trace.specs.Named.{DeclaredNames}
use Rattle.k_text.specs.Report.{text_over, report_lines, graph_lines, roots_lines, exits_lines, shares_of_process, shares_lines, faults_lines, kernel_charge_line, limit_charge_line, process_charge_line, shared_charge_line, charges_lines}

-- traces that differ in their operations alone have one report of a history
pub setup_alone : (names : DeclaredNames) (trace : Trace) (operations : List (List Op)) (order : List ℕ) (history : List Event) (st : State)
    → text_over names (record trace { operations = operations; order = order }) history st ≡ text_over names trace history st
unfolding report_lines graph_lines roots_lines exits_lines shares_of_process shares_lines faults_lines kernel_charge_line limit_charge_line process_charge_line shared_charge_line charges_lines
setup_alone names trace operations order history st = refl
