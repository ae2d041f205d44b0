use Rattle.std.proofs.Common.{◌≡◌, take}
use Rattle.std.specs.Prelude.{count_by}
use Rattle.k_text.specs.Report.{is_fault_of}
use Rattle.k_report.proofs.faults.count_faults.Given as goal

abbrev pub invariant-loop-i : goal.invariant-loop-i
invariant-loop-i g l = l.count ≡ count_by (is_fault_of l.pid.0) (take l.i (g.V.View.events l.view))
