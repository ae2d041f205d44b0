use Rattle.std.proofs.Common.{◌∷◌, [], map, codes}
use Rattle.k_report.proofs.LineLemmas.{part_first, part_last, part_failed_first, part_missing}
use Rattle.k_types.specs.Numbers.{numbers_below}
use Rattle.k_types.specs.Trace.{process_count}
use Rattle.k_text.specs.Report.{faults_lines, fault_line}
use Rattle.k_report.proofs.faults.faults.Goals as goal

pub returns-in_err-heading-clause-written : goal.returns-in_err-heading-clause-written
unfolding faults_lines
returns-in_err-heading-clause-written g c =
    part_missing _ _ _ _ c.from_residual.result ((codes "faults" ∷ []) ∷ []) (map (fault_line c.args.names.now (g.V.View.events c.args.view.now)) (numbers_below (process_count (g.V.View.trace c.args.view.now)))) c.from_residual.ensures.0
    (part_failed_first _ _ _ _ c.from_residual.result _ ((codes "faults" ∷ []) ∷ []) c.from_residual.ensures.0 c.in_err-heading.ensures.written)

pub returns-clause-written : goal.returns-clause-written
unfolding faults_lines
returns-clause-written g c =
    part_last _ _ _ _ _ _ _ ((codes "faults" ∷ []) ∷ []) (map (fault_line c.args.names.now (g.V.View.events c.args.view.now)) (numbers_below (process_count (g.V.View.trace c.args.view.now)))) (part_first _ _ _ _ _ ((codes "faults" ∷ []) ∷ []) c.in_ok-heading.ensures.written) c.all_faults.ensures.written
