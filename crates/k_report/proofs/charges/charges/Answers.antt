use Rattle.std.proofs.Common.{◌++◌, ◌∷◌, [], map, length, codes}
use Rattle.k_report.proofs.LineLemmas.{part_first, part_then, part_last, part_failed_first, part_failed, part_missing}
use Rattle.k_types.specs.Numbers.{numbers_below}
use Rattle.k_types.specs.Trace.{process_count}
use Rattle.k_text.specs.Report.{charges_lines, kernel_charge_line, limit_charge_line, process_charge_line, shared_charge_line}
use Rattle.k_report.proofs.charges.charges.Goals as goal

pub returns-in_err-heading-clause-written : goal.returns-in_err-heading-clause-written
unfolding charges_lines
returns-in_err-heading-clause-written g c =
    part_missing _ _ _ _ c.from_residual.result (((((codes "charges" ∷ []) ∷ [] ++ kernel_charge_line (g.V.View.trace c.args.view.now) (g.V.View.state c.args.view.now) ∷ []) ++ map (limit_charge_line c.args.names.now (g.V.View.trace c.args.view.now) (g.V.View.state c.args.view.now)) (numbers_below (length (g.V.View.trace c.args.view.now).limits))) ++ map (process_charge_line c.args.names.now (g.V.View.trace c.args.view.now) (g.V.View.state c.args.view.now)) (numbers_below (process_count (g.V.View.trace c.args.view.now))))) (map (shared_charge_line c.args.names.now (g.V.View.trace c.args.view.now) (g.V.View.state c.args.view.now)) (numbers_below (g.V.View.trace c.args.view.now).shared_heaps)) c.from_residual.ensures.0
    (part_missing _ _ _ _ c.from_residual.result ((((codes "charges" ∷ []) ∷ [] ++ kernel_charge_line (g.V.View.trace c.args.view.now) (g.V.View.state c.args.view.now) ∷ []) ++ map (limit_charge_line c.args.names.now (g.V.View.trace c.args.view.now) (g.V.View.state c.args.view.now)) (numbers_below (length (g.V.View.trace c.args.view.now).limits)))) (map (process_charge_line c.args.names.now (g.V.View.trace c.args.view.now) (g.V.View.state c.args.view.now)) (numbers_below (process_count (g.V.View.trace c.args.view.now)))) c.from_residual.ensures.0
    (part_missing _ _ _ _ c.from_residual.result (((codes "charges" ∷ []) ∷ [] ++ kernel_charge_line (g.V.View.trace c.args.view.now) (g.V.View.state c.args.view.now) ∷ [])) (map (limit_charge_line c.args.names.now (g.V.View.trace c.args.view.now) (g.V.View.state c.args.view.now)) (numbers_below (length (g.V.View.trace c.args.view.now).limits))) c.from_residual.ensures.0
    (part_missing _ _ _ _ c.from_residual.result ((codes "charges" ∷ []) ∷ []) (kernel_charge_line (g.V.View.trace c.args.view.now) (g.V.View.state c.args.view.now) ∷ []) c.from_residual.ensures.0
    (part_failed_first _ _ _ _ c.from_residual.result _ ((codes "charges" ∷ []) ∷ []) c.from_residual.ensures.0 c.in_err-heading.ensures.written))))

pub returns-in_err-put_kernel-clause-written : goal.returns-in_err-put_kernel-clause-written
unfolding charges_lines
returns-in_err-put_kernel-clause-written g c =
    part_missing _ _ _ _ c.from_residual-in_err-put_kernel.result (((((codes "charges" ∷ []) ∷ [] ++ kernel_charge_line (g.V.View.trace c.args.view.now) (g.V.View.state c.args.view.now) ∷ []) ++ map (limit_charge_line c.args.names.now (g.V.View.trace c.args.view.now) (g.V.View.state c.args.view.now)) (numbers_below (length (g.V.View.trace c.args.view.now).limits))) ++ map (process_charge_line c.args.names.now (g.V.View.trace c.args.view.now) (g.V.View.state c.args.view.now)) (numbers_below (process_count (g.V.View.trace c.args.view.now))))) (map (shared_charge_line c.args.names.now (g.V.View.trace c.args.view.now) (g.V.View.state c.args.view.now)) (numbers_below (g.V.View.trace c.args.view.now).shared_heaps)) c.from_residual-in_err-put_kernel.ensures.0
    (part_missing _ _ _ _ c.from_residual-in_err-put_kernel.result ((((codes "charges" ∷ []) ∷ [] ++ kernel_charge_line (g.V.View.trace c.args.view.now) (g.V.View.state c.args.view.now) ∷ []) ++ map (limit_charge_line c.args.names.now (g.V.View.trace c.args.view.now) (g.V.View.state c.args.view.now)) (numbers_below (length (g.V.View.trace c.args.view.now).limits)))) (map (process_charge_line c.args.names.now (g.V.View.trace c.args.view.now) (g.V.View.state c.args.view.now)) (numbers_below (process_count (g.V.View.trace c.args.view.now)))) c.from_residual-in_err-put_kernel.ensures.0
    (part_missing _ _ _ _ c.from_residual-in_err-put_kernel.result (((codes "charges" ∷ []) ∷ [] ++ kernel_charge_line (g.V.View.trace c.args.view.now) (g.V.View.state c.args.view.now) ∷ [])) (map (limit_charge_line c.args.names.now (g.V.View.trace c.args.view.now) (g.V.View.state c.args.view.now)) (numbers_below (length (g.V.View.trace c.args.view.now).limits))) c.from_residual-in_err-put_kernel.ensures.0
    (part_failed _ _ _ _ _ _ c.from_residual-in_err-put_kernel.result _ ((codes "charges" ∷ []) ∷ []) (kernel_charge_line (g.V.View.trace c.args.view.now) (g.V.View.state c.args.view.now) ∷ []) c.from_residual-in_err-put_kernel.ensures.0 (part_first _ _ _ _ _ ((codes "charges" ∷ []) ∷ []) c.in_ok-heading.ensures.written) c.in_err-put_kernel.ensures.written)))

pub returns-in_err-limits-clause-written : goal.returns-in_err-limits-clause-written
unfolding charges_lines
returns-in_err-limits-clause-written g c =
    part_missing _ _ _ _ c.from_residual-in_err-limits.result (((((codes "charges" ∷ []) ∷ [] ++ kernel_charge_line (g.V.View.trace c.args.view.now) (g.V.View.state c.args.view.now) ∷ []) ++ map (limit_charge_line c.args.names.now (g.V.View.trace c.args.view.now) (g.V.View.state c.args.view.now)) (numbers_below (length (g.V.View.trace c.args.view.now).limits))) ++ map (process_charge_line c.args.names.now (g.V.View.trace c.args.view.now) (g.V.View.state c.args.view.now)) (numbers_below (process_count (g.V.View.trace c.args.view.now))))) (map (shared_charge_line c.args.names.now (g.V.View.trace c.args.view.now) (g.V.View.state c.args.view.now)) (numbers_below (g.V.View.trace c.args.view.now).shared_heaps)) c.from_residual-in_err-limits.ensures.0
    (part_missing _ _ _ _ c.from_residual-in_err-limits.result ((((codes "charges" ∷ []) ∷ [] ++ kernel_charge_line (g.V.View.trace c.args.view.now) (g.V.View.state c.args.view.now) ∷ []) ++ map (limit_charge_line c.args.names.now (g.V.View.trace c.args.view.now) (g.V.View.state c.args.view.now)) (numbers_below (length (g.V.View.trace c.args.view.now).limits)))) (map (process_charge_line c.args.names.now (g.V.View.trace c.args.view.now) (g.V.View.state c.args.view.now)) (numbers_below (process_count (g.V.View.trace c.args.view.now)))) c.from_residual-in_err-limits.ensures.0
    (part_failed _ _ _ _ _ _ c.from_residual-in_err-limits.result _ (((codes "charges" ∷ []) ∷ [] ++ kernel_charge_line (g.V.View.trace c.args.view.now) (g.V.View.state c.args.view.now) ∷ [])) (map (limit_charge_line c.args.names.now (g.V.View.trace c.args.view.now) (g.V.View.state c.args.view.now)) (numbers_below (length (g.V.View.trace c.args.view.now).limits))) c.from_residual-in_err-limits.ensures.0 (part_then _ _ _ _ _ _ _ ((codes "charges" ∷ []) ∷ []) (kernel_charge_line (g.V.View.trace c.args.view.now) (g.V.View.state c.args.view.now) ∷ []) (part_first _ _ _ _ _ ((codes "charges" ∷ []) ∷ []) c.in_ok-heading.ensures.written) c.in_ok-put_kernel.ensures.written) c.in_err-limits.ensures.written))

pub returns-in_err-processes-clause-written : goal.returns-in_err-processes-clause-written
unfolding charges_lines
returns-in_err-processes-clause-written g c =
    part_missing _ _ _ _ c.from_residual-in_err-processes.result (((((codes "charges" ∷ []) ∷ [] ++ kernel_charge_line (g.V.View.trace c.args.view.now) (g.V.View.state c.args.view.now) ∷ []) ++ map (limit_charge_line c.args.names.now (g.V.View.trace c.args.view.now) (g.V.View.state c.args.view.now)) (numbers_below (length (g.V.View.trace c.args.view.now).limits))) ++ map (process_charge_line c.args.names.now (g.V.View.trace c.args.view.now) (g.V.View.state c.args.view.now)) (numbers_below (process_count (g.V.View.trace c.args.view.now))))) (map (shared_charge_line c.args.names.now (g.V.View.trace c.args.view.now) (g.V.View.state c.args.view.now)) (numbers_below (g.V.View.trace c.args.view.now).shared_heaps)) c.from_residual-in_err-processes.ensures.0
    (part_failed _ _ _ _ _ _ c.from_residual-in_err-processes.result _ ((((codes "charges" ∷ []) ∷ [] ++ kernel_charge_line (g.V.View.trace c.args.view.now) (g.V.View.state c.args.view.now) ∷ []) ++ map (limit_charge_line c.args.names.now (g.V.View.trace c.args.view.now) (g.V.View.state c.args.view.now)) (numbers_below (length (g.V.View.trace c.args.view.now).limits)))) (map (process_charge_line c.args.names.now (g.V.View.trace c.args.view.now) (g.V.View.state c.args.view.now)) (numbers_below (process_count (g.V.View.trace c.args.view.now)))) c.from_residual-in_err-processes.ensures.0 (part_then _ _ _ _ _ _ _ (((codes "charges" ∷ []) ∷ [] ++ kernel_charge_line (g.V.View.trace c.args.view.now) (g.V.View.state c.args.view.now) ∷ [])) (map (limit_charge_line c.args.names.now (g.V.View.trace c.args.view.now) (g.V.View.state c.args.view.now)) (numbers_below (length (g.V.View.trace c.args.view.now).limits))) (part_then _ _ _ _ _ _ _ ((codes "charges" ∷ []) ∷ []) (kernel_charge_line (g.V.View.trace c.args.view.now) (g.V.View.state c.args.view.now) ∷ []) (part_first _ _ _ _ _ ((codes "charges" ∷ []) ∷ []) c.in_ok-heading.ensures.written) c.in_ok-put_kernel.ensures.written) c.in_ok-limits.ensures.written) c.in_err-processes.ensures.written)

pub returns-clause-written : goal.returns-clause-written
unfolding charges_lines
returns-clause-written g c =
    part_last _ _ _ _ _ _ _ (((((codes "charges" ∷ []) ∷ [] ++ kernel_charge_line (g.V.View.trace c.args.view.now) (g.V.View.state c.args.view.now) ∷ []) ++ map (limit_charge_line c.args.names.now (g.V.View.trace c.args.view.now) (g.V.View.state c.args.view.now)) (numbers_below (length (g.V.View.trace c.args.view.now).limits))) ++ map (process_charge_line c.args.names.now (g.V.View.trace c.args.view.now) (g.V.View.state c.args.view.now)) (numbers_below (process_count (g.V.View.trace c.args.view.now))))) (map (shared_charge_line c.args.names.now (g.V.View.trace c.args.view.now) (g.V.View.state c.args.view.now)) (numbers_below (g.V.View.trace c.args.view.now).shared_heaps)) (part_then _ _ _ _ _ _ _ ((((codes "charges" ∷ []) ∷ [] ++ kernel_charge_line (g.V.View.trace c.args.view.now) (g.V.View.state c.args.view.now) ∷ []) ++ map (limit_charge_line c.args.names.now (g.V.View.trace c.args.view.now) (g.V.View.state c.args.view.now)) (numbers_below (length (g.V.View.trace c.args.view.now).limits)))) (map (process_charge_line c.args.names.now (g.V.View.trace c.args.view.now) (g.V.View.state c.args.view.now)) (numbers_below (process_count (g.V.View.trace c.args.view.now)))) (part_then _ _ _ _ _ _ _ (((codes "charges" ∷ []) ∷ [] ++ kernel_charge_line (g.V.View.trace c.args.view.now) (g.V.View.state c.args.view.now) ∷ [])) (map (limit_charge_line c.args.names.now (g.V.View.trace c.args.view.now) (g.V.View.state c.args.view.now)) (numbers_below (length (g.V.View.trace c.args.view.now).limits))) (part_then _ _ _ _ _ _ _ ((codes "charges" ∷ []) ∷ []) (kernel_charge_line (g.V.View.trace c.args.view.now) (g.V.View.state c.args.view.now) ∷ []) (part_first _ _ _ _ _ ((codes "charges" ∷ []) ∷ []) c.in_ok-heading.ensures.written) c.in_ok-put_kernel.ensures.written) c.in_ok-limits.ensures.written) c.in_ok-processes.ensures.written) c.shared_heaps.ensures.written
