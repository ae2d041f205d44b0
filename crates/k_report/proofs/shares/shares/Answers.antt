use Rattle.std.proofs.Common.{◌∷◌, [], codes}
use Rattle.std.specs.List.{flat_map}
use Rattle.k_report.proofs.LineLemmas.{part_first, part_last, part_failed_first, part_missing}
use Rattle.k_types.specs.Numbers.{numbers_below}
use Rattle.k_types.specs.Trace.{process_count}
use Rattle.k_text.specs.Report.{shares_lines, shares_of_process}
use Rattle.k_report.proofs.shares.shares.Goals as goal

pub returns-in_err-heading-clause-written : goal.returns-in_err-heading-clause-written
unfolding shares_lines
returns-in_err-heading-clause-written g c =
    part_missing _ _ _ _ c.from_residual.result ((codes "shares" ∷ []) ∷ []) (flat_map (shares_of_process c.args.names.now (g.V.View.trace c.args.view.now) (g.V.View.state c.args.view.now)) (numbers_below (process_count (g.V.View.trace c.args.view.now)))) c.from_residual.ensures.0
    (part_failed_first _ _ _ _ c.from_residual.result _ ((codes "shares" ∷ []) ∷ []) c.from_residual.ensures.0 c.in_err-heading.ensures.written)

pub returns-clause-written : goal.returns-clause-written
unfolding shares_lines
returns-clause-written g c =
    part_last _ _ _ _ _ _ _ ((codes "shares" ∷ []) ∷ []) (flat_map (shares_of_process c.args.names.now (g.V.View.trace c.args.view.now) (g.V.View.state c.args.view.now)) (numbers_below (process_count (g.V.View.trace c.args.view.now)))) (part_first _ _ _ _ _ ((codes "shares" ∷ []) ∷ []) c.in_ok-heading.ensures.written) c.all_shares.ensures.written
