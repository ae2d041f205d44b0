use Rattle.std.proofs.Common.{◌∷◌, [], map, codes}
use Rattle.k_report.proofs.LineLemmas.{part_first, part_last, part_failed_first, part_missing}
use Rattle.k_types.specs.Owners.{owner_of}
use Rattle.k_text.specs.Report.{graph_lines, object_line}
use Rattle.k_report.proofs.graph.graph.Goals as goal

pub returns-in_err-heading-clause-written : goal.returns-in_err-heading-clause-written
unfolding graph_lines
returns-in_err-heading-clause-written g c =
    part_missing _ _ _ _ c.from_residual.result ((codes "graph" ∷ []) ∷ []) (map (object_line c.args.names.now (owner_of (g.V.View.trace c.args.view.now) (g.V.View.state c.args.view.now))) (g.V.View.state c.args.view.now).objects) c.from_residual.ensures.0
    (part_failed_first _ _ _ _ c.from_residual.result _ ((codes "graph" ∷ []) ∷ []) c.from_residual.ensures.0 c.in_err-heading.ensures.written)

pub returns-clause-written : goal.returns-clause-written
unfolding graph_lines
returns-clause-written g c =
    part_last _ _ _ _ _ _ _ ((codes "graph" ∷ []) ∷ []) (map (object_line c.args.names.now (owner_of (g.V.View.trace c.args.view.now) (g.V.View.state c.args.view.now))) (g.V.View.state c.args.view.now).objects) (part_first _ _ _ _ _ ((codes "graph" ∷ []) ∷ []) c.in_ok-heading.ensures.written) c.objects.ensures.written
