use Rattle.std.proofs.Common.{◌++◌, ◌∷◌, [], codes}
use Rattle.k_report.proofs.LineLemmas.{part_first, part_then, part_last, part_failed_first, part_failed, part_missing}
use Rattle.k_text.specs.Report.{report_lines, graph_lines, roots_lines, exits_lines, shares_lines, faults_lines, charges_lines}
use Rattle.k_text.specs.EventLines.{event_lines}
use Rattle.k_report.proofs.reporting.report.Goals as goal

pub returns-in_err-heading : goal.returns-in_err-heading
unfolding report_lines
returns-in_err-heading g c =
    part_missing _ _ _ _ c.from_residual.result (((((((((codes "report" ∷ codes "1" ∷ []) ∷ [] ++ event_lines c.args.names.now (g.V.View.events c.args.view.now)) ++ graph_lines c.args.names.now (g.V.View.trace c.args.view.now) (g.V.View.state c.args.view.now)) ++ roots_lines c.args.names.now (g.V.View.trace c.args.view.now) (g.V.View.state c.args.view.now)) ++ exits_lines c.args.names.now (g.V.View.trace c.args.view.now) (g.V.View.state c.args.view.now)) ++ shares_lines c.args.names.now (g.V.View.trace c.args.view.now) (g.V.View.state c.args.view.now)) ++ faults_lines c.args.names.now (g.V.View.trace c.args.view.now) (g.V.View.events c.args.view.now)) ++ charges_lines c.args.names.now (g.V.View.trace c.args.view.now) (g.V.View.state c.args.view.now))) ((codes "end" ∷ []) ∷ []) c.from_residual.ensures.0
    (part_missing _ _ _ _ c.from_residual.result ((((((((codes "report" ∷ codes "1" ∷ []) ∷ [] ++ event_lines c.args.names.now (g.V.View.events c.args.view.now)) ++ graph_lines c.args.names.now (g.V.View.trace c.args.view.now) (g.V.View.state c.args.view.now)) ++ roots_lines c.args.names.now (g.V.View.trace c.args.view.now) (g.V.View.state c.args.view.now)) ++ exits_lines c.args.names.now (g.V.View.trace c.args.view.now) (g.V.View.state c.args.view.now)) ++ shares_lines c.args.names.now (g.V.View.trace c.args.view.now) (g.V.View.state c.args.view.now)) ++ faults_lines c.args.names.now (g.V.View.trace c.args.view.now) (g.V.View.events c.args.view.now))) (charges_lines c.args.names.now (g.V.View.trace c.args.view.now) (g.V.View.state c.args.view.now)) c.from_residual.ensures.0
    (part_missing _ _ _ _ c.from_residual.result (((((((codes "report" ∷ codes "1" ∷ []) ∷ [] ++ event_lines c.args.names.now (g.V.View.events c.args.view.now)) ++ graph_lines c.args.names.now (g.V.View.trace c.args.view.now) (g.V.View.state c.args.view.now)) ++ roots_lines c.args.names.now (g.V.View.trace c.args.view.now) (g.V.View.state c.args.view.now)) ++ exits_lines c.args.names.now (g.V.View.trace c.args.view.now) (g.V.View.state c.args.view.now)) ++ shares_lines c.args.names.now (g.V.View.trace c.args.view.now) (g.V.View.state c.args.view.now))) (faults_lines c.args.names.now (g.V.View.trace c.args.view.now) (g.V.View.events c.args.view.now)) c.from_residual.ensures.0
    (part_missing _ _ _ _ c.from_residual.result ((((((codes "report" ∷ codes "1" ∷ []) ∷ [] ++ event_lines c.args.names.now (g.V.View.events c.args.view.now)) ++ graph_lines c.args.names.now (g.V.View.trace c.args.view.now) (g.V.View.state c.args.view.now)) ++ roots_lines c.args.names.now (g.V.View.trace c.args.view.now) (g.V.View.state c.args.view.now)) ++ exits_lines c.args.names.now (g.V.View.trace c.args.view.now) (g.V.View.state c.args.view.now))) (shares_lines c.args.names.now (g.V.View.trace c.args.view.now) (g.V.View.state c.args.view.now)) c.from_residual.ensures.0
    (part_missing _ _ _ _ c.from_residual.result (((((codes "report" ∷ codes "1" ∷ []) ∷ [] ++ event_lines c.args.names.now (g.V.View.events c.args.view.now)) ++ graph_lines c.args.names.now (g.V.View.trace c.args.view.now) (g.V.View.state c.args.view.now)) ++ roots_lines c.args.names.now (g.V.View.trace c.args.view.now) (g.V.View.state c.args.view.now))) (exits_lines c.args.names.now (g.V.View.trace c.args.view.now) (g.V.View.state c.args.view.now)) c.from_residual.ensures.0
    (part_missing _ _ _ _ c.from_residual.result ((((codes "report" ∷ codes "1" ∷ []) ∷ [] ++ event_lines c.args.names.now (g.V.View.events c.args.view.now)) ++ graph_lines c.args.names.now (g.V.View.trace c.args.view.now) (g.V.View.state c.args.view.now))) (roots_lines c.args.names.now (g.V.View.trace c.args.view.now) (g.V.View.state c.args.view.now)) c.from_residual.ensures.0
    (part_missing _ _ _ _ c.from_residual.result (((codes "report" ∷ codes "1" ∷ []) ∷ [] ++ event_lines c.args.names.now (g.V.View.events c.args.view.now))) (graph_lines c.args.names.now (g.V.View.trace c.args.view.now) (g.V.View.state c.args.view.now)) c.from_residual.ensures.0
    (part_missing _ _ _ _ c.from_residual.result ((codes "report" ∷ codes "1" ∷ []) ∷ []) (event_lines c.args.names.now (g.V.View.events c.args.view.now)) c.from_residual.ensures.0
    (part_failed_first _ _ _ _ c.from_residual.result _ ((codes "report" ∷ codes "1" ∷ []) ∷ []) c.from_residual.ensures.0 c.in_err-heading.ensures.written))))))))

pub returns-in_err-events : goal.returns-in_err-events
unfolding report_lines
returns-in_err-events g c =
    part_missing _ _ _ _ c.from_residual-in_err-events.result (((((((((codes "report" ∷ codes "1" ∷ []) ∷ [] ++ event_lines c.args.names.now (g.V.View.events c.args.view.now)) ++ graph_lines c.args.names.now (g.V.View.trace c.args.view.now) (g.V.View.state c.args.view.now)) ++ roots_lines c.args.names.now (g.V.View.trace c.args.view.now) (g.V.View.state c.args.view.now)) ++ exits_lines c.args.names.now (g.V.View.trace c.args.view.now) (g.V.View.state c.args.view.now)) ++ shares_lines c.args.names.now (g.V.View.trace c.args.view.now) (g.V.View.state c.args.view.now)) ++ faults_lines c.args.names.now (g.V.View.trace c.args.view.now) (g.V.View.events c.args.view.now)) ++ charges_lines c.args.names.now (g.V.View.trace c.args.view.now) (g.V.View.state c.args.view.now))) ((codes "end" ∷ []) ∷ []) c.from_residual-in_err-events.ensures.0
    (part_missing _ _ _ _ c.from_residual-in_err-events.result ((((((((codes "report" ∷ codes "1" ∷ []) ∷ [] ++ event_lines c.args.names.now (g.V.View.events c.args.view.now)) ++ graph_lines c.args.names.now (g.V.View.trace c.args.view.now) (g.V.View.state c.args.view.now)) ++ roots_lines c.args.names.now (g.V.View.trace c.args.view.now) (g.V.View.state c.args.view.now)) ++ exits_lines c.args.names.now (g.V.View.trace c.args.view.now) (g.V.View.state c.args.view.now)) ++ shares_lines c.args.names.now (g.V.View.trace c.args.view.now) (g.V.View.state c.args.view.now)) ++ faults_lines c.args.names.now (g.V.View.trace c.args.view.now) (g.V.View.events c.args.view.now))) (charges_lines c.args.names.now (g.V.View.trace c.args.view.now) (g.V.View.state c.args.view.now)) c.from_residual-in_err-events.ensures.0
    (part_missing _ _ _ _ c.from_residual-in_err-events.result (((((((codes "report" ∷ codes "1" ∷ []) ∷ [] ++ event_lines c.args.names.now (g.V.View.events c.args.view.now)) ++ graph_lines c.args.names.now (g.V.View.trace c.args.view.now) (g.V.View.state c.args.view.now)) ++ roots_lines c.args.names.now (g.V.View.trace c.args.view.now) (g.V.View.state c.args.view.now)) ++ exits_lines c.args.names.now (g.V.View.trace c.args.view.now) (g.V.View.state c.args.view.now)) ++ shares_lines c.args.names.now (g.V.View.trace c.args.view.now) (g.V.View.state c.args.view.now))) (faults_lines c.args.names.now (g.V.View.trace c.args.view.now) (g.V.View.events c.args.view.now)) c.from_residual-in_err-events.ensures.0
    (part_missing _ _ _ _ c.from_residual-in_err-events.result ((((((codes "report" ∷ codes "1" ∷ []) ∷ [] ++ event_lines c.args.names.now (g.V.View.events c.args.view.now)) ++ graph_lines c.args.names.now (g.V.View.trace c.args.view.now) (g.V.View.state c.args.view.now)) ++ roots_lines c.args.names.now (g.V.View.trace c.args.view.now) (g.V.View.state c.args.view.now)) ++ exits_lines c.args.names.now (g.V.View.trace c.args.view.now) (g.V.View.state c.args.view.now))) (shares_lines c.args.names.now (g.V.View.trace c.args.view.now) (g.V.View.state c.args.view.now)) c.from_residual-in_err-events.ensures.0
    (part_missing _ _ _ _ c.from_residual-in_err-events.result (((((codes "report" ∷ codes "1" ∷ []) ∷ [] ++ event_lines c.args.names.now (g.V.View.events c.args.view.now)) ++ graph_lines c.args.names.now (g.V.View.trace c.args.view.now) (g.V.View.state c.args.view.now)) ++ roots_lines c.args.names.now (g.V.View.trace c.args.view.now) (g.V.View.state c.args.view.now))) (exits_lines c.args.names.now (g.V.View.trace c.args.view.now) (g.V.View.state c.args.view.now)) c.from_residual-in_err-events.ensures.0
    (part_missing _ _ _ _ c.from_residual-in_err-events.result ((((codes "report" ∷ codes "1" ∷ []) ∷ [] ++ event_lines c.args.names.now (g.V.View.events c.args.view.now)) ++ graph_lines c.args.names.now (g.V.View.trace c.args.view.now) (g.V.View.state c.args.view.now))) (roots_lines c.args.names.now (g.V.View.trace c.args.view.now) (g.V.View.state c.args.view.now)) c.from_residual-in_err-events.ensures.0
    (part_missing _ _ _ _ c.from_residual-in_err-events.result (((codes "report" ∷ codes "1" ∷ []) ∷ [] ++ event_lines c.args.names.now (g.V.View.events c.args.view.now))) (graph_lines c.args.names.now (g.V.View.trace c.args.view.now) (g.V.View.state c.args.view.now)) c.from_residual-in_err-events.ensures.0
    (part_failed _ _ _ _ _ _ c.from_residual-in_err-events.result _ ((codes "report" ∷ codes "1" ∷ []) ∷ []) (event_lines c.args.names.now (g.V.View.events c.args.view.now)) c.from_residual-in_err-events.ensures.0 (part_first _ _ _ _ _ ((codes "report" ∷ codes "1" ∷ []) ∷ []) c.in_ok-heading.ensures.written) c.in_err-events.ensures.written)))))))

pub returns-in_err-graph : goal.returns-in_err-graph
unfolding report_lines
returns-in_err-graph g c =
    part_missing _ _ _ _ c.from_residual-in_err-graph.result (((((((((codes "report" ∷ codes "1" ∷ []) ∷ [] ++ event_lines c.args.names.now (g.V.View.events c.args.view.now)) ++ graph_lines c.args.names.now (g.V.View.trace c.args.view.now) (g.V.View.state c.args.view.now)) ++ roots_lines c.args.names.now (g.V.View.trace c.args.view.now) (g.V.View.state c.args.view.now)) ++ exits_lines c.args.names.now (g.V.View.trace c.args.view.now) (g.V.View.state c.args.view.now)) ++ shares_lines c.args.names.now (g.V.View.trace c.args.view.now) (g.V.View.state c.args.view.now)) ++ faults_lines c.args.names.now (g.V.View.trace c.args.view.now) (g.V.View.events c.args.view.now)) ++ charges_lines c.args.names.now (g.V.View.trace c.args.view.now) (g.V.View.state c.args.view.now))) ((codes "end" ∷ []) ∷ []) c.from_residual-in_err-graph.ensures.0
    (part_missing _ _ _ _ c.from_residual-in_err-graph.result ((((((((codes "report" ∷ codes "1" ∷ []) ∷ [] ++ event_lines c.args.names.now (g.V.View.events c.args.view.now)) ++ graph_lines c.args.names.now (g.V.View.trace c.args.view.now) (g.V.View.state c.args.view.now)) ++ roots_lines c.args.names.now (g.V.View.trace c.args.view.now) (g.V.View.state c.args.view.now)) ++ exits_lines c.args.names.now (g.V.View.trace c.args.view.now) (g.V.View.state c.args.view.now)) ++ shares_lines c.args.names.now (g.V.View.trace c.args.view.now) (g.V.View.state c.args.view.now)) ++ faults_lines c.args.names.now (g.V.View.trace c.args.view.now) (g.V.View.events c.args.view.now))) (charges_lines c.args.names.now (g.V.View.trace c.args.view.now) (g.V.View.state c.args.view.now)) c.from_residual-in_err-graph.ensures.0
    (part_missing _ _ _ _ c.from_residual-in_err-graph.result (((((((codes "report" ∷ codes "1" ∷ []) ∷ [] ++ event_lines c.args.names.now (g.V.View.events c.args.view.now)) ++ graph_lines c.args.names.now (g.V.View.trace c.args.view.now) (g.V.View.state c.args.view.now)) ++ roots_lines c.args.names.now (g.V.View.trace c.args.view.now) (g.V.View.state c.args.view.now)) ++ exits_lines c.args.names.now (g.V.View.trace c.args.view.now) (g.V.View.state c.args.view.now)) ++ shares_lines c.args.names.now (g.V.View.trace c.args.view.now) (g.V.View.state c.args.view.now))) (faults_lines c.args.names.now (g.V.View.trace c.args.view.now) (g.V.View.events c.args.view.now)) c.from_residual-in_err-graph.ensures.0
    (part_missing _ _ _ _ c.from_residual-in_err-graph.result ((((((codes "report" ∷ codes "1" ∷ []) ∷ [] ++ event_lines c.args.names.now (g.V.View.events c.args.view.now)) ++ graph_lines c.args.names.now (g.V.View.trace c.args.view.now) (g.V.View.state c.args.view.now)) ++ roots_lines c.args.names.now (g.V.View.trace c.args.view.now) (g.V.View.state c.args.view.now)) ++ exits_lines c.args.names.now (g.V.View.trace c.args.view.now) (g.V.View.state c.args.view.now))) (shares_lines c.args.names.now (g.V.View.trace c.args.view.now) (g.V.View.state c.args.view.now)) c.from_residual-in_err-graph.ensures.0
    (part_missing _ _ _ _ c.from_residual-in_err-graph.result (((((codes "report" ∷ codes "1" ∷ []) ∷ [] ++ event_lines c.args.names.now (g.V.View.events c.args.view.now)) ++ graph_lines c.args.names.now (g.V.View.trace c.args.view.now) (g.V.View.state c.args.view.now)) ++ roots_lines c.args.names.now (g.V.View.trace c.args.view.now) (g.V.View.state c.args.view.now))) (exits_lines c.args.names.now (g.V.View.trace c.args.view.now) (g.V.View.state c.args.view.now)) c.from_residual-in_err-graph.ensures.0
    (part_missing _ _ _ _ c.from_residual-in_err-graph.result ((((codes "report" ∷ codes "1" ∷ []) ∷ [] ++ event_lines c.args.names.now (g.V.View.events c.args.view.now)) ++ graph_lines c.args.names.now (g.V.View.trace c.args.view.now) (g.V.View.state c.args.view.now))) (roots_lines c.args.names.now (g.V.View.trace c.args.view.now) (g.V.View.state c.args.view.now)) c.from_residual-in_err-graph.ensures.0
    (part_failed _ _ _ _ _ _ c.from_residual-in_err-graph.result _ (((codes "report" ∷ codes "1" ∷ []) ∷ [] ++ event_lines c.args.names.now (g.V.View.events c.args.view.now))) (graph_lines c.args.names.now (g.V.View.trace c.args.view.now) (g.V.View.state c.args.view.now)) c.from_residual-in_err-graph.ensures.0 (part_then _ _ _ _ _ _ _ ((codes "report" ∷ codes "1" ∷ []) ∷ []) (event_lines c.args.names.now (g.V.View.events c.args.view.now)) (part_first _ _ _ _ _ ((codes "report" ∷ codes "1" ∷ []) ∷ []) c.in_ok-heading.ensures.written) c.in_ok-events.ensures.written) c.in_err-graph.ensures.written))))))

pub returns-in_err-roots : goal.returns-in_err-roots
unfolding report_lines
returns-in_err-roots g c =
    part_missing _ _ _ _ c.from_residual-in_err-roots.result (((((((((codes "report" ∷ codes "1" ∷ []) ∷ [] ++ event_lines c.args.names.now (g.V.View.events c.args.view.now)) ++ graph_lines c.args.names.now (g.V.View.trace c.args.view.now) (g.V.View.state c.args.view.now)) ++ roots_lines c.args.names.now (g.V.View.trace c.args.view.now) (g.V.View.state c.args.view.now)) ++ exits_lines c.args.names.now (g.V.View.trace c.args.view.now) (g.V.View.state c.args.view.now)) ++ shares_lines c.args.names.now (g.V.View.trace c.args.view.now) (g.V.View.state c.args.view.now)) ++ faults_lines c.args.names.now (g.V.View.trace c.args.view.now) (g.V.View.events c.args.view.now)) ++ charges_lines c.args.names.now (g.V.View.trace c.args.view.now) (g.V.View.state c.args.view.now))) ((codes "end" ∷ []) ∷ []) c.from_residual-in_err-roots.ensures.0
    (part_missing _ _ _ _ c.from_residual-in_err-roots.result ((((((((codes "report" ∷ codes "1" ∷ []) ∷ [] ++ event_lines c.args.names.now (g.V.View.events c.args.view.now)) ++ graph_lines c.args.names.now (g.V.View.trace c.args.view.now) (g.V.View.state c.args.view.now)) ++ roots_lines c.args.names.now (g.V.View.trace c.args.view.now) (g.V.View.state c.args.view.now)) ++ exits_lines c.args.names.now (g.V.View.trace c.args.view.now) (g.V.View.state c.args.view.now)) ++ shares_lines c.args.names.now (g.V.View.trace c.args.view.now) (g.V.View.state c.args.view.now)) ++ faults_lines c.args.names.now (g.V.View.trace c.args.view.now) (g.V.View.events c.args.view.now))) (charges_lines c.args.names.now (g.V.View.trace c.args.view.now) (g.V.View.state c.args.view.now)) c.from_residual-in_err-roots.ensures.0
    (part_missing _ _ _ _ c.from_residual-in_err-roots.result (((((((codes "report" ∷ codes "1" ∷ []) ∷ [] ++ event_lines c.args.names.now (g.V.View.events c.args.view.now)) ++ graph_lines c.args.names.now (g.V.View.trace c.args.view.now) (g.V.View.state c.args.view.now)) ++ roots_lines c.args.names.now (g.V.View.trace c.args.view.now) (g.V.View.state c.args.view.now)) ++ exits_lines c.args.names.now (g.V.View.trace c.args.view.now) (g.V.View.state c.args.view.now)) ++ shares_lines c.args.names.now (g.V.View.trace c.args.view.now) (g.V.View.state c.args.view.now))) (faults_lines c.args.names.now (g.V.View.trace c.args.view.now) (g.V.View.events c.args.view.now)) c.from_residual-in_err-roots.ensures.0
    (part_missing _ _ _ _ c.from_residual-in_err-roots.result ((((((codes "report" ∷ codes "1" ∷ []) ∷ [] ++ event_lines c.args.names.now (g.V.View.events c.args.view.now)) ++ graph_lines c.args.names.now (g.V.View.trace c.args.view.now) (g.V.View.state c.args.view.now)) ++ roots_lines c.args.names.now (g.V.View.trace c.args.view.now) (g.V.View.state c.args.view.now)) ++ exits_lines c.args.names.now (g.V.View.trace c.args.view.now) (g.V.View.state c.args.view.now))) (shares_lines c.args.names.now (g.V.View.trace c.args.view.now) (g.V.View.state c.args.view.now)) c.from_residual-in_err-roots.ensures.0
    (part_missing _ _ _ _ c.from_residual-in_err-roots.result (((((codes "report" ∷ codes "1" ∷ []) ∷ [] ++ event_lines c.args.names.now (g.V.View.events c.args.view.now)) ++ graph_lines c.args.names.now (g.V.View.trace c.args.view.now) (g.V.View.state c.args.view.now)) ++ roots_lines c.args.names.now (g.V.View.trace c.args.view.now) (g.V.View.state c.args.view.now))) (exits_lines c.args.names.now (g.V.View.trace c.args.view.now) (g.V.View.state c.args.view.now)) c.from_residual-in_err-roots.ensures.0
    (part_failed _ _ _ _ _ _ c.from_residual-in_err-roots.result _ ((((codes "report" ∷ codes "1" ∷ []) ∷ [] ++ event_lines c.args.names.now (g.V.View.events c.args.view.now)) ++ graph_lines c.args.names.now (g.V.View.trace c.args.view.now) (g.V.View.state c.args.view.now))) (roots_lines c.args.names.now (g.V.View.trace c.args.view.now) (g.V.View.state c.args.view.now)) c.from_residual-in_err-roots.ensures.0 (part_then _ _ _ _ _ _ _ (((codes "report" ∷ codes "1" ∷ []) ∷ [] ++ event_lines c.args.names.now (g.V.View.events c.args.view.now))) (graph_lines c.args.names.now (g.V.View.trace c.args.view.now) (g.V.View.state c.args.view.now)) (part_then _ _ _ _ _ _ _ ((codes "report" ∷ codes "1" ∷ []) ∷ []) (event_lines c.args.names.now (g.V.View.events c.args.view.now)) (part_first _ _ _ _ _ ((codes "report" ∷ codes "1" ∷ []) ∷ []) c.in_ok-heading.ensures.written) c.in_ok-events.ensures.written) c.in_ok-graph.ensures.written) c.in_err-roots.ensures.written)))))

pub returns-in_err-exits : goal.returns-in_err-exits
unfolding report_lines
returns-in_err-exits g c =
    part_missing _ _ _ _ c.from_residual-in_err-exits.result (((((((((codes "report" ∷ codes "1" ∷ []) ∷ [] ++ event_lines c.args.names.now (g.V.View.events c.args.view.now)) ++ graph_lines c.args.names.now (g.V.View.trace c.args.view.now) (g.V.View.state c.args.view.now)) ++ roots_lines c.args.names.now (g.V.View.trace c.args.view.now) (g.V.View.state c.args.view.now)) ++ exits_lines c.args.names.now (g.V.View.trace c.args.view.now) (g.V.View.state c.args.view.now)) ++ shares_lines c.args.names.now (g.V.View.trace c.args.view.now) (g.V.View.state c.args.view.now)) ++ faults_lines c.args.names.now (g.V.View.trace c.args.view.now) (g.V.View.events c.args.view.now)) ++ charges_lines c.args.names.now (g.V.View.trace c.args.view.now) (g.V.View.state c.args.view.now))) ((codes "end" ∷ []) ∷ []) c.from_residual-in_err-exits.ensures.0
    (part_missing _ _ _ _ c.from_residual-in_err-exits.result ((((((((codes "report" ∷ codes "1" ∷ []) ∷ [] ++ event_lines c.args.names.now (g.V.View.events c.args.view.now)) ++ graph_lines c.args.names.now (g.V.View.trace c.args.view.now) (g.V.View.state c.args.view.now)) ++ roots_lines c.args.names.now (g.V.View.trace c.args.view.now) (g.V.View.state c.args.view.now)) ++ exits_lines c.args.names.now (g.V.View.trace c.args.view.now) (g.V.View.state c.args.view.now)) ++ shares_lines c.args.names.now (g.V.View.trace c.args.view.now) (g.V.View.state c.args.view.now)) ++ faults_lines c.args.names.now (g.V.View.trace c.args.view.now) (g.V.View.events c.args.view.now))) (charges_lines c.args.names.now (g.V.View.trace c.args.view.now) (g.V.View.state c.args.view.now)) c.from_residual-in_err-exits.ensures.0
    (part_missing _ _ _ _ c.from_residual-in_err-exits.result (((((((codes "report" ∷ codes "1" ∷ []) ∷ [] ++ event_lines c.args.names.now (g.V.View.events c.args.view.now)) ++ graph_lines c.args.names.now (g.V.View.trace c.args.view.now) (g.V.View.state c.args.view.now)) ++ roots_lines c.args.names.now (g.V.View.trace c.args.view.now) (g.V.View.state c.args.view.now)) ++ exits_lines c.args.names.now (g.V.View.trace c.args.view.now) (g.V.View.state c.args.view.now)) ++ shares_lines c.args.names.now (g.V.View.trace c.args.view.now) (g.V.View.state c.args.view.now))) (faults_lines c.args.names.now (g.V.View.trace c.args.view.now) (g.V.View.events c.args.view.now)) c.from_residual-in_err-exits.ensures.0
    (part_missing _ _ _ _ c.from_residual-in_err-exits.result ((((((codes "report" ∷ codes "1" ∷ []) ∷ [] ++ event_lines c.args.names.now (g.V.View.events c.args.view.now)) ++ graph_lines c.args.names.now (g.V.View.trace c.args.view.now) (g.V.View.state c.args.view.now)) ++ roots_lines c.args.names.now (g.V.View.trace c.args.view.now) (g.V.View.state c.args.view.now)) ++ exits_lines c.args.names.now (g.V.View.trace c.args.view.now) (g.V.View.state c.args.view.now))) (shares_lines c.args.names.now (g.V.View.trace c.args.view.now) (g.V.View.state c.args.view.now)) c.from_residual-in_err-exits.ensures.0
    (part_failed _ _ _ _ _ _ c.from_residual-in_err-exits.result _ (((((codes "report" ∷ codes "1" ∷ []) ∷ [] ++ event_lines c.args.names.now (g.V.View.events c.args.view.now)) ++ graph_lines c.args.names.now (g.V.View.trace c.args.view.now) (g.V.View.state c.args.view.now)) ++ roots_lines c.args.names.now (g.V.View.trace c.args.view.now) (g.V.View.state c.args.view.now))) (exits_lines c.args.names.now (g.V.View.trace c.args.view.now) (g.V.View.state c.args.view.now)) c.from_residual-in_err-exits.ensures.0 (part_then _ _ _ _ _ _ _ ((((codes "report" ∷ codes "1" ∷ []) ∷ [] ++ event_lines c.args.names.now (g.V.View.events c.args.view.now)) ++ graph_lines c.args.names.now (g.V.View.trace c.args.view.now) (g.V.View.state c.args.view.now))) (roots_lines c.args.names.now (g.V.View.trace c.args.view.now) (g.V.View.state c.args.view.now)) (part_then _ _ _ _ _ _ _ (((codes "report" ∷ codes "1" ∷ []) ∷ [] ++ event_lines c.args.names.now (g.V.View.events c.args.view.now))) (graph_lines c.args.names.now (g.V.View.trace c.args.view.now) (g.V.View.state c.args.view.now)) (part_then _ _ _ _ _ _ _ ((codes "report" ∷ codes "1" ∷ []) ∷ []) (event_lines c.args.names.now (g.V.View.events c.args.view.now)) (part_first _ _ _ _ _ ((codes "report" ∷ codes "1" ∷ []) ∷ []) c.in_ok-heading.ensures.written) c.in_ok-events.ensures.written) c.in_ok-graph.ensures.written) c.in_ok-roots.ensures.written) c.in_err-exits.ensures.written))))

pub returns-in_err-shares : goal.returns-in_err-shares
unfolding report_lines
returns-in_err-shares g c =
    part_missing _ _ _ _ c.from_residual-in_err-shares.result (((((((((codes "report" ∷ codes "1" ∷ []) ∷ [] ++ event_lines c.args.names.now (g.V.View.events c.args.view.now)) ++ graph_lines c.args.names.now (g.V.View.trace c.args.view.now) (g.V.View.state c.args.view.now)) ++ roots_lines c.args.names.now (g.V.View.trace c.args.view.now) (g.V.View.state c.args.view.now)) ++ exits_lines c.args.names.now (g.V.View.trace c.args.view.now) (g.V.View.state c.args.view.now)) ++ shares_lines c.args.names.now (g.V.View.trace c.args.view.now) (g.V.View.state c.args.view.now)) ++ faults_lines c.args.names.now (g.V.View.trace c.args.view.now) (g.V.View.events c.args.view.now)) ++ charges_lines c.args.names.now (g.V.View.trace c.args.view.now) (g.V.View.state c.args.view.now))) ((codes "end" ∷ []) ∷ []) c.from_residual-in_err-shares.ensures.0
    (part_missing _ _ _ _ c.from_residual-in_err-shares.result ((((((((codes "report" ∷ codes "1" ∷ []) ∷ [] ++ event_lines c.args.names.now (g.V.View.events c.args.view.now)) ++ graph_lines c.args.names.now (g.V.View.trace c.args.view.now) (g.V.View.state c.args.view.now)) ++ roots_lines c.args.names.now (g.V.View.trace c.args.view.now) (g.V.View.state c.args.view.now)) ++ exits_lines c.args.names.now (g.V.View.trace c.args.view.now) (g.V.View.state c.args.view.now)) ++ shares_lines c.args.names.now (g.V.View.trace c.args.view.now) (g.V.View.state c.args.view.now)) ++ faults_lines c.args.names.now (g.V.View.trace c.args.view.now) (g.V.View.events c.args.view.now))) (charges_lines c.args.names.now (g.V.View.trace c.args.view.now) (g.V.View.state c.args.view.now)) c.from_residual-in_err-shares.ensures.0
    (part_missing _ _ _ _ c.from_residual-in_err-shares.result (((((((codes "report" ∷ codes "1" ∷ []) ∷ [] ++ event_lines c.args.names.now (g.V.View.events c.args.view.now)) ++ graph_lines c.args.names.now (g.V.View.trace c.args.view.now) (g.V.View.state c.args.view.now)) ++ roots_lines c.args.names.now (g.V.View.trace c.args.view.now) (g.V.View.state c.args.view.now)) ++ exits_lines c.args.names.now (g.V.View.trace c.args.view.now) (g.V.View.state c.args.view.now)) ++ shares_lines c.args.names.now (g.V.View.trace c.args.view.now) (g.V.View.state c.args.view.now))) (faults_lines c.args.names.now (g.V.View.trace c.args.view.now) (g.V.View.events c.args.view.now)) c.from_residual-in_err-shares.ensures.0
    (part_failed _ _ _ _ _ _ c.from_residual-in_err-shares.result _ ((((((codes "report" ∷ codes "1" ∷ []) ∷ [] ++ event_lines c.args.names.now (g.V.View.events c.args.view.now)) ++ graph_lines c.args.names.now (g.V.View.trace c.args.view.now) (g.V.View.state c.args.view.now)) ++ roots_lines c.args.names.now (g.V.View.trace c.args.view.now) (g.V.View.state c.args.view.now)) ++ exits_lines c.args.names.now (g.V.View.trace c.args.view.now) (g.V.View.state c.args.view.now))) (shares_lines c.args.names.now (g.V.View.trace c.args.view.now) (g.V.View.state c.args.view.now)) c.from_residual-in_err-shares.ensures.0 (part_then _ _ _ _ _ _ _ (((((codes "report" ∷ codes "1" ∷ []) ∷ [] ++ event_lines c.args.names.now (g.V.View.events c.args.view.now)) ++ graph_lines c.args.names.now (g.V.View.trace c.args.view.now) (g.V.View.state c.args.view.now)) ++ roots_lines c.args.names.now (g.V.View.trace c.args.view.now) (g.V.View.state c.args.view.now))) (exits_lines c.args.names.now (g.V.View.trace c.args.view.now) (g.V.View.state c.args.view.now)) (part_then _ _ _ _ _ _ _ ((((codes "report" ∷ codes "1" ∷ []) ∷ [] ++ event_lines c.args.names.now (g.V.View.events c.args.view.now)) ++ graph_lines c.args.names.now (g.V.View.trace c.args.view.now) (g.V.View.state c.args.view.now))) (roots_lines c.args.names.now (g.V.View.trace c.args.view.now) (g.V.View.state c.args.view.now)) (part_then _ _ _ _ _ _ _ (((codes "report" ∷ codes "1" ∷ []) ∷ [] ++ event_lines c.args.names.now (g.V.View.events c.args.view.now))) (graph_lines c.args.names.now (g.V.View.trace c.args.view.now) (g.V.View.state c.args.view.now)) (part_then _ _ _ _ _ _ _ ((codes "report" ∷ codes "1" ∷ []) ∷ []) (event_lines c.args.names.now (g.V.View.events c.args.view.now)) (part_first _ _ _ _ _ ((codes "report" ∷ codes "1" ∷ []) ∷ []) c.in_ok-heading.ensures.written) c.in_ok-events.ensures.written) c.in_ok-graph.ensures.written) c.in_ok-roots.ensures.written) c.in_ok-exits.ensures.written) c.in_err-shares.ensures.written)))

pub returns-in_err-faults : goal.returns-in_err-faults
unfolding report_lines
returns-in_err-faults g c =
    part_missing _ _ _ _ c.from_residual-in_err-faults.result (((((((((codes "report" ∷ codes "1" ∷ []) ∷ [] ++ event_lines c.args.names.now (g.V.View.events c.args.view.now)) ++ graph_lines c.args.names.now (g.V.View.trace c.args.view.now) (g.V.View.state c.args.view.now)) ++ roots_lines c.args.names.now (g.V.View.trace c.args.view.now) (g.V.View.state c.args.view.now)) ++ exits_lines c.args.names.now (g.V.View.trace c.args.view.now) (g.V.View.state c.args.view.now)) ++ shares_lines c.args.names.now (g.V.View.trace c.args.view.now) (g.V.View.state c.args.view.now)) ++ faults_lines c.args.names.now (g.V.View.trace c.args.view.now) (g.V.View.events c.args.view.now)) ++ charges_lines c.args.names.now (g.V.View.trace c.args.view.now) (g.V.View.state c.args.view.now))) ((codes "end" ∷ []) ∷ []) c.from_residual-in_err-faults.ensures.0
    (part_missing _ _ _ _ c.from_residual-in_err-faults.result ((((((((codes "report" ∷ codes "1" ∷ []) ∷ [] ++ event_lines c.args.names.now (g.V.View.events c.args.view.now)) ++ graph_lines c.args.names.now (g.V.View.trace c.args.view.now) (g.V.View.state c.args.view.now)) ++ roots_lines c.args.names.now (g.V.View.trace c.args.view.now) (g.V.View.state c.args.view.now)) ++ exits_lines c.args.names.now (g.V.View.trace c.args.view.now) (g.V.View.state c.args.view.now)) ++ shares_lines c.args.names.now (g.V.View.trace c.args.view.now) (g.V.View.state c.args.view.now)) ++ faults_lines c.args.names.now (g.V.View.trace c.args.view.now) (g.V.View.events c.args.view.now))) (charges_lines c.args.names.now (g.V.View.trace c.args.view.now) (g.V.View.state c.args.view.now)) c.from_residual-in_err-faults.ensures.0
    (part_failed _ _ _ _ _ _ c.from_residual-in_err-faults.result _ (((((((codes "report" ∷ codes "1" ∷ []) ∷ [] ++ event_lines c.args.names.now (g.V.View.events c.args.view.now)) ++ graph_lines c.args.names.now (g.V.View.trace c.args.view.now) (g.V.View.state c.args.view.now)) ++ roots_lines c.args.names.now (g.V.View.trace c.args.view.now) (g.V.View.state c.args.view.now)) ++ exits_lines c.args.names.now (g.V.View.trace c.args.view.now) (g.V.View.state c.args.view.now)) ++ shares_lines c.args.names.now (g.V.View.trace c.args.view.now) (g.V.View.state c.args.view.now))) (faults_lines c.args.names.now (g.V.View.trace c.args.view.now) (g.V.View.events c.args.view.now)) c.from_residual-in_err-faults.ensures.0 (part_then _ _ _ _ _ _ _ ((((((codes "report" ∷ codes "1" ∷ []) ∷ [] ++ event_lines c.args.names.now (g.V.View.events c.args.view.now)) ++ graph_lines c.args.names.now (g.V.View.trace c.args.view.now) (g.V.View.state c.args.view.now)) ++ roots_lines c.args.names.now (g.V.View.trace c.args.view.now) (g.V.View.state c.args.view.now)) ++ exits_lines c.args.names.now (g.V.View.trace c.args.view.now) (g.V.View.state c.args.view.now))) (shares_lines c.args.names.now (g.V.View.trace c.args.view.now) (g.V.View.state c.args.view.now)) (part_then _ _ _ _ _ _ _ (((((codes "report" ∷ codes "1" ∷ []) ∷ [] ++ event_lines c.args.names.now (g.V.View.events c.args.view.now)) ++ graph_lines c.args.names.now (g.V.View.trace c.args.view.now) (g.V.View.state c.args.view.now)) ++ roots_lines c.args.names.now (g.V.View.trace c.args.view.now) (g.V.View.state c.args.view.now))) (exits_lines c.args.names.now (g.V.View.trace c.args.view.now) (g.V.View.state c.args.view.now)) (part_then _ _ _ _ _ _ _ ((((codes "report" ∷ codes "1" ∷ []) ∷ [] ++ event_lines c.args.names.now (g.V.View.events c.args.view.now)) ++ graph_lines c.args.names.now (g.V.View.trace c.args.view.now) (g.V.View.state c.args.view.now))) (roots_lines c.args.names.now (g.V.View.trace c.args.view.now) (g.V.View.state c.args.view.now)) (part_then _ _ _ _ _ _ _ (((codes "report" ∷ codes "1" ∷ []) ∷ [] ++ event_lines c.args.names.now (g.V.View.events c.args.view.now))) (graph_lines c.args.names.now (g.V.View.trace c.args.view.now) (g.V.View.state c.args.view.now)) (part_then _ _ _ _ _ _ _ ((codes "report" ∷ codes "1" ∷ []) ∷ []) (event_lines c.args.names.now (g.V.View.events c.args.view.now)) (part_first _ _ _ _ _ ((codes "report" ∷ codes "1" ∷ []) ∷ []) c.in_ok-heading.ensures.written) c.in_ok-events.ensures.written) c.in_ok-graph.ensures.written) c.in_ok-roots.ensures.written) c.in_ok-exits.ensures.written) c.in_ok-shares.ensures.written) c.in_err-faults.ensures.written))

pub returns-in_err-charges : goal.returns-in_err-charges
unfolding report_lines
returns-in_err-charges g c =
    part_missing _ _ _ _ c.from_residual-in_err-charges.result (((((((((codes "report" ∷ codes "1" ∷ []) ∷ [] ++ event_lines c.args.names.now (g.V.View.events c.args.view.now)) ++ graph_lines c.args.names.now (g.V.View.trace c.args.view.now) (g.V.View.state c.args.view.now)) ++ roots_lines c.args.names.now (g.V.View.trace c.args.view.now) (g.V.View.state c.args.view.now)) ++ exits_lines c.args.names.now (g.V.View.trace c.args.view.now) (g.V.View.state c.args.view.now)) ++ shares_lines c.args.names.now (g.V.View.trace c.args.view.now) (g.V.View.state c.args.view.now)) ++ faults_lines c.args.names.now (g.V.View.trace c.args.view.now) (g.V.View.events c.args.view.now)) ++ charges_lines c.args.names.now (g.V.View.trace c.args.view.now) (g.V.View.state c.args.view.now))) ((codes "end" ∷ []) ∷ []) c.from_residual-in_err-charges.ensures.0
    (part_failed _ _ _ _ _ _ c.from_residual-in_err-charges.result _ ((((((((codes "report" ∷ codes "1" ∷ []) ∷ [] ++ event_lines c.args.names.now (g.V.View.events c.args.view.now)) ++ graph_lines c.args.names.now (g.V.View.trace c.args.view.now) (g.V.View.state c.args.view.now)) ++ roots_lines c.args.names.now (g.V.View.trace c.args.view.now) (g.V.View.state c.args.view.now)) ++ exits_lines c.args.names.now (g.V.View.trace c.args.view.now) (g.V.View.state c.args.view.now)) ++ shares_lines c.args.names.now (g.V.View.trace c.args.view.now) (g.V.View.state c.args.view.now)) ++ faults_lines c.args.names.now (g.V.View.trace c.args.view.now) (g.V.View.events c.args.view.now))) (charges_lines c.args.names.now (g.V.View.trace c.args.view.now) (g.V.View.state c.args.view.now)) c.from_residual-in_err-charges.ensures.0 (part_then _ _ _ _ _ _ _ (((((((codes "report" ∷ codes "1" ∷ []) ∷ [] ++ event_lines c.args.names.now (g.V.View.events c.args.view.now)) ++ graph_lines c.args.names.now (g.V.View.trace c.args.view.now) (g.V.View.state c.args.view.now)) ++ roots_lines c.args.names.now (g.V.View.trace c.args.view.now) (g.V.View.state c.args.view.now)) ++ exits_lines c.args.names.now (g.V.View.trace c.args.view.now) (g.V.View.state c.args.view.now)) ++ shares_lines c.args.names.now (g.V.View.trace c.args.view.now) (g.V.View.state c.args.view.now))) (faults_lines c.args.names.now (g.V.View.trace c.args.view.now) (g.V.View.events c.args.view.now)) (part_then _ _ _ _ _ _ _ ((((((codes "report" ∷ codes "1" ∷ []) ∷ [] ++ event_lines c.args.names.now (g.V.View.events c.args.view.now)) ++ graph_lines c.args.names.now (g.V.View.trace c.args.view.now) (g.V.View.state c.args.view.now)) ++ roots_lines c.args.names.now (g.V.View.trace c.args.view.now) (g.V.View.state c.args.view.now)) ++ exits_lines c.args.names.now (g.V.View.trace c.args.view.now) (g.V.View.state c.args.view.now))) (shares_lines c.args.names.now (g.V.View.trace c.args.view.now) (g.V.View.state c.args.view.now)) (part_then _ _ _ _ _ _ _ (((((codes "report" ∷ codes "1" ∷ []) ∷ [] ++ event_lines c.args.names.now (g.V.View.events c.args.view.now)) ++ graph_lines c.args.names.now (g.V.View.trace c.args.view.now) (g.V.View.state c.args.view.now)) ++ roots_lines c.args.names.now (g.V.View.trace c.args.view.now) (g.V.View.state c.args.view.now))) (exits_lines c.args.names.now (g.V.View.trace c.args.view.now) (g.V.View.state c.args.view.now)) (part_then _ _ _ _ _ _ _ ((((codes "report" ∷ codes "1" ∷ []) ∷ [] ++ event_lines c.args.names.now (g.V.View.events c.args.view.now)) ++ graph_lines c.args.names.now (g.V.View.trace c.args.view.now) (g.V.View.state c.args.view.now))) (roots_lines c.args.names.now (g.V.View.trace c.args.view.now) (g.V.View.state c.args.view.now)) (part_then _ _ _ _ _ _ _ (((codes "report" ∷ codes "1" ∷ []) ∷ [] ++ event_lines c.args.names.now (g.V.View.events c.args.view.now))) (graph_lines c.args.names.now (g.V.View.trace c.args.view.now) (g.V.View.state c.args.view.now)) (part_then _ _ _ _ _ _ _ ((codes "report" ∷ codes "1" ∷ []) ∷ []) (event_lines c.args.names.now (g.V.View.events c.args.view.now)) (part_first _ _ _ _ _ ((codes "report" ∷ codes "1" ∷ []) ∷ []) c.in_ok-heading.ensures.written) c.in_ok-events.ensures.written) c.in_ok-graph.ensures.written) c.in_ok-roots.ensures.written) c.in_ok-exits.ensures.written) c.in_ok-shares.ensures.written) c.in_ok-faults.ensures.written) c.in_err-charges.ensures.written)

pub returns : goal.returns
unfolding report_lines
returns g c =
    part_last _ _ _ _ _ _ _ (((((((((codes "report" ∷ codes "1" ∷ []) ∷ [] ++ event_lines c.args.names.now (g.V.View.events c.args.view.now)) ++ graph_lines c.args.names.now (g.V.View.trace c.args.view.now) (g.V.View.state c.args.view.now)) ++ roots_lines c.args.names.now (g.V.View.trace c.args.view.now) (g.V.View.state c.args.view.now)) ++ exits_lines c.args.names.now (g.V.View.trace c.args.view.now) (g.V.View.state c.args.view.now)) ++ shares_lines c.args.names.now (g.V.View.trace c.args.view.now) (g.V.View.state c.args.view.now)) ++ faults_lines c.args.names.now (g.V.View.trace c.args.view.now) (g.V.View.events c.args.view.now)) ++ charges_lines c.args.names.now (g.V.View.trace c.args.view.now) (g.V.View.state c.args.view.now))) ((codes "end" ∷ []) ∷ []) (part_then _ _ _ _ _ _ _ ((((((((codes "report" ∷ codes "1" ∷ []) ∷ [] ++ event_lines c.args.names.now (g.V.View.events c.args.view.now)) ++ graph_lines c.args.names.now (g.V.View.trace c.args.view.now) (g.V.View.state c.args.view.now)) ++ roots_lines c.args.names.now (g.V.View.trace c.args.view.now) (g.V.View.state c.args.view.now)) ++ exits_lines c.args.names.now (g.V.View.trace c.args.view.now) (g.V.View.state c.args.view.now)) ++ shares_lines c.args.names.now (g.V.View.trace c.args.view.now) (g.V.View.state c.args.view.now)) ++ faults_lines c.args.names.now (g.V.View.trace c.args.view.now) (g.V.View.events c.args.view.now))) (charges_lines c.args.names.now (g.V.View.trace c.args.view.now) (g.V.View.state c.args.view.now)) (part_then _ _ _ _ _ _ _ (((((((codes "report" ∷ codes "1" ∷ []) ∷ [] ++ event_lines c.args.names.now (g.V.View.events c.args.view.now)) ++ graph_lines c.args.names.now (g.V.View.trace c.args.view.now) (g.V.View.state c.args.view.now)) ++ roots_lines c.args.names.now (g.V.View.trace c.args.view.now) (g.V.View.state c.args.view.now)) ++ exits_lines c.args.names.now (g.V.View.trace c.args.view.now) (g.V.View.state c.args.view.now)) ++ shares_lines c.args.names.now (g.V.View.trace c.args.view.now) (g.V.View.state c.args.view.now))) (faults_lines c.args.names.now (g.V.View.trace c.args.view.now) (g.V.View.events c.args.view.now)) (part_then _ _ _ _ _ _ _ ((((((codes "report" ∷ codes "1" ∷ []) ∷ [] ++ event_lines c.args.names.now (g.V.View.events c.args.view.now)) ++ graph_lines c.args.names.now (g.V.View.trace c.args.view.now) (g.V.View.state c.args.view.now)) ++ roots_lines c.args.names.now (g.V.View.trace c.args.view.now) (g.V.View.state c.args.view.now)) ++ exits_lines c.args.names.now (g.V.View.trace c.args.view.now) (g.V.View.state c.args.view.now))) (shares_lines c.args.names.now (g.V.View.trace c.args.view.now) (g.V.View.state c.args.view.now)) (part_then _ _ _ _ _ _ _ (((((codes "report" ∷ codes "1" ∷ []) ∷ [] ++ event_lines c.args.names.now (g.V.View.events c.args.view.now)) ++ graph_lines c.args.names.now (g.V.View.trace c.args.view.now) (g.V.View.state c.args.view.now)) ++ roots_lines c.args.names.now (g.V.View.trace c.args.view.now) (g.V.View.state c.args.view.now))) (exits_lines c.args.names.now (g.V.View.trace c.args.view.now) (g.V.View.state c.args.view.now)) (part_then _ _ _ _ _ _ _ ((((codes "report" ∷ codes "1" ∷ []) ∷ [] ++ event_lines c.args.names.now (g.V.View.events c.args.view.now)) ++ graph_lines c.args.names.now (g.V.View.trace c.args.view.now) (g.V.View.state c.args.view.now))) (roots_lines c.args.names.now (g.V.View.trace c.args.view.now) (g.V.View.state c.args.view.now)) (part_then _ _ _ _ _ _ _ (((codes "report" ∷ codes "1" ∷ []) ∷ [] ++ event_lines c.args.names.now (g.V.View.events c.args.view.now))) (graph_lines c.args.names.now (g.V.View.trace c.args.view.now) (g.V.View.state c.args.view.now)) (part_then _ _ _ _ _ _ _ ((codes "report" ∷ codes "1" ∷ []) ∷ []) (event_lines c.args.names.now (g.V.View.events c.args.view.now)) (part_first _ _ _ _ _ ((codes "report" ∷ codes "1" ∷ []) ∷ []) c.in_ok-heading.ensures.written) c.in_ok-events.ensures.written) c.in_ok-graph.ensures.written) c.in_ok-roots.ensures.written) c.in_ok-exits.ensures.written) c.in_ok-shares.ensures.written) c.in_ok-faults.ensures.written) c.in_ok-charges.ensures.written) c.heading-2.ensures.written
