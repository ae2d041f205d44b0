use Rattle.std.proofs.Common.{◌++◌, ◌∷◌, [], codes}
use Rattle.k_report.proofs.LineLemmas.{part_failed, part_failed_first, part_first, part_last, part_then}
use Rattle.k_text.specs.Report.{charges_lines, exits_lines, graph_lines, roots_lines, shares_lines}
use Rattle.k_audit.specs.Snapshots.{gone_lines, made_lines, snapshot_lines}
use Rattle.k_audit.proofs.Parts.{parts_missing, with_parts}
use Rattle.k_audit.proofs.writing.snapshot.Goals as goal

pub returns-in_err-heading : goal.returns-in_err-heading
unfolding snapshot_lines with_parts
returns-in_err-heading g c =
    let n = c.args.names.now in
    let t = g.V.View.trace c.args.view.now in
    let st = g.V.View.state c.args.view.now in
    let first = ((codes "snapshot" ∷ codes "1" ∷ []) ∷ []) in
    parts_missing _ _ _ _ c.from_residual.result first (gone_lines n t st ∷ made_lines n t st ∷ graph_lines n t st ∷ roots_lines n t st ∷ exits_lines n t st ∷ shares_lines n t st ∷ charges_lines n t st ∷ ((codes "end" ∷ []) ∷ []) ∷ []) c.from_residual.ensures.0
    (part_failed_first _ _ _ _ c.from_residual.result _ first c.from_residual.ensures.0 c.in_err-heading.ensures.written)

pub returns-in_err-gone : goal.returns-in_err-gone
unfolding snapshot_lines with_parts
returns-in_err-gone g c =
    let n = c.args.names.now in
    let t = g.V.View.trace c.args.view.now in
    let st = g.V.View.state c.args.view.now in
    let first = ((codes "snapshot" ∷ codes "1" ∷ []) ∷ []) in
    let f0 = part_first _ _ _ _ _ first c.in_ok-heading.ensures.written in
    parts_missing _ _ _ _ c.from_residual-in_err-gone.result (first ++ gone_lines n t st) (made_lines n t st ∷ graph_lines n t st ∷ roots_lines n t st ∷ exits_lines n t st ∷ shares_lines n t st ∷ charges_lines n t st ∷ ((codes "end" ∷ []) ∷ []) ∷ []) c.from_residual-in_err-gone.ensures.0
    (part_failed _ _ _ _ _ _ c.from_residual-in_err-gone.result _ first (gone_lines n t st) c.from_residual-in_err-gone.ensures.0 f0 c.in_err-gone.ensures.written)

pub returns-in_err-made : goal.returns-in_err-made
unfolding snapshot_lines with_parts
returns-in_err-made g c =
    let n = c.args.names.now in
    let t = g.V.View.trace c.args.view.now in
    let st = g.V.View.state c.args.view.now in
    let first = ((codes "snapshot" ∷ codes "1" ∷ []) ∷ []) in
    let f0 = part_first _ _ _ _ _ first c.in_ok-heading.ensures.written in
    let f1 = part_then _ _ _ _ _ _ _ first (gone_lines n t st) f0 c.in_ok-gone.ensures.written in
    parts_missing _ _ _ _ c.from_residual-in_err-made.result ((first ++ gone_lines n t st) ++ made_lines n t st) (graph_lines n t st ∷ roots_lines n t st ∷ exits_lines n t st ∷ shares_lines n t st ∷ charges_lines n t st ∷ ((codes "end" ∷ []) ∷ []) ∷ []) c.from_residual-in_err-made.ensures.0
    (part_failed _ _ _ _ _ _ c.from_residual-in_err-made.result _ (first ++ gone_lines n t st) (made_lines n t st) c.from_residual-in_err-made.ensures.0 f1 c.in_err-made.ensures.written)

pub returns-in_err-graph : goal.returns-in_err-graph
unfolding snapshot_lines with_parts
returns-in_err-graph g c =
    let n = c.args.names.now in
    let t = g.V.View.trace c.args.view.now in
    let st = g.V.View.state c.args.view.now in
    let first = ((codes "snapshot" ∷ codes "1" ∷ []) ∷ []) in
    let f0 = part_first _ _ _ _ _ first c.in_ok-heading.ensures.written in
    let f1 = part_then _ _ _ _ _ _ _ first (gone_lines n t st) f0 c.in_ok-gone.ensures.written in
    let f2 = part_then _ _ _ _ _ _ _ (first ++ gone_lines n t st) (made_lines n t st) f1 c.in_ok-made.ensures.written in
    parts_missing _ _ _ _ c.from_residual-in_err-graph.result (((first ++ gone_lines n t st) ++ made_lines n t st) ++ graph_lines n t st) (roots_lines n t st ∷ exits_lines n t st ∷ shares_lines n t st ∷ charges_lines n t st ∷ ((codes "end" ∷ []) ∷ []) ∷ []) c.from_residual-in_err-graph.ensures.0
    (part_failed _ _ _ _ _ _ c.from_residual-in_err-graph.result _ ((first ++ gone_lines n t st) ++ made_lines n t st) (graph_lines n t st) c.from_residual-in_err-graph.ensures.0 f2 c.in_err-graph.ensures.written)

pub returns-in_err-roots : goal.returns-in_err-roots
unfolding snapshot_lines with_parts
returns-in_err-roots g c =
    let n = c.args.names.now in
    let t = g.V.View.trace c.args.view.now in
    let st = g.V.View.state c.args.view.now in
    let first = ((codes "snapshot" ∷ codes "1" ∷ []) ∷ []) in
    let f0 = part_first _ _ _ _ _ first c.in_ok-heading.ensures.written in
    let f1 = part_then _ _ _ _ _ _ _ first (gone_lines n t st) f0 c.in_ok-gone.ensures.written in
    let f2 = part_then _ _ _ _ _ _ _ (first ++ gone_lines n t st) (made_lines n t st) f1 c.in_ok-made.ensures.written in
    let f3 = part_then _ _ _ _ _ _ _ ((first ++ gone_lines n t st) ++ made_lines n t st) (graph_lines n t st) f2 c.in_ok-graph.ensures.written in
    parts_missing _ _ _ _ c.from_residual-in_err-roots.result ((((first ++ gone_lines n t st) ++ made_lines n t st) ++ graph_lines n t st) ++ roots_lines n t st) (exits_lines n t st ∷ shares_lines n t st ∷ charges_lines n t st ∷ ((codes "end" ∷ []) ∷ []) ∷ []) c.from_residual-in_err-roots.ensures.0
    (part_failed _ _ _ _ _ _ c.from_residual-in_err-roots.result _ (((first ++ gone_lines n t st) ++ made_lines n t st) ++ graph_lines n t st) (roots_lines n t st) c.from_residual-in_err-roots.ensures.0 f3 c.in_err-roots.ensures.written)

pub returns-in_err-exits : goal.returns-in_err-exits
unfolding snapshot_lines with_parts
returns-in_err-exits g c =
    let n = c.args.names.now in
    let t = g.V.View.trace c.args.view.now in
    let st = g.V.View.state c.args.view.now in
    let first = ((codes "snapshot" ∷ codes "1" ∷ []) ∷ []) in
    let f0 = part_first _ _ _ _ _ first c.in_ok-heading.ensures.written in
    let f1 = part_then _ _ _ _ _ _ _ first (gone_lines n t st) f0 c.in_ok-gone.ensures.written in
    let f2 = part_then _ _ _ _ _ _ _ (first ++ gone_lines n t st) (made_lines n t st) f1 c.in_ok-made.ensures.written in
    let f3 = part_then _ _ _ _ _ _ _ ((first ++ gone_lines n t st) ++ made_lines n t st) (graph_lines n t st) f2 c.in_ok-graph.ensures.written in
    let f4 = part_then _ _ _ _ _ _ _ (((first ++ gone_lines n t st) ++ made_lines n t st) ++ graph_lines n t st) (roots_lines n t st) f3 c.in_ok-roots.ensures.written in
    parts_missing _ _ _ _ c.from_residual-in_err-exits.result (((((first ++ gone_lines n t st) ++ made_lines n t st) ++ graph_lines n t st) ++ roots_lines n t st) ++ exits_lines n t st) (shares_lines n t st ∷ charges_lines n t st ∷ ((codes "end" ∷ []) ∷ []) ∷ []) c.from_residual-in_err-exits.ensures.0
    (part_failed _ _ _ _ _ _ c.from_residual-in_err-exits.result _ ((((first ++ gone_lines n t st) ++ made_lines n t st) ++ graph_lines n t st) ++ roots_lines n t st) (exits_lines n t st) c.from_residual-in_err-exits.ensures.0 f4 c.in_err-exits.ensures.written)

pub returns-in_err-shares : goal.returns-in_err-shares
unfolding snapshot_lines with_parts
returns-in_err-shares g c =
    let n = c.args.names.now in
    let t = g.V.View.trace c.args.view.now in
    let st = g.V.View.state c.args.view.now in
    let first = ((codes "snapshot" ∷ codes "1" ∷ []) ∷ []) in
    let f0 = part_first _ _ _ _ _ first c.in_ok-heading.ensures.written in
    let f1 = part_then _ _ _ _ _ _ _ first (gone_lines n t st) f0 c.in_ok-gone.ensures.written in
    let f2 = part_then _ _ _ _ _ _ _ (first ++ gone_lines n t st) (made_lines n t st) f1 c.in_ok-made.ensures.written in
    let f3 = part_then _ _ _ _ _ _ _ ((first ++ gone_lines n t st) ++ made_lines n t st) (graph_lines n t st) f2 c.in_ok-graph.ensures.written in
    let f4 = part_then _ _ _ _ _ _ _ (((first ++ gone_lines n t st) ++ made_lines n t st) ++ graph_lines n t st) (roots_lines n t st) f3 c.in_ok-roots.ensures.written in
    let f5 = part_then _ _ _ _ _ _ _ ((((first ++ gone_lines n t st) ++ made_lines n t st) ++ graph_lines n t st) ++ roots_lines n t st) (exits_lines n t st) f4 c.in_ok-exits.ensures.written in
    parts_missing _ _ _ _ c.from_residual-in_err-shares.result ((((((first ++ gone_lines n t st) ++ made_lines n t st) ++ graph_lines n t st) ++ roots_lines n t st) ++ exits_lines n t st) ++ shares_lines n t st) (charges_lines n t st ∷ ((codes "end" ∷ []) ∷ []) ∷ []) c.from_residual-in_err-shares.ensures.0
    (part_failed _ _ _ _ _ _ c.from_residual-in_err-shares.result _ (((((first ++ gone_lines n t st) ++ made_lines n t st) ++ graph_lines n t st) ++ roots_lines n t st) ++ exits_lines n t st) (shares_lines n t st) c.from_residual-in_err-shares.ensures.0 f5 c.in_err-shares.ensures.written)

pub returns-in_err-charges : goal.returns-in_err-charges
unfolding snapshot_lines with_parts
returns-in_err-charges g c =
    let n = c.args.names.now in
    let t = g.V.View.trace c.args.view.now in
    let st = g.V.View.state c.args.view.now in
    let first = ((codes "snapshot" ∷ codes "1" ∷ []) ∷ []) in
    let f0 = part_first _ _ _ _ _ first c.in_ok-heading.ensures.written in
    let f1 = part_then _ _ _ _ _ _ _ first (gone_lines n t st) f0 c.in_ok-gone.ensures.written in
    let f2 = part_then _ _ _ _ _ _ _ (first ++ gone_lines n t st) (made_lines n t st) f1 c.in_ok-made.ensures.written in
    let f3 = part_then _ _ _ _ _ _ _ ((first ++ gone_lines n t st) ++ made_lines n t st) (graph_lines n t st) f2 c.in_ok-graph.ensures.written in
    let f4 = part_then _ _ _ _ _ _ _ (((first ++ gone_lines n t st) ++ made_lines n t st) ++ graph_lines n t st) (roots_lines n t st) f3 c.in_ok-roots.ensures.written in
    let f5 = part_then _ _ _ _ _ _ _ ((((first ++ gone_lines n t st) ++ made_lines n t st) ++ graph_lines n t st) ++ roots_lines n t st) (exits_lines n t st) f4 c.in_ok-exits.ensures.written in
    let f6 = part_then _ _ _ _ _ _ _ (((((first ++ gone_lines n t st) ++ made_lines n t st) ++ graph_lines n t st) ++ roots_lines n t st) ++ exits_lines n t st) (shares_lines n t st) f5 c.in_ok-shares.ensures.written in
    parts_missing _ _ _ _ c.from_residual-in_err-charges.result (((((((first ++ gone_lines n t st) ++ made_lines n t st) ++ graph_lines n t st) ++ roots_lines n t st) ++ exits_lines n t st) ++ shares_lines n t st) ++ charges_lines n t st) (((codes "end" ∷ []) ∷ []) ∷ []) c.from_residual-in_err-charges.ensures.0
    (part_failed _ _ _ _ _ _ c.from_residual-in_err-charges.result _ ((((((first ++ gone_lines n t st) ++ made_lines n t st) ++ graph_lines n t st) ++ roots_lines n t st) ++ exits_lines n t st) ++ shares_lines n t st) (charges_lines n t st) c.from_residual-in_err-charges.ensures.0 f6 c.in_err-charges.ensures.written)

pub returns : goal.returns
unfolding snapshot_lines
returns g c =
    let n = c.args.names.now in
    let t = g.V.View.trace c.args.view.now in
    let st = g.V.View.state c.args.view.now in
    let first = ((codes "snapshot" ∷ codes "1" ∷ []) ∷ []) in
    let f0 = part_first _ _ _ _ _ first c.in_ok-heading.ensures.written in
    let f1 = part_then _ _ _ _ _ _ _ first (gone_lines n t st) f0 c.in_ok-gone.ensures.written in
    let f2 = part_then _ _ _ _ _ _ _ (first ++ gone_lines n t st) (made_lines n t st) f1 c.in_ok-made.ensures.written in
    let f3 = part_then _ _ _ _ _ _ _ ((first ++ gone_lines n t st) ++ made_lines n t st) (graph_lines n t st) f2 c.in_ok-graph.ensures.written in
    let f4 = part_then _ _ _ _ _ _ _ (((first ++ gone_lines n t st) ++ made_lines n t st) ++ graph_lines n t st) (roots_lines n t st) f3 c.in_ok-roots.ensures.written in
    let f5 = part_then _ _ _ _ _ _ _ ((((first ++ gone_lines n t st) ++ made_lines n t st) ++ graph_lines n t st) ++ roots_lines n t st) (exits_lines n t st) f4 c.in_ok-exits.ensures.written in
    let f6 = part_then _ _ _ _ _ _ _ (((((first ++ gone_lines n t st) ++ made_lines n t st) ++ graph_lines n t st) ++ roots_lines n t st) ++ exits_lines n t st) (shares_lines n t st) f5 c.in_ok-shares.ensures.written in
    let f7 = part_then _ _ _ _ _ _ _ ((((((first ++ gone_lines n t st) ++ made_lines n t st) ++ graph_lines n t st) ++ roots_lines n t st) ++ exits_lines n t st) ++ shares_lines n t st) (charges_lines n t st) f6 c.in_ok-charges.ensures.written in
    part_last _ _ _ _ _ _ _ (((((((first ++ gone_lines n t st) ++ made_lines n t st) ++ graph_lines n t st) ++ roots_lines n t st) ++ exits_lines n t st) ++ shares_lines n t st) ++ charges_lines n t st) ((codes "end" ∷ []) ∷ []) f7 c.heading-2.ensures.written
