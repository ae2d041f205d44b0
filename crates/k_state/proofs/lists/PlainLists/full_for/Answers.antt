use Rattle.std.proofs.Common.{Some, None, sym, ◌∙◌, arith}
use Rattle.std.proofs.lemmas.Bool.{not-true, not-false}
use Rattle.k_state.proofs.Above.{full_kept, full_more, full_soft}
use Rattle.k_state.proofs.Paths.{parent_known}
use Rattle.k_state.proofs.lists.PlainLists.full_for.Goals as goal

pub returns-then-not-row-clause-full : goal.returns-then-not-row-clause-full
returns-then-not-row-clause-full c =
    sym (full_soft c.args.self.now c.args.limit.0 c.args.max c.row-row.result c.requires c.setup-shape.ensures.shape.sized.maxima c.row-row.ensures.row (not-true _ c.if-not-row.true))

pub returns-then-max-row-clause-full : goal.returns-then-max-row-clause-full
returns-then-max-row-clause-full c =
    sym (full_kept c.args.self.now c.args.limit.0 c.args.max c.row-row.result c.requires c.setup-shape.ensures.shape.sized.maxima c.row-row.ensures.row (not-false _ c.if-not-row.false) (omega arith))

pub full_limit-requires : goal.full_limit-requires
full_limit-requires c =
    let m = c.args.self.now in
    let plain = c.setup-shape.ensures.shape in
    parent_known m.setup.limits m.state.maxima c.args.limit.0 c.row-row.result c.in-Some.parent plain.setup.limits.tree c.requires plain.sized.maxima c.row-row.ensures.row c.in-Some.is

pub returns-in-Some-clause-full : goal.returns-in-Some-clause-full
returns-in-Some-clause-full c =
    c.full_limit.ensures.full
    ∙ sym (full_more c.args.self.now c.args.limit.0 c.args.max c.row-row.result c.requires c.setup-shape.ensures.shape.sized.maxima c.row-row.ensures.row (not-false _ c.if-not-row.false) (omega arith)
    (Some c.in-Some.parent) c.in-Some.is)

pub returns-in-None-clause-full : goal.returns-in-None-clause-full
returns-in-None-clause-full c =
    sym (full_more c.args.self.now c.args.limit.0 c.args.max c.row-row.result c.requires c.setup-shape.ensures.shape.sized.maxima c.row-row.ensures.row (not-false _ c.if-not-row.false) (omega arith) None c.in-None.is)
