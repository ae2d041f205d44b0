use Rattle.std.proofs.Common.{sym, ap, ◌∙◌, length}
use Rattle.k_types.specs.Names.{among}
use Rattle.k_types.specs.Limits.{ancestors_of}
use Rattle.k_limits.proofs.Slices.{there_in}
use Rattle.k_types.proofs.Ancestors.{ancestor_before}
use Rattle.k_limits.proofs.tree.LimitTree.below.Goals as goal

pub returns-clause-before : goal.returns-clause-before
returns-clause-before c is =
    let known = there_in _ _ c.args.lower.0 c.self.view_is c.requires in
    ancestor_before _ c.self.invariant.rows.tree (length c.self.inside.rows.items) c.args.lower.0 c.args.upper.0 known (sym (c.is_below.ensures ∙ ap (λ rows. among c.args.upper.0 (ancestors_of rows c.args.lower.0)) c.deref.ensures.value) ∙ is)
