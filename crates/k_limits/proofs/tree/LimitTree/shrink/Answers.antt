use Rattle.std.proofs.Common.{◌≤◌, sym, ◌∙◌, is_some, subst, IsTrue}
use Rattle.std.proofs.lemmas.List.{with_items_is}
use Rattle.k_types.specs.Trace.{row_of}
use Rattle.k_types.specs.Limits.{max_of}
use Rattle.k_limits.specs.Limits.{ChargedLimits, use_at}
use Rattle.k_limits.proofs.Slices.{there_in}
use Rattle.k_limits.proofs.Walks.{row_at}
use Rattle.k_limits.proofs.Resizes.{lower_read, shrunk_read, resized_as}
use Rattle.k_limits.proofs.tree.LimitTree.shrink.Goals as goal

pub lower-requires-clause-enough : goal.lower-requires-clause-enough
lower-requires-clause-enough c =
    let known = there_in _ _ c.args.at.0 c.self.view_is c.requires.there in
    let below = subst (λ (l : ChargedLimits). IsTrue (is_some (row_of l.rows c.args.at.0).parent)) (sym c.self.view_is) c.requires.below in
    let row = c.index.ensures ∙ row_at _ c.args.at.0 _ known in
    let less = subst (λ (l : ChargedLimits). c.args.max ≤ max_of l.rows c.args.at.0) (sym c.self.view_is) c.requires.less in
    lower_read _ _ c.self.invariant c.args.at.0 known below _ _ _ _ c.deref.ensures.value c.deref_mut.ensures.value row c.reserved_from-parent.ensures c.args.max less

pub invariant_of-self : goal.invariant_of-self
invariant_of-self c =
    let known = there_in _ _ c.args.at.0 c.self.view_is c.requires.there in
    let below = subst (λ (l : ChargedLimits). IsTrue (is_some (row_of l.rows c.args.at.0).parent)) (sym c.self.view_is) c.requires.below in
    let row = c.index.ensures ∙ row_at _ c.args.at.0 _ known in
    let less = subst (λ (l : ChargedLimits). c.args.max ≤ max_of l.rows c.args.at.0) (sym c.self.view_is) c.requires.less in
    let used = subst (λ (l : ChargedLimits). use_at l c.args.at.0 ≤ c.args.max) (sym c.self.view_is) c.requires.used in
    let same = with_items_is c.self.inside.uses c.lower.new.uses (c.lower.auto.uses ∙ c.deref_mut.ensures.len) in
    resized_as _ _ c.self.invariant c.args.at.0 known below _ _ _ _ c.deref.ensures.value c.deref_mut.ensures.value row c.reserved_from-parent.ensures c.args.max _ _ same
    (shrunk_read _ _ c.self.invariant c.args.at.0 known below _ _ _ _ c.deref.ensures.value c.deref_mut.ensures.value row c.reserved_from-parent.ensures c.args.max c.lower.new.uses c.requires.small less used c.lower.auto.uses c.lower.ensures)
