use Rattle.std.proofs.Common.{◌<◌, ◌≤◌, refl, sym, ap, ◌∙◌, option_map, None, is_some, subst, IsTrue}
use Rattle.std.proofs.lemmas.List.{with_items_is}
use Rattle.k_types.specs.declared.names.LimitId.{LimitId}
use Rattle.k_types.specs.Trace.{row_of}
use Rattle.k_types.specs.Limits.{max_of}
use Rattle.k_limits.specs.Limits.{ChargedLimits, use_at}
use Rattle.k_limits.specs.Resizes.{full_for_at}
use Rattle.k_limits.proofs.Slices.{there_in}
use Rattle.k_limits.proofs.Walks.{row_at}
use Rattle.k_limits.proofs.Resizes.{raise_small_read, found_read, grown_read, resized_as, resized_seen}
use Rattle.k_limits.proofs.tree.LimitTree.grow.Goals as goal

pub returns-in-Some-clause-full : goal.returns-in-Some-clause-full
returns-in-Some-clause-full c =
    let known = there_in _ _ c.args.at.0 c.self.view_is c.requires.there in
    let below = subst (λ (l : ChargedLimits). IsTrue (is_some (row_of l.rows c.args.at.0).parent)) (sym c.self.view_is) c.requires.below in
    let row = c.index.ensures ∙ row_at _ c.args.at.0 _ known in
    let more = subst (λ (l : ChargedLimits). max_of l.rows c.args.at.0 < c.args.max) (sym c.self.view_is) c.requires.more in
    let full = found_read _ _ c.self.invariant c.args.at.0 known below _ _ _ _ c.deref.ensures.value c.deref-2.ensures.value row c.reserved_from-parent.ensures c.args.max more _ (sym (ap (option_map (λ (m : LimitId). m.0)) c.in-Some.is) ∙ c.first_full.ensures) in
    (refl, ap (λ (l : ChargedLimits). full_for_at l c.args.at.0 c.args.max) (sym c.self.view_is) ∙ full)

pub raise-requires-clause-small : goal.raise-requires-clause-small
raise-requires-clause-small c =
    let known = there_in _ _ c.args.at.0 c.self.view_is c.requires.there in
    let below = subst (λ (l : ChargedLimits). IsTrue (is_some (row_of l.rows c.args.at.0).parent)) (sym c.self.view_is) c.requires.below in
    let row = c.index.ensures ∙ row_at _ c.args.at.0 _ known in
    raise_small_read _ _ c.self.invariant c.args.at.0 known below _ _ _ _ c.deref-3.ensures.value c.deref_mut.ensures.value row c.reserved_from-parent.ensures c.args.max c.requires.small

pub invariant_of-self : goal.invariant_of-self
invariant_of-self c =
    let known = there_in _ _ c.args.at.0 c.self.view_is c.requires.there in
    let below = subst (λ (l : ChargedLimits). IsTrue (is_some (row_of l.rows c.args.at.0).parent)) (sym c.self.view_is) c.requires.below in
    let row = c.index.ensures ∙ row_at _ c.args.at.0 _ known in
    let more = subst (λ (l : ChargedLimits). max_of l.rows c.args.at.0 < c.args.max) (sym c.self.view_is) c.requires.more in
    let used = subst (λ (l : ChargedLimits). use_at l c.args.at.0 ≤ c.args.max) (sym c.self.view_is) c.requires.used in
    let none = found_read _ _ c.self.invariant c.args.at.0 known below _ _ _ _ c.deref.ensures.value c.deref-2.ensures.value row c.reserved_from-parent.ensures c.args.max more None (sym (ap (option_map (λ (m : LimitId). m.0)) c.in_default.is) ∙ c.first_full.ensures) in
    let same = with_items_is c.self.inside.uses c.raise.new.uses (c.raise.auto.uses ∙ c.deref_mut.ensures.len) in
    resized_as _ _ c.self.invariant c.args.at.0 known below _ _ _ _ c.deref-3.ensures.value c.deref_mut.ensures.value row c.reserved_from-parent.ensures c.args.max _ _ same
    (grown_read _ _ c.self.invariant c.args.at.0 known below _ _ _ _ c.deref-3.ensures.value c.deref_mut.ensures.value row c.reserved_from-parent.ensures c.args.max c.raise.new.uses c.requires.small more used none c.raise.auto.uses c.raise.ensures)

pub returns-clause-grown : goal.returns-clause-grown
returns-clause-grown c =
    let known = there_in _ _ c.args.at.0 c.self.view_is c.requires.there in
    let below = subst (λ (l : ChargedLimits). IsTrue (is_some (row_of l.rows c.args.at.0).parent)) (sym c.self.view_is) c.requires.below in
    let row = c.index.ensures ∙ row_at _ c.args.at.0 _ known in
    let more = subst (λ (l : ChargedLimits). max_of l.rows c.args.at.0 < c.args.max) (sym c.self.view_is) c.requires.more in
    let none = found_read _ _ c.self.invariant c.args.at.0 known below _ _ _ _ c.deref.ensures.value c.deref-2.ensures.value row c.reserved_from-parent.ensures c.args.max more None (sym (ap (option_map (λ (m : LimitId). m.0)) c.in_default.is) ∙ c.first_full.ensures) in (
      resized_seen _ _ c.self.invariant c.args.at.0 known below _ _ _ _ c.deref.ensures.value c.deref-2.ensures.value row c.reserved_from-parent.ensures c.args.max _ c.self.view_is,
      ap (λ (l : ChargedLimits). full_for_at l c.args.at.0 c.args.max) (sym c.self.view_is) ∙ none,
    )
