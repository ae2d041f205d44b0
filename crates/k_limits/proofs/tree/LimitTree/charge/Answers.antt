use Rattle.std.proofs.Common.{◌+◌, refl, sym, ap, ◌∙◌, option_map, None}
use Rattle.std.proofs.lemmas.List.{with_items_is}
use Rattle.k_types.specs.declared.names.LimitId.{LimitId}
use Rattle.k_limits.specs.Limits.{ChargedLimits, full_at}
use Rattle.k_limits.proofs.Slices.{there_in, full_read, charge_small_read, uses_fit_read, charged_read, direct_fits, item_read, kept_as, charge_seen, charges_there}
use Rattle.k_limits.proofs.tree.LimitTree.charge.Goals as goal

pub first_full-requires-clause-fit : goal.first_full-requires-clause-fit
first_full-requires-clause-fit c = uses_fit_read _ _ c.self.invariant _ _ c.deref.ensures.value c.deref-2.ensures.value

pub returns-in-Some-clause-full : goal.returns-in-Some-clause-full
returns-in-Some-clause-full c =
    let known = there_in _ _ c.args.at.0 c.self.view_is c.requires in
    let full = full_read _ _ c.self.invariant c.args.at.0 known _ _ c.deref.ensures.value c.deref-2.ensures.value c.args.n _ (sym (ap (option_map (λ (m : LimitId). m.0)) c.in-Some.is) ∙ c.first_full.ensures) in
    (refl, ap (λ (l : ChargedLimits). full_at l c.args.at.0 c.args.n) (sym c.self.view_is) ∙ full)

pub raise-requires-clause-small : goal.raise-requires-clause-small
raise-requires-clause-small c =
    let known = there_in _ _ c.args.at.0 c.self.view_is c.requires in
    let none = full_read _ _ c.self.invariant c.args.at.0 known _ _ c.deref.ensures.value c.deref-2.ensures.value c.args.n None (sym (ap (option_map (λ (m : LimitId). m.0)) c.in_default.is) ∙ c.first_full.ensures) in
    charge_small_read _ _ c.self.invariant c.args.at.0 known _ _ c.deref-3.ensures.value c.deref_mut.ensures.value c.args.n none

pub overflow_add-index_mut : goal.overflow_add-index_mut
overflow_add-index_mut c =
    let known = there_in _ _ c.args.at.0 c.self.view_is c.requires in
    let none = full_read _ _ c.self.invariant c.args.at.0 known _ _ c.deref.ensures.value c.deref-2.ensures.value c.args.n None (sym (ap (option_map (λ (m : LimitId). m.0)) c.in_default.is) ∙ c.first_full.ensures) in
    direct_fits _ _ c.self.invariant c.args.at.0 known c.args.n _ none (item_read _ c.args.at.0 _ _ (charges_there _ _ c.self.invariant c.args.at.0 known) c.index_mut.ensures.value)

pub invariant_of-self : goal.invariant_of-self
invariant_of-self c =
    let known = there_in _ _ c.args.at.0 c.self.view_is c.requires in
    let none = full_read _ _ c.self.invariant c.args.at.0 known _ _ c.deref.ensures.value c.deref-2.ensures.value c.args.n None (sym (ap (option_map (λ (m : LimitId). m.0)) c.in_default.is) ∙ c.first_full.ensures) in
    let item = item_read _ c.args.at.0 _ _ (charges_there _ _ c.self.invariant c.args.at.0 known) c.index_mut.ensures.value in
    let same = with_items_is c.self.inside.uses c.raise.new.uses (c.raise.auto.uses ∙ c.deref_mut.ensures.len) in
    kept_as _ _ c.args.at.0 _ _ _ _ (ap (λ x. x + c.args.n) item) same
    (charged_read _ _ c.self.invariant c.args.at.0 known _ _ c.deref-3.ensures.value c.deref_mut.ensures.value c.args.n c.raise.new.uses none c.raise.auto.uses c.raise.ensures)

pub returns-clause-charged : goal.returns-clause-charged
returns-clause-charged c =
    let known = there_in _ _ c.args.at.0 c.self.view_is c.requires in
    let none = full_read _ _ c.self.invariant c.args.at.0 known _ _ c.deref.ensures.value c.deref-2.ensures.value c.args.n None (sym (ap (option_map (λ (m : LimitId). m.0)) c.in_default.is) ∙ c.first_full.ensures) in
    let item = item_read _ c.args.at.0 _ _ (charges_there _ _ c.self.invariant c.args.at.0 known) c.index_mut.ensures.value in
    (charge_seen _ _ c.args.at.0 c.args.n _ c.self.view_is item, ap (λ (l : ChargedLimits). full_at l c.args.at.0 c.args.n) (sym c.self.view_is) ∙ none)
