use Rattle.std.proofs.Common.{◌++◌, ◌∷◌, [], length, sym, ap, ◌∙◌}
use Rattle.std.proofs.lemmas.List.{with_items_is}
use Rattle.k_limits.specs.Limits.{ChargedLimits}
use Rattle.k_limits.proofs.Adding.{rows_in, from_in, raise_small_row, refused_row, added_row, few_rows}
use Rattle.k_limits.proofs.Slices.{uses_fit_read}
use Rattle.k_limits.proofs.tree.LimitTree.with_row.Goals as goal

pub first_full-requires-clause-there : goal.first_full-requires-clause-there
first_full-requires-clause-there c =
    let fine = rows_in _ _ _ c.self.view_is c.requires.rows in
    from_in _ _ c.self.invariant _ fine _ _ _ c.deref.ensures.value c.deref-2.ensures.value c.reserved_from-parent.ensures

pub first_full-requires-clause-fit : goal.first_full-requires-clause-fit
first_full-requires-clause-fit c = uses_fit_read _ _ c.self.invariant _ _ c.deref.ensures.value c.deref-2.ensures.value

pub returns-then-is_some-clause-refused : goal.returns-then-is_some-clause-refused
returns-then-is_some-clause-refused c =
    let fine = rows_in _ _ _ c.self.view_is c.requires.rows in (
      c.len.ensures ∙ (sym c.deref.ensures.len ∙ ap length c.deref.ensures.value) ∙ ap (λ (l : ChargedLimits). length l.rows) c.self.view_is,
      refused_row _ _ c.self.invariant _ fine _ _ _ c.deref.ensures.value c.deref-2.ensures.value c.reserved_from-parent.ensures _ c.self.view_is c.first_full.result _ c.first_full.ensures (sym c.is_some.ensures ∙ c.if-is_some.true),
    )

pub raise-requires-clause-there : goal.raise-requires-clause-there
raise-requires-clause-there c =
    let fine = rows_in _ _ _ c.self.view_is c.requires.rows in
    from_in _ _ c.self.invariant _ fine _ _ _ c.deref-3.ensures.value c.deref_mut.ensures.value c.reserved_from-parent.ensures

pub raise-requires-clause-small : goal.raise-requires-clause-small
raise-requires-clause-small c =
    let fine = rows_in _ _ _ c.self.view_is c.requires.rows in
    raise_small_row _ _ c.self.invariant _ fine _ _ _ c.deref-3.ensures.value c.deref_mut.ensures.value c.reserved_from-parent.ensures

pub invariant_of-result : goal.invariant_of-result
invariant_of-result c =
    let fine = rows_in _ _ _ c.self.view_is c.requires.rows in
    let raised = with_items_is c.self.inside.uses c.raise.new.uses (c.raise.auto.uses ∙ c.deref_mut.ensures.len) in
    added_row _ _ c.self.invariant _ fine _ _ _ c.deref.ensures.value c.deref-2.ensures.value c.reserved_from-parent.ensures c.first_full.result _ _ c.raise.new.uses _ _ _
    c.deref-3.ensures.value
    c.deref_mut.ensures.value
    c.first_full.ensures
    (sym c.is_some.ensures ∙ c.if-is_some.false)
    (few_rows _ _ c.self.view_is c.requires.few)
    c.raise.auto.uses
    c.raise.ensures
    c.in_ok-push.ensures.stored
    c.in_ok-push-2.ensures.stored
    (c.in_ok-push-3.ensures.stored ∙ ap (λ uses. uses ++ 0 ∷ []) raised)

pub returns-clause-added : goal.returns-clause-added
returns-clause-added c =
    let fine = rows_in _ _ _ c.self.view_is c.requires.rows in (
      c.in_ok-push.ensures.stored ∙ ap (λ (l : ChargedLimits). l.rows ++ c.args.row.now ∷ []) c.self.view_is,
      c.in_ok-push-2.ensures.stored ∙ ap (λ (l : ChargedLimits). l.direct ++ 0 ∷ []) c.self.view_is,
      refused_row _ _ c.self.invariant _ fine _ _ _ c.deref.ensures.value c.deref-2.ensures.value c.reserved_from-parent.ensures _ c.self.view_is c.first_full.result _ c.first_full.ensures (sym c.is_some.ensures ∙ c.if-is_some.false),
    )
