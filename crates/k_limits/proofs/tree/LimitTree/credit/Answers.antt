use Rattle.std.proofs.Common.{◌-◌, ap, ◌∙◌}
use Rattle.std.proofs.lemmas.List.{with_items_is}
use Rattle.k_limits.proofs.Slices.{there_in, enough_in, lower_enough_read, credited_read, item_read, kept_as, charges_there}
use Rattle.k_limits.proofs.tree.LimitTree.credit.Goals as goal

pub lower-requires-clause-enough : goal.lower-requires-clause-enough
lower-requires-clause-enough c =
    let known = there_in _ _ c.args.at.0 c.self.view_is c.requires.there in
    let enough = enough_in _ _ c.args.at.0 c.args.n c.self.view_is c.requires.charged in
    lower_enough_read _ _ c.self.invariant c.args.at.0 known _ _ c.deref.ensures.value c.deref_mut.ensures.value c.args.n enough

pub invariant_of-self : goal.invariant_of-self
invariant_of-self c =
    let known = there_in _ _ c.args.at.0 c.self.view_is c.requires.there in
    let enough = enough_in _ _ c.args.at.0 c.args.n c.self.view_is c.requires.charged in
    let item = item_read _ c.args.at.0 _ _ (charges_there _ _ c.self.invariant c.args.at.0 known) c.index_mut.ensures.value in
    let same = with_items_is c.self.inside.uses c.lower.new.uses (c.lower.auto.uses ∙ c.deref_mut.ensures.len) in
    kept_as _ _ c.args.at.0 _ _ _ _ (ap (λ x. x - c.args.n) item) same
    (credited_read _ _ c.self.invariant c.args.at.0 known _ _ c.deref.ensures.value c.deref_mut.ensures.value c.args.n c.lower.new.uses enough c.lower.auto.uses c.lower.ensures)
