use Rattle.std.proofs.Common.{◌≡◌, ap, sym, ◌∙◌, get_or, arith}
use Rattle.std.proofs.lemmas.List.{get_or_read}
use Rattle.k_types.specs.declared.names.Name.{Name}
use Rattle.k_types.specs.Names.{name_eq}
use Rattle.k_types.specs.State.{Object}
use Rattle.k_state.proofs.Placed.{none_named}
use Rattle.k_state.proofs.ordered.index_of.Goals as goal
use Rattle.k_state.proofs.ordered.index_of.Goals.{else-at-objects-via-then-at-objects+else-is_same_name, else-at-objects-via-else-at-objects}

pub returns-else-at-objects-clause-none : goal.returns-else-at-objects-clause-none
returns-else-at-objects-clause-none c =
    let xs = c.args.objects.now in
    let at = c.place_of-at.result in
    none_named c.args.name xs at c.requires c.place_of-at.ensures
    (λ d inside.
    elim c.else-at-objects.branch [
      | else-at-objects-via-then-at-objects+else-is_same_name w ↦
          let found : Object = w.index-objects-at.result in
          let same : get_or xs at d ≡ found = sym (get_or_read xs at found inside w.index-objects-at.is d) in
          ap (λ (o : Object). name_eq o.name c.args.name) same ∙ ap (λ (n : Name). name_eq n c.args.name) (sym w.name.ensures) ∙ sym w.is_same_name.ensures ∙ w.if-is_same_name.false
      | else-at-objects-via-else-at-objects w ↦ absurd (omega (arith, inside, w.if-at-objects.false))
    ])
