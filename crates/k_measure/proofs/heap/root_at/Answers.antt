use Rattle.std.proofs.Common.{sym, subst, ap, ◌∙◌, refl}
use Rattle.k_types.specs.Names.{name_of}
use Rattle.k_space.specs.Areas.{AreaValue, row_of_name, unmarked}
use Rattle.k_measure.specs.Inside.{HasNoBlack}
use Rattle.k_measure.proofs.Inside.{clean_grayed, grayed_by}
use Rattle.k_measure.proofs.heap.root_at.Goals as goal

pub returns-in-Some-link_to-clause-kept : goal.returns-in-Some-link_to-clause-kept
returns-in-Some-link_to-clause-kept c =
    let n = name_of c.in-Some-link_to.link in
    ap (λ (a : AreaValue). unmarked a) c.root.ensures ∙ grayed_by c.args.area.now n (row_of_name c.args.area.now.segments n) refl

pub returns-in-Some-link_to-clause-clean : goal.returns-in-Some-link_to-clause-clean
returns-in-Some-link_to-clause-clean c = subst (λ (a : AreaValue). HasNoBlack a) (sym c.root.ensures) (clean_grayed c.args.area.now (name_of c.in-Some-link_to.link) c.requires.clean)
