use Rattle.std.proofs.Common.{sym, subst}
use Rattle.k_types.specs.Names.{name_of}
use Rattle.k_space.specs.Areas.{AreaValue}
use Rattle.k_measure.specs.Inside.{AreInside, HasNoBlack}
use Rattle.k_measure.proofs.Inside.{clean_grayed}
use Rattle.k_measure.proofs.Several.{inside_grayed}
use Rattle.k_measure.proofs.wide.root_in.Goals as goal

pub returns-in-Some-link_to-clause-inside : goal.returns-in-Some-link_to-clause-inside
returns-in-Some-link_to-clause-inside c = subst (λ (a : AreaValue). AreInside a.segments) (sym c.root.ensures) (inside_grayed c.args.area.now (name_of c.in-Some-link_to.link) c.requires.inside)

pub returns-in-Some-link_to-clause-clean : goal.returns-in-Some-link_to-clause-clean
returns-in-Some-link_to-clause-clean c = subst (λ (a : AreaValue). HasNoBlack a) (sym c.root.ensures) (clean_grayed c.args.area.now (name_of c.in-Some-link_to.link) c.requires.clean)
