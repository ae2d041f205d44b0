use Rattle.std.proofs.Common.{sym, subst, ap, ◌∙◌}
use Rattle.k_space.specs.Areas.{AreaValue}
use Rattle.k_exit.specs.Exits.{ExitList, target_marked}
use Rattle.k_measure.specs.Inside.{AreInside, HasNoBlack}
use Rattle.k_measure.proofs.Inside.{clean_unmarked, exits_unmarked}
use Rattle.k_measure.proofs.Several.{inside_unmarked, inside_same, exits_there}
use Rattle.k_measure.proofs.wide.mark.Goals as goal

pub roots-requires-clause-inside : goal.roots-requires-clause-inside
roots-requires-clause-inside c = subst (λ (a : AreaValue). AreInside a.segments) (sym c.clear.ensures.area) (inside_unmarked c.args.area.now c.requires)

pub roots-requires-clause-clean : goal.roots-requires-clause-clean
roots-requires-clause-clean c = subst (λ (a : AreaValue). HasNoBlack a) (sym c.clear.ensures.area) (clean_unmarked c.args.area.now)

pub mark_uncounted-requires-clause-exits : goal.mark_uncounted-requires-clause-exits
mark_uncounted-requires-clause-exits c = exits_there c.roots.new.area c.clear.new.exits.items c.roots.ensures.inside

pub mark_uncounted-requires-clause-unmarked : goal.mark_uncounted-requires-clause-unmarked
mark_uncounted-requires-clause-unmarked c n = ap (λ (e : ExitList). target_marked e.items n) c.clear.ensures.exits ∙ exits_unmarked c.args.exits.now.items n

pub returns : goal.returns
returns c = inside_same c.roots.new.area c.mark_uncounted.new.area c.mark_uncounted.ensures.kept c.roots.ensures.inside
