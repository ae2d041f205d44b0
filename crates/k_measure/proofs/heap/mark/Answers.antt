use Rattle.std.proofs.Common.{sym, subst, ap, ◌∙◌}
use Rattle.k_space.specs.Areas.{AreaValue, HasDistinct, unmarked}
use Rattle.k_exit.specs.Exits.{ExitList, target_marked}
use Rattle.k_measure.specs.Inside.{HasNoBlack}
use Rattle.k_measure.proofs.Inside.{one_unmarked, only_distinct, clean_unmarked, exits_there, exits_unmarked, one_same}
use Rattle.k_measure.proofs.heap.mark.Goals as goal

pub roots-requires-clause-distinct : goal.roots-requires-clause-distinct
roots-requires-clause-distinct c =
    let one = one_unmarked c.args.area.now c.requires.one in
    subst (λ (a : AreaValue). HasDistinct a.segments) (sym c.clear.ensures.area) (only_distinct (unmarked c.args.area.now) one.segment one.only)

pub roots-requires-clause-clean : goal.roots-requires-clause-clean
roots-requires-clause-clean c = subst (λ (a : AreaValue). HasNoBlack a) (sym c.clear.ensures.area) (clean_unmarked c.args.area.now)

pub mark_uncounted-requires-clause-distinct : goal.mark_uncounted-requires-clause-distinct
mark_uncounted-requires-clause-distinct c =
    let one = one_same (unmarked c.args.area.now) c.roots.new.area (c.roots.ensures.kept ∙ ap (λ (a : AreaValue). unmarked a) c.clear.ensures.area) (one_unmarked c.args.area.now c.requires.one) in
    only_distinct c.roots.new.area one.segment one.only

pub mark_uncounted-requires-clause-exits : goal.mark_uncounted-requires-clause-exits
mark_uncounted-requires-clause-exits c =
    exits_there c.roots.new.area c.clear.new.exits.items
    (one_same (unmarked c.args.area.now) c.roots.new.area (c.roots.ensures.kept ∙ ap (λ (a : AreaValue). unmarked a) c.clear.ensures.area) (one_unmarked c.args.area.now c.requires.one))

pub mark_uncounted-requires-clause-unmarked : goal.mark_uncounted-requires-clause-unmarked
mark_uncounted-requires-clause-unmarked c n = ap (λ (e : ExitList). target_marked e.items n) c.clear.ensures.exits ∙ exits_unmarked c.args.exits.now.items n

pub returns : goal.returns
returns c = record {
  one = one_same (unmarked c.args.area.now) c.mark_uncounted.new.area
      (c.mark_uncounted.ensures.kept ∙ c.roots.ensures.kept ∙ ap (λ (a : AreaValue). unmarked a) c.clear.ensures.area)
      (one_unmarked c.args.area.now c.requires.one);
}
