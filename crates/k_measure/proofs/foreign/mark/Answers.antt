use Rattle.std.proofs.Common.{sym, subst, ap, ◌∙◌, map}
use Rattle.k_space.specs.Areas.{AreaValue, HasDistinct, unmarked}
use Rattle.k_exit.specs.Exits.{ExitList, target_marked, unmarked_row}
use Rattle.k_measure.specs.Inside.{IsOneWith, HasNoBlack}
use Rattle.k_measure.proofs.Inside.{only_distinct, clean_unmarked, exits_kept, exits_unmarked, kept_unmarked, with_same}
use Rattle.k_measure.proofs.foreign.mark.Goals as goal
use Rattle.k_space.proofs.Segs.{unmarked_twice}

pub roots-requires-clause-distinct : goal.roots-requires-clause-distinct
roots-requires-clause-distinct c =
    let one = with_same c.args.exits.now.items c.args.area.now (unmarked c.args.area.now) (unmarked_twice c.args.area.now) c.requires in
    subst (λ (a : AreaValue). HasDistinct a.segments) (sym c.clear.ensures.area) (only_distinct (unmarked c.args.area.now) one.segment one.only)

pub roots-requires-clause-clean : goal.roots-requires-clause-clean
roots-requires-clause-clean c = subst (λ (a : AreaValue). HasNoBlack a) (sym c.clear.ensures.area) (clean_unmarked c.args.area.now)

pub mark_uncounted-requires-clause-distinct : goal.mark_uncounted-requires-clause-distinct
mark_uncounted-requires-clause-distinct c =
    let same = c.roots.ensures.kept ∙ ap (λ (a : AreaValue). unmarked a) c.clear.ensures.area ∙ unmarked_twice c.args.area.now in
    let one = with_same c.args.exits.now.items c.args.area.now c.roots.new.area same c.requires in
    only_distinct c.roots.new.area one.segment one.only

pub mark_uncounted-requires-clause-exits : goal.mark_uncounted-requires-clause-exits
mark_uncounted-requires-clause-exits c =
    let same = c.roots.ensures.kept ∙ ap (λ (a : AreaValue). unmarked a) c.clear.ensures.area ∙ unmarked_twice c.args.area.now in
    let one : IsOneWith (map unmarked_row c.args.exits.now.items) c.roots.new.area
    = kept_unmarked c.args.exits.now.items c.roots.new.area (with_same c.args.exits.now.items c.args.area.now c.roots.new.area same c.requires) in
    exits_kept c.roots.new.area c.clear.new.exits.items (subst (λ (e : ExitList). IsOneWith e.items c.roots.new.area) (sym c.clear.ensures.exits) one)

pub mark_uncounted-requires-clause-unmarked : goal.mark_uncounted-requires-clause-unmarked
mark_uncounted-requires-clause-unmarked c n = ap (λ (e : ExitList). target_marked e.items n) c.clear.ensures.exits ∙ exits_unmarked c.args.exits.now.items n
