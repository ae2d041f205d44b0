use Rattle.std.proofs.Common.{◌+◌, drop, sym, ap, subst, ◌∙◌}
use Rattle.std.proofs.lemmas.List.{drop_more}
use Rattle.k_mark.specs.k_space.Areas.{AreaValue, HasDistinct, grayed}
use Rattle.k_cell.specs.Rooted.{grayed_all}
use Rattle.k_cell.proofs.Rooted.{distinct_grayed}
use Rattle.k_cell.proofs.rooting.gray_all.Goals as goal

pub loop-target-preserved : goal.loop-target-preserved
loop-target-preserved c =
    let xs = c.args.targets.now in
    let i = c.loop-target.target-index in
    let is = c.make_gray.ensures ∙ ap (grayed c.loop-target.area) c.link.ensures in (
      subst (λ (x : AreaValue). HasDistinct x.segments) (sym is) (distinct_grayed c.loop-target.area _ c.loop-target.invariant.0),
      ap (λ (x : AreaValue). grayed_all x (drop (i + 1) xs)) is
          ∙ ap (grayed_all c.loop-target.area) (sym (drop_more xs i _ c.loop-target-test.true))
          ∙ c.loop-target.invariant.1,
    )
