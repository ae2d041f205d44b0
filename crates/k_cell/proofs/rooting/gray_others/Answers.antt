use Rattle.std.proofs.Common.{◌≡◌, ◌+◌, List, [], ◌∷◌, ◌++◌, take, get_or, true, sym, ap, subst, ◌∙◌}
use Rattle.std.proofs.lemmas.List.{take_more}
use Rattle.k_mark.specs.k_types.declared.names.Name.{Name}
use Rattle.k_mark.specs.k_types.Names.{name_among}
use Rattle.k_mark.specs.k_space.Bounds.{is_covered}
use Rattle.k_mark.specs.k_space.Areas.{AreaValue, HasDistinct, grayed}
use Rattle.k_cell.specs.Rooted.{AreGrayBut}
use Rattle.k_cell.proofs.Rooted.{among_at, distinct_grayed, one_grayed, one_known}
use Rattle.k_cell.proofs.rooting.gray_others.Goals.{then-covers+then-stands_at, else-covers}
use Rattle.k_cell.proofs.rooting.gray_others.Goals as goal

pub loop-target-preserved : goal.loop-target-preserved
loop-target-preserved c =
    let a : AreaValue = c.args.area.now in
    let l = c.loop-target.area in
    let xs = c.args.noted.now in
    let i = c.loop-target.target-index in
    let x : Name = get_or xs i (record { seg = record { 0 = 0 }; serial = record { 0 = 0 } }) in
    let more : take (i + 1) xs ≡ take i xs ++ x ∷ [] = take_more xs i _ c.loop-target-test.true in
    elim c.if-covers.branch [
      | then-covers+then-stands_at w ↦
          let among : name_among x c.args.roots.now ≡ true = among_at x c.args.roots.now c.loop-target.met (w.stands_at.ensures w.if-stands_at.true).1 in
          let low : is_covered c.args.bound x ≡ true = sym c.covers.ensures ∙ w.if-covers.true in (
            subst (λ (y : AreaValue). HasDistinct y.segments) (sym w.area-is) c.loop-target.invariant.0,
            subst (λ (y : AreaValue). AreGrayBut a (take (i + 1) xs) c.args.roots.now c.args.bound y) (sym w.area-is)
                (subst (λ (ns : List Name). AreGrayBut a ns c.args.roots.now c.args.bound l) (sym more) (one_known a l (take i xs) c.args.roots.now c.args.bound x c.requires.clean c.loop-target.invariant.1 among low)),
          )
      | else-covers w ↦
          let is : c.if-covers.area ≡ grayed l x = w.area-is ∙ w.make_gray.ensures ∙ ap (grayed l) w.link.ensures in (
            subst (λ (y : AreaValue). HasDistinct y.segments) (sym is) (distinct_grayed l x c.loop-target.invariant.0),
            subst (λ (y : AreaValue). AreGrayBut a (take (i + 1) xs) c.args.roots.now c.args.bound y) (sym is)
                (subst (λ (ns : List Name). AreGrayBut a ns c.args.roots.now c.args.bound (grayed l x)) (sym more) (one_grayed a l (take i xs) c.args.roots.now c.args.bound x c.requires.clean c.loop-target.invariant.1)),
          )
    ]
