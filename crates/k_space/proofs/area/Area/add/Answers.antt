use Rattle.std.proofs.Common.{◌≡◌, List, ◌++◌, ◌∷◌, [], sym, ap, ◌∙◌, subst}
use Rattle.k_space.specs.Segments.{SegmentValue}
use Rattle.k_space.specs.Areas.{AreaValue, HasDistinct}
use Rattle.k_space.proofs.Numbers.{distinct_push}
use Rattle.k_space.proofs.area.Area.add.Goals as goal

pub returns-clause-distinct : goal.returns-clause-distinct
returns-clause-distinct c =
    let segments : c.self-2.inside.segments.items ≡ c.args.self.now.segments = ap (λ (a : AreaValue). a.segments) (c.self-2.view_is ∙ c.hint.ensures) in
    subst (λ (xs : List SegmentValue). HasDistinct xs) (sym (c.push_reserved.ensures.items ∙ ap (λ (xs : List SegmentValue). xs ++ c.args.segment ∷ []) segments))
    (distinct_push c.args.self.now.segments c.args.segment c.requires.distinct c.requires.new)
