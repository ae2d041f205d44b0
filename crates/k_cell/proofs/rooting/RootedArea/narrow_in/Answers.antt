use Rattle.std.proofs.Common.{◌≡◌, sym, subst, ◌∙◌}
use Rattle.std.proofs.lemmas.Bool.{false≢true}
use Rattle.k_mark.specs.k_space.Areas.{AreaValue, HasDistinct}
use Rattle.k_cell.specs.Placed.{CanNarrow, IsResized}
use Rattle.k_cell.proofs.Rooted.{distinct_inside}
use Rattle.k_cell.proofs.rooting.RootedArea.narrow_in.Goals as goal

pub invariant_of-self : goal.invariant_of-self
invariant_of-self c = λ t. absurd (false≢true (sym c.settle.ensures.not_all ∙ t))

pub settle-requires : goal.settle-requires
settle-requires c = distinct_inside c.self.inside.area c.args.self.now c.self.inside.noted.items c.self.view_is c.requires.distinct

pub narrow_in-requires-clause-distinct : goal.narrow_in-requires-clause-distinct
narrow_in-requires-clause-distinct c =
    let seen : c.settle.new.area ≡ c.args.self.now = c.settle.ensures.area ∙ c.self.view_is in
    subst (λ (x : AreaValue). HasDistinct x.segments) (sym seen) c.requires.distinct

pub narrow_in-requires-clause-less : goal.narrow_in-requires-clause-less
narrow_in-requires-clause-less c =
    let seen : c.settle.new.area ≡ c.args.self.now = c.settle.ensures.area ∙ c.self.view_is in
    subst (λ (x : AreaValue). CanNarrow x.segments c.args.seg.0 c.args.room) (sym seen) c.requires.less

pub returns : goal.returns
returns c =
    let seen : c.settle.new.area ≡ c.args.self.now = c.settle.ensures.area ∙ c.self.view_is in
    rw c.settle.ensures.none (subst (λ (x : AreaValue). IsResized x c.narrow_in.new.area c.args.seg.0 c.args.room) seen c.narrow_in.ensures)
