use Rattle.std.proofs.Common.{◌≡◌, sym, subst, ◌∙◌}
use Rattle.std.proofs.lemmas.Bool.{false≢true}
use Rattle.k_mark.specs.k_space.Areas.{AreaValue, HasDistinct}
use Rattle.k_cell.specs.Placed.{CanPlace, IsPlacedIn}
use Rattle.k_cell.proofs.Rooted.{distinct_inside}
use Rattle.k_cell.proofs.rooting.RootedArea.place_in.Goals as goal

pub invariant_of-self : goal.invariant_of-self
invariant_of-self c = λ t. absurd (false≢true (sym c.settle.ensures.not_all ∙ t))

pub settle-requires : goal.settle-requires
settle-requires c = distinct_inside c.self.inside.area c.args.self.now c.self.inside.noted.items c.self.view_is c.requires.distinct

pub place_in-requires-clause-distinct : goal.place_in-requires-clause-distinct
place_in-requires-clause-distinct c =
    let seen : c.settle.new.area ≡ c.args.self.now = c.settle.ensures.area ∙ c.self.view_is in
    subst (λ (x : AreaValue). HasDistinct x.segments) (sym seen) c.requires.distinct

pub place_in-requires-clause-room : goal.place_in-requires-clause-room
place_in-requires-clause-room c =
    let seen : c.settle.new.area ≡ c.args.self.now = c.settle.ensures.area ∙ c.self.view_is in
    subst (λ (x : AreaValue). CanPlace x.segments c.args.seg.0) (sym seen) c.requires.room

pub returns : goal.returns
returns c =
    let seen : c.settle.new.area ≡ c.args.self.now = c.settle.ensures.area ∙ c.self.view_is in
    rw c.settle.ensures.none (subst (λ (x : AreaValue). IsPlacedIn x c.place_in.new.area c.args.seg.0 c.args.body c.place_in.result) seen c.place_in.ensures)
