use Rattle.std.proofs.Common.{◌≡◌, ◌<◌, [], ◌∷◌, ◌++◌, None, length, sym, ap, subst, ◌∙◌}
use Rattle.std.proofs.lemmas.Bool.{false≢true}
use Rattle.k_mark.specs.k_space.Areas.{AreaValue, HasDistinct, segment_at}
use Rattle.k_cell.proofs.Rooted.{distinct_inside}
use Rattle.k_cell.proofs.rooting.RootedArea.add.Goals as goal

pub invariant_of-self : goal.invariant_of-self
invariant_of-self c = λ t. absurd (false≢true (sym c.settle.ensures.not_all ∙ t))

pub settle-requires : goal.settle-requires
settle-requires c = distinct_inside c.self.inside.area c.args.self.now c.self.inside.noted.items c.self.view_is c.requires.distinct

pub add-requires-clause-distinct : goal.add-requires-clause-distinct
add-requires-clause-distinct c =
    let seen : c.settle.new.area ≡ c.args.self.now = c.settle.ensures.area ∙ c.self.view_is in
    subst (λ (x : AreaValue). HasDistinct x.segments) (sym seen) c.requires.distinct

pub add-requires-clause-room : goal.add-requires-clause-room
add-requires-clause-room c =
    let seen : c.settle.new.area ≡ c.args.self.now = c.settle.ensures.area ∙ c.self.view_is in
    subst (λ (x : AreaValue). length x.segments < x.room) (sym seen) c.requires.room

pub add-requires-clause-new : goal.add-requires-clause-new
add-requires-clause-new c =
    let seen : c.settle.new.area ≡ c.args.self.now = c.settle.ensures.area ∙ c.self.view_is in
    subst (λ (x : AreaValue). segment_at x.segments c.args.segment.number ≡ None) (sym seen) c.requires.new

pub returns-clause-added : goal.returns-clause-added
returns-clause-added c =
    let seen : c.settle.new.area ≡ c.args.self.now = c.settle.ensures.area ∙ c.self.view_is in
    rw c.settle.ensures.none (c.add.ensures.added ∙ ap (λ (x : AreaValue). record x { segments = x.segments ++ c.args.segment ∷ [] }) seen)

pub returns-clause-distinct : goal.returns-clause-distinct
returns-clause-distinct c =
    let seen : c.settle.new.area ≡ c.args.self.now = c.settle.ensures.area ∙ c.self.view_is in
    rw c.settle.ensures.none (c.add.ensures.distinct)
