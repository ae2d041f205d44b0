use Rattle.std.proofs.Common.{◌≡◌, ◌≤◌, sym, subst, ◌∙◌, OnErr, OnOk, Some}
use Rattle.std.proofs.lemmas.Bool.{false≢true}
use Rattle.k_mark.specs.k_space.Segments.{SegmentValue, living}
use Rattle.k_mark.specs.k_space.Areas.{AreaValue, HasDistinct, segment_at}
use Rattle.k_cell.specs.Placed.{CanGrow, IsResized}
use Rattle.k_cell.proofs.Rooted.{distinct_inside}
use Rattle.k_cell.proofs.rooting.RootedArea.grow_in.Goals as goal

pub invariant_of-self : goal.invariant_of-self
invariant_of-self c = λ t. absurd (false≢true (sym c.settle.ensures.not_all ∙ t))

pub settle-requires : goal.settle-requires
settle-requires c = distinct_inside c.self.inside.area c.args.self.now c.self.inside.noted.items c.self.view_is c.requires.distinct

pub grow_in-requires-clause-distinct : goal.grow_in-requires-clause-distinct
grow_in-requires-clause-distinct c =
    let seen : c.settle.new.area ≡ c.args.self.now = c.settle.ensures.area ∙ c.self.view_is in
    subst (λ (x : AreaValue). HasDistinct x.segments) (sym seen) c.requires.distinct

pub grow_in-requires-clause-more : goal.grow_in-requires-clause-more
grow_in-requires-clause-more c =
    let seen : c.settle.new.area ≡ c.args.self.now = c.settle.ensures.area ∙ c.self.view_is in
    subst (λ (x : AreaValue). CanGrow x.segments c.args.seg.0 c.args.room) (sym seen) c.requires.more

pub returns-clause-ok : goal.returns-clause-ok
returns-clause-ok c =
    let seen : c.settle.new.area ≡ c.args.self.now = c.settle.ensures.area ∙ c.self.view_is in
    rw c.settle.ensures.none (subst (λ (x : AreaValue). OnOk c.grow_in.result (IsResized x c.grow_in.new.area c.args.seg.0 c.args.room)) seen c.grow_in.ensures.ok)

pub returns-clause-err : goal.returns-clause-err
returns-clause-err c =
    let seen : c.settle.new.area ≡ c.args.self.now = c.settle.ensures.area ∙ c.self.view_is in
    rw c.settle.ensures.none (subst (λ (x : AreaValue). OnErr c.grow_in.result (c.grow_in.new.area ≡ x)) seen c.grow_in.ensures.err)

pub returns-clause-within : goal.returns-clause-within
returns-clause-within c =
    let seen : c.settle.new.area ≡ c.args.self.now = c.settle.ensures.area ∙ c.self.view_is in
    subst (λ (x : AreaValue). (s : SegmentValue) → segment_at x.segments c.args.seg.0 ≡ Some s → living s ≤ s.room) seen c.grow_in.ensures.within
