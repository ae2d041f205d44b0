use Rattle.std.proofs.Common.{IfNone, ◌≡◌, sym, ap, subst, ◌∙◌}
use Rattle.std.proofs.lemmas.Bool.{false≢true}
use Rattle.k_mark.specs.k_space.Areas.{AreaValue, HasDistinct, segment_at}
use Rattle.k_cell.proofs.Rooted.{distinct_inside}
use Rattle.k_cell.proofs.rooting.RootedArea.take.Goals as goal

pub invariant_of-self : goal.invariant_of-self
invariant_of-self c = λ t. absurd (false≢true (sym c.settle.ensures.not_all ∙ t))

pub settle-requires : goal.settle-requires
settle-requires c = distinct_inside c.self.inside.area c.args.self.now c.self.inside.noted.items c.self.view_is c.requires

pub take-requires : goal.take-requires
take-requires c =
    let seen : c.settle.new.area ≡ c.args.self.now = c.settle.ensures.area ∙ c.self.view_is in
    subst (λ (x : AreaValue). HasDistinct x.segments) (sym seen) c.requires

pub returns-clause-value : goal.returns-clause-value
returns-clause-value c =
    let seen : c.settle.new.area ≡ c.args.self.now = c.settle.ensures.area ∙ c.self.view_is in
    c.take.ensures.value ∙ ap (λ (x : AreaValue). segment_at x.segments c.args.seg.0) seen

pub returns-clause-room : goal.returns-clause-room
returns-clause-room c =
    let seen : c.settle.new.area ≡ c.args.self.now = c.settle.ensures.area ∙ c.self.view_is in
    rw c.settle.ensures.none (c.take.ensures.room ∙ ap (λ (x : AreaValue). x.room) seen)

pub returns-clause-distinct : goal.returns-clause-distinct
returns-clause-distinct c =
    let seen : c.settle.new.area ≡ c.args.self.now = c.settle.ensures.area ∙ c.self.view_is in
    rw c.settle.ensures.none (c.take.ensures.distinct)

pub returns-clause-gone : goal.returns-clause-gone
returns-clause-gone c =
    let seen : c.settle.new.area ≡ c.args.self.now = c.settle.ensures.area ∙ c.self.view_is in
    rw c.settle.ensures.none (c.take.ensures.gone)

pub returns-clause-others : goal.returns-clause-others
returns-clause-others c =
    let seen : c.settle.new.area ≡ c.args.self.now = c.settle.ensures.area ∙ c.self.view_is in
    rw c.settle.ensures.none (λ number differs. c.take.ensures.others number differs ∙ ap (λ (x : AreaValue). segment_at x.segments number) seen)

pub returns-clause-kept : goal.returns-clause-kept
returns-clause-kept c =
    let seen : c.settle.new.area ≡ c.args.self.now = c.settle.ensures.area ∙ c.self.view_is in
    rw c.settle.ensures.none (subst (λ (x : AreaValue). IfNone c.take.result (c.take.new.self ≡ x)) seen c.take.ensures.kept)
