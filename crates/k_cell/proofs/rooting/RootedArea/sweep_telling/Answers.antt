use Rattle.std.proofs.Common.{◌≡◌, ◌+◌, ◌<◌, ◌≤◌, ◌^◌, length, sym, ap, subst, ◌∙◌}
use Rattle.std.proofs.lemmas.Bool.{false≢true}
use Rattle.k_mark.specs.k_space.Areas.{AreaValue, HasDistinct}
use Rattle.k_mark.specs.Listening.{AreTold, dead_at}
use Rattle.k_mark.specs.Sweeping.{dead_bytes, dead_objects, swept}
use Rattle.k_cell.proofs.Rooted.{distinct_inside}
use Rattle.k_cell.proofs.rooting.RootedArea.sweep_telling.Goals as goal

pub invariant_of-self : goal.invariant_of-self
invariant_of-self g c = λ t. absurd (false≢true (sym c.settle.ensures.not_all ∙ t))

pub settle-requires : goal.settle-requires
settle-requires g c = distinct_inside c.self.inside.area c.args.self.now c.self.inside.noted.items c.self.view_is c.requires.distinct

pub sweep_telling-requires-clause-distinct : goal.sweep_telling-requires-clause-distinct
sweep_telling-requires-clause-distinct g c =
    let seen : c.settle.new.area ≡ c.args.self.now = c.settle.ensures.area ∙ c.self.view_is in
    subst (λ (x : AreaValue). HasDistinct x.segments) (sym seen) c.requires.distinct

pub sweep_telling-requires-clause-objects : goal.sweep_telling-requires-clause-objects
sweep_telling-requires-clause-objects g c =
    let seen : c.settle.new.area ≡ c.args.self.now = c.settle.ensures.area ∙ c.self.view_is in
    subst (λ (x : AreaValue). c.args.from_dead.now.objects + dead_objects x < 2 ^ 32) (sym seen) c.requires.objects

pub sweep_telling-requires-clause-bytes : goal.sweep_telling-requires-clause-bytes
sweep_telling-requires-clause-bytes g c =
    let seen : c.settle.new.area ≡ c.args.self.now = c.settle.ensures.area ∙ c.self.view_is in
    subst (λ (x : AreaValue). c.args.from_dead.now.bytes + dead_bytes x < 2 ^ 64) (sym seen) c.requires.bytes

pub returns-clause-area : goal.returns-clause-area
returns-clause-area g c =
    let seen : c.settle.new.area ≡ c.args.self.now = c.settle.ensures.area ∙ c.self.view_is in
    rw c.settle.ensures.none (c.sweep_telling.ensures.area ∙ ap swept seen)

pub returns-clause-objects : goal.returns-clause-objects
returns-clause-objects g c =
    let seen : c.settle.new.area ≡ c.args.self.now = c.settle.ensures.area ∙ c.self.view_is in
    c.sweep_telling.ensures.objects ∙ ap (λ (x : AreaValue). c.args.from_dead.now.objects + dead_objects x) seen

pub returns-clause-bytes : goal.returns-clause-bytes
returns-clause-bytes g c =
    let seen : c.settle.new.area ≡ c.args.self.now = c.settle.ensures.area ∙ c.self.view_is in
    c.sweep_telling.ensures.bytes ∙ ap (λ (x : AreaValue). c.args.from_dead.now.bytes + dead_bytes x) seen

pub returns-clause-told : goal.returns-clause-told
returns-clause-told g c =
    let seen : c.settle.new.area ≡ c.args.self.now = c.settle.ensures.area ∙ c.self.view_is in
    subst (λ (x : AreaValue). length (g.L.Listener.heard c.args.listener.now) + dead_objects x ≤ g.L.Listener.room c.args.listener.now → AreTold (dead_at x) (dead_objects x) (g.L.Listener.heard c.args.listener.now) (g.L.Listener.heard c.sweep_telling.new.listener)) seen
    c.sweep_telling.ensures.told
