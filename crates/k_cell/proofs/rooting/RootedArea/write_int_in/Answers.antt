use Rattle.std.proofs.Common.{◌≡◌, sym, subst, ◌∙◌}
use Rattle.std.proofs.lemmas.Bool.{false≢true}
use Rattle.k_mark.specs.k_types.Names.{name_of}
use Rattle.k_mark.specs.k_types.State.{Holds}
use Rattle.k_mark.specs.k_space.Areas.{AreaValue, HasDistinct}
use Rattle.k_cell.specs.Placed.{IsIntAt, IsWrittenIn}
use Rattle.k_cell.proofs.Rooted.{distinct_inside}
use Rattle.k_cell.proofs.rooting.RootedArea.write_int_in.Goals as goal

pub invariant_of-self : goal.invariant_of-self
invariant_of-self c = λ t. absurd (false≢true (sym c.settle.ensures.not_all ∙ t))

pub settle-requires : goal.settle-requires
settle-requires c = distinct_inside c.self.inside.area c.args.self.now c.self.inside.noted.items c.self.view_is c.requires.distinct

pub write_int_in-requires-clause-distinct : goal.write_int_in-requires-clause-distinct
write_int_in-requires-clause-distinct c =
    let seen : c.settle.new.area ≡ c.args.self.now = c.settle.ensures.area ∙ c.self.view_is in
    subst (λ (x : AreaValue). HasDistinct x.segments) (sym seen) c.requires.distinct

pub write_int_in-requires-clause-field : goal.write_int_in-requires-clause-field
write_int_in-requires-clause-field c =
    let seen : c.settle.new.area ≡ c.args.self.now = c.settle.ensures.area ∙ c.self.view_is in
    subst (λ (x : AreaValue). IsIntAt x.segments (name_of c.args.at) c.args.field) (sym seen) c.requires.field

pub returns : goal.returns
returns c =
    let seen : c.settle.new.area ≡ c.args.self.now = c.settle.ensures.area ∙ c.self.view_is in
    rw c.settle.ensures.none (subst (λ (x : AreaValue). IsWrittenIn x c.write_int_in.new.area (name_of c.args.at) c.args.field (Holds c.args.value)) seen c.write_int_in.ensures)
