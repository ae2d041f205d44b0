use Rattle.std.proofs.Common.{◌≡◌, option_map, slice_get, sym, ap, subst, ◌∙◌}
use Rattle.std.proofs.lemmas.Bool.{false≢true}
use Rattle.k_mark.specs.k_types.Names.{name_of}
use Rattle.k_mark.specs.k_types.State.{Holds, field_kind}
use Rattle.k_mark.specs.k_space.Areas.{AreaValue, HasDistinct, row_of_name}
use Rattle.k_cell.specs.Looks.{holds_int, row_fields}
use Rattle.k_cell.specs.Placed.{IsWrittenIf}
use Rattle.k_cell.proofs.Rooted.{distinct_inside}
use Rattle.k_cell.proofs.rooting.RootedArea.put_in.Goals as goal

pub invariant_of-self : goal.invariant_of-self
invariant_of-self c = λ t. absurd (false≢true (sym c.settle.ensures.not_all ∙ t))

pub settle-requires : goal.settle-requires
settle-requires c = distinct_inside c.self.inside.area c.args.self.now c.self.inside.noted.items c.self.view_is c.requires

pub put_in-requires : goal.put_in-requires
put_in-requires c =
    let seen : c.settle.new.area ≡ c.args.self.now = c.settle.ensures.area ∙ c.self.view_is in
    subst (λ (x : AreaValue). HasDistinct x.segments) (sym seen) c.requires

pub returns-clause-kind : goal.returns-clause-kind
returns-clause-kind c =
    let seen : c.settle.new.area ≡ c.args.self.now = c.settle.ensures.area ∙ c.self.view_is in
    c.put_in.ensures.kind ∙ ap (λ (x : AreaValue). option_map field_kind (slice_get (row_fields (row_of_name x.segments (name_of c.args.at))) c.args.field)) seen

pub returns-clause-put : goal.returns-clause-put
returns-clause-put c =
    let seen : c.settle.new.area ≡ c.args.self.now = c.settle.ensures.area ∙ c.self.view_is in
    rw c.settle.ensures.none (subst (λ (x : AreaValue). IsWrittenIf (holds_int (slice_get (row_fields (row_of_name x.segments (name_of c.args.at))) c.args.field)) x c.put_in.new.area (name_of c.args.at) c.args.field (Holds c.args.value)) seen c.put_in.ensures.put)
