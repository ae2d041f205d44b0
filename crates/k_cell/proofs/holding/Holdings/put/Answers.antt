use Rattle.std.proofs.Common.{◌≡◌, Option, option_map, slice_get, refl, sym, ap, subst, ◌∙◌}
use Rattle.k_mark.specs.k_types.declared.names.CellPhase.TheVariants.{Idle}
use Rattle.k_mark.specs.k_types.Names.{name_of}
use Rattle.k_mark.specs.k_types.State.{Content, Holds, field_kind}
use Rattle.k_mark.specs.k_space.Areas.{row_of_name}
use Rattle.k_mark.specs.Shown.{area_objects}
use Rattle.k_cell.specs.Holdings.{HoldingsValue}
use Rattle.k_cell.specs.Looks.{found_among, holds_int, row_fields}
use Rattle.k_cell.specs.Placed.{IsWrittenIf}
use Rattle.k_cell.proofs.Carried.{put_carried}
use Rattle.k_cell.proofs.Found.{field_found}
use Rattle.k_cell.proofs.Seen.{written_if_kept, written_if_seen}
use Rattle.k_cell.proofs.holding.Holdings.put.Goals as goal

pub invariant_of-self : goal.invariant_of-self
invariant_of-self c =
    let idle : c.self.inside.phase ≡ Idle = ap (λ (h : HoldingsValue). h.value.collection) c.self.view_is ∙ c.requires.idle in
    record {
      tables =
          written_if_kept c.self.inside.bound c.self.inside.area c.put_in.new.self (name_of c.args.at) c.args.field (Holds c.args.value) c.self.invariant.tables.numbered (holds_int (slice_get (row_fields (row_of_name c.self.inside.area.segments (name_of c.args.at))) c.args.field)) c.put_in.ensures.put c.self.inside.bytes c.self.inside.phase c.self.inside.exits.items c.self.invariant.tables idle;
      carried =
          put_carried (slice_get (row_fields (row_of_name c.self.inside.area.segments (name_of c.args.at))) c.args.field) c.self.inside.phase c.self.inside.area c.put_in.new.self c.self.inside.exits.items c.self.inside.carried c.args.field (name_of c.args.at) c.args.value c.self.invariant.carried idle refl c.put_in.ensures.put;
    }

pub returns-clause-kind : goal.returns-clause-kind
returns-clause-kind c =
    rw (← c.self.view_is)
    (c.put_in.ensures.kind ∙ ap (option_map field_kind) (sym (field_found (name_of c.args.at) c.self.inside.area.segments c.self.inside.bound c.args.field c.self.invariant.tables.numbered.none)))

pub returns-clause-put : goal.returns-clause-put
returns-clause-put c =
    let idle : c.self.inside.phase ≡ Idle = ap (λ (h : HoldingsValue). h.value.collection) c.self.view_is ∙ c.requires.idle in
    let held = found_among (area_objects c.self.inside.bound c.self.inside.area.segments) (name_of c.args.at) c.args.field in
    let is : slice_get (row_fields (row_of_name c.self.inside.area.segments (name_of c.args.at))) c.args.field ≡ held = sym (field_found (name_of c.args.at) c.self.inside.area.segments c.self.inside.bound c.args.field c.self.invariant.tables.numbered.none) in
    rw (← c.self.view_is)
    (written_if_seen c.self.inside.bound c.self.inside.area c.put_in.new.self (name_of c.args.at) c.args.field (Holds c.args.value) c.self.invariant.tables.numbered (holds_int held)
    (subst (λ (o : Option Content). IsWrittenIf (holds_int o) c.self.inside.area c.put_in.new.self (name_of c.args.at) c.args.field (Holds c.args.value)) is c.put_in.ensures.put) c.self.inside.phase c.self.inside.exits c.self.inside.note idle)
