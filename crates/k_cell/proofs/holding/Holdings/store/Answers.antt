use Rattle.std.proofs.Common.{◌≡◌, Option, option_map, slice_get, sym, ap, subst, ◌∙◌}
use Rattle.k_mark.specs.k_types.declared.names.CellPhase.TheVariants.{Idle}
use Rattle.k_mark.specs.k_types.Names.{name_of}
use Rattle.k_mark.specs.k_types.State.{Content, Refers, field_kind}
use Rattle.k_mark.specs.k_space.Bounds.{is_covered}
use Rattle.k_mark.specs.k_space.Areas.{row_of_name}
use Rattle.k_mark.specs.Shown.{area_objects}
use Rattle.k_cell.specs.Holdings.{HoldingsValue}
use Rattle.k_cell.specs.Looks.{found_among, holds_ref, row_fields}
use Rattle.k_cell.specs.Placed.{IsWrittenIf}
use Rattle.k_cell.proofs.Carried.{stored_carried}
use Rattle.k_cell.proofs.Found.{field_found}
use Rattle.k_cell.proofs.Seen.{written_if_kept, written_if_seen}
use Rattle.k_cell.proofs.holding.Holdings.store.Goals as goal

pub invariant_of-self : goal.invariant_of-self
invariant_of-self c =
    let idle : c.self.inside.phase ≡ Idle = ap (λ (h : HoldingsValue). h.value.collection) c.self.view_is ∙ c.requires.idle in
    record {
      tables =
          written_if_kept c.self.inside.bound c.self.inside.area c.store_in-kind.new.self (name_of c.args.at) c.args.field (Refers (option_map name_of c.args.value)) c.self.invariant.tables.numbered (holds_ref (slice_get (row_fields (row_of_name c.self.inside.area.segments (name_of c.args.at))) c.args.field)) c.store_in-kind.ensures.stored c.self.inside.bytes c.self.inside.phase c.self.inside.exits.items c.self.invariant.tables idle;
      carried =
          stored_carried (holds_ref (slice_get (row_fields (row_of_name c.self.inside.area.segments (name_of c.args.at))) c.args.field)) c.self.inside.phase c.self.inside.area c.store_in-kind.new.self c.self.inside.exits.items c.self.inside.carried _ c.args.field (name_of c.args.at) (Refers (option_map name_of c.args.value)) c.self.invariant.carried idle c.store_in-kind.ensures.stored
          (λ t. let s = c.still_whole-self-inside.ensures t in (s.0, sym (ap (is_covered c.self.inside.carried.bound) c.name-name.ensures) ∙ s.1));
    }

pub returns-clause-kind : goal.returns-clause-kind
returns-clause-kind c =
    rw (← c.self.view_is)
    (c.store_in-kind.ensures.kind ∙ ap (option_map field_kind) (sym (field_found (name_of c.args.at) c.self.inside.area.segments c.self.inside.bound c.args.field c.self.invariant.tables.numbered.none)))

pub returns-clause-stored : goal.returns-clause-stored
returns-clause-stored c =
    let idle : c.self.inside.phase ≡ Idle = ap (λ (h : HoldingsValue). h.value.collection) c.self.view_is ∙ c.requires.idle in
    let held = found_among (area_objects c.self.inside.bound c.self.inside.area.segments) (name_of c.args.at) c.args.field in
    let is : slice_get (row_fields (row_of_name c.self.inside.area.segments (name_of c.args.at))) c.args.field ≡ held = sym (field_found (name_of c.args.at) c.self.inside.area.segments c.self.inside.bound c.args.field c.self.invariant.tables.numbered.none) in
    rw (← c.self.view_is)
    (written_if_seen c.self.inside.bound c.self.inside.area c.store_in-kind.new.self (name_of c.args.at) c.args.field (Refers (option_map name_of c.args.value)) c.self.invariant.tables.numbered (holds_ref held)
    (subst (λ (o : Option Content). IsWrittenIf (holds_ref o) c.self.inside.area c.store_in-kind.new.self (name_of c.args.at) c.args.field (Refers (option_map name_of c.args.value))) is c.store_in-kind.ensures.stored) c.self.inside.phase c.self.inside.exits c.self.inside.note idle)
