use Rattle.std.proofs.Common.{◌≡◌, option_map, sym, ap, ◌∙◌}
use Rattle.k_mark.specs.k_types.declared.names.CellPhase.TheVariants.{Idle}
use Rattle.k_mark.specs.k_types.Names.{name_of}
use Rattle.k_mark.specs.k_types.Replies.{is_ref}
use Rattle.k_mark.specs.k_types.State.{Refers}
use Rattle.k_mark.specs.k_space.Bounds.{is_covered}
use Rattle.k_cell.specs.Holdings.{HoldingsValue}
use Rattle.k_cell.specs.Looks.{field_among}
use Rattle.k_cell.proofs.Seen.{ref_there, written_kept, written_seen}
use Rattle.k_cell.proofs.Carried.{written_carried}
use Rattle.k_cell.proofs.holding.Holdings.write_ref.Goals as goal

pub write_ref_in-requires-clause-field : goal.write_ref_in-requires-clause-field
write_ref_in-requires-clause-field c =
    ref_there c.self.inside.bound c.self.inside.area (name_of c.args.at) c.args.field c.self.invariant.tables.numbered.none
    (ap (λ (h : HoldingsValue). is_ref (field_among h.value.objects (name_of c.args.at) c.args.field)) c.self.view_is ∙ c.requires.kind)

pub invariant_of-self : goal.invariant_of-self
invariant_of-self c =
    let idle : c.self.inside.phase ≡ Idle = ap (λ (h : HoldingsValue). h.value.collection) c.self.view_is ∙ c.requires.idle in
    record {
      tables =
          written_kept c.self.inside.bound c.self.inside.area c.write_ref_in.new.self (name_of c.args.at) c.args.field (Refers (option_map name_of c.args.value)) c.self.invariant.tables.numbered c.write_ref_in.ensures c.self.inside.bytes c.self.inside.phase c.self.inside.exits.items c.self.invariant.tables idle;
      carried =
          written_carried c.self.inside.phase c.self.inside.area c.write_ref_in.new.self c.self.inside.exits.items c.self.inside.carried _ c.args.field (name_of c.args.at) (Refers (option_map name_of c.args.value)) c.self.invariant.carried idle c.write_ref_in.ensures
          (λ t. let s = c.still_whole-self-inside.ensures t in (s.0, sym (ap (is_covered c.self.inside.carried.bound) c.name.ensures) ∙ s.1));
    }

pub returns : goal.returns
returns c =
    let idle : c.self.inside.phase ≡ Idle = ap (λ (h : HoldingsValue). h.value.collection) c.self.view_is ∙ c.requires.idle in
    rw (← c.self.view_is)
    (written_seen c.self.inside.bound c.self.inside.area c.write_ref_in.new.self (name_of c.args.at) c.args.field (Refers (option_map name_of c.args.value)) c.self.invariant.tables.numbered c.write_ref_in.ensures c.self.inside.phase c.self.inside.exits c.self.inside.note idle)
