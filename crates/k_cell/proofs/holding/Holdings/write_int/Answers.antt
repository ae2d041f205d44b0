use Rattle.std.proofs.Common.{◌≡◌, ap, ◌∙◌, arith}
use Rattle.k_mark.specs.k_types.Names.{name_of}
use Rattle.k_mark.specs.k_types.declared.names.CellPhase.TheVariants.{Idle}
use Rattle.k_mark.specs.k_types.Replies.{is_ref}
use Rattle.k_mark.specs.k_types.State.{Holds}
use Rattle.k_cell.specs.Holdings.{HoldingsValue}
use Rattle.k_cell.specs.Looks.{field_among, field_count_among}
use Rattle.k_cell.proofs.Seen.{int_there, written_kept, written_seen}
use Rattle.k_cell.proofs.Carried.{number_carried}
use Rattle.k_cell.proofs.holding.Holdings.write_int.Goals as goal

pub write_int_in-requires-clause-field : goal.write_int_in-requires-clause-field
write_int_in-requires-clause-field c =
    let few = ap (λ (h : HoldingsValue). field_count_among h.value.objects (name_of c.args.at)) c.self.view_is in
    int_there c.self.inside.bound c.self.inside.area (name_of c.args.at) c.args.field c.self.invariant.tables.numbered.none (omega (arith, few, c.requires.there))
    (ap (λ (h : HoldingsValue). is_ref (field_among h.value.objects (name_of c.args.at) c.args.field)) c.self.view_is ∙ c.requires.kind)

pub invariant_of-self : goal.invariant_of-self
invariant_of-self c =
    let few = ap (λ (h : HoldingsValue). field_count_among h.value.objects (name_of c.args.at)) c.self.view_is in
    let idle : c.self.inside.phase ≡ Idle = ap (λ (h : HoldingsValue). h.value.collection) c.self.view_is ∙ c.requires.idle in
    record {
      tables =
          written_kept c.self.inside.bound c.self.inside.area c.write_int_in.new.self (name_of c.args.at) c.args.field (Holds c.args.value) c.self.invariant.tables.numbered c.write_int_in.ensures c.self.inside.bytes c.self.inside.phase c.self.inside.exits.items c.self.invariant.tables idle;
      carried =
          number_carried c.self.inside.phase c.self.inside.area c.write_int_in.new.self c.self.inside.exits.items c.self.inside.carried c.args.field (name_of c.args.at) c.args.value c.self.invariant.carried idle c.write_int_in.ensures
          (int_there c.self.inside.bound c.self.inside.area (name_of c.args.at) c.args.field c.self.invariant.tables.numbered.none (omega (arith, few, c.requires.there))
          (ap (λ (h : HoldingsValue). is_ref (field_among h.value.objects (name_of c.args.at) c.args.field)) c.self.view_is ∙ c.requires.kind));
    }

pub returns : goal.returns
returns c =
    let idle : c.self.inside.phase ≡ Idle = ap (λ (h : HoldingsValue). h.value.collection) c.self.view_is ∙ c.requires.idle in
    rw (← c.self.view_is)
    (written_seen c.self.inside.bound c.self.inside.area c.write_int_in.new.self (name_of c.args.at) c.args.field (Holds c.args.value) c.self.invariant.tables.numbered c.write_int_in.ensures c.self.inside.phase c.self.inside.exits c.self.inside.note idle)
