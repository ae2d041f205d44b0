use Rattle.std.proofs.Common.{◌≡◌, sym, ap, subst, ◌∙◌}
use Rattle.k_mark.specs.k_types.declared.names.CellPhase.TheVariants.{Idle}
use Rattle.k_mark.specs.k_space.Bounds.{is_covered}
use Rattle.k_cell.specs.Holdings.{HoldingsValue, HasObjectRoom}
use Rattle.k_cell.proofs.Seen.{can_place, placed_kept, placed_name, placed_seen}
use Rattle.k_cell.proofs.Carried.{placed_carried}
use Rattle.k_cell.proofs.holding.Holdings.place.Goals as goal

pub place_in-link-requires-clause-room : goal.place_in-link-requires-clause-room
place_in-link-requires-clause-room c =
    can_place c.self.inside.bound c.args.seg.0 c.self.inside.phase c.self.inside.area c.self.inside.exits c.self.inside.note c.self.invariant.tables.numbered.none
    (subst (λ (h : HoldingsValue). HasObjectRoom h c.args.seg.0) (sym c.self.view_is) c.requires.left)

pub invariant_of-self : goal.invariant_of-self
invariant_of-self c =
    let idle : c.self.inside.phase ≡ Idle = ap (λ (h : HoldingsValue). h.value.collection) c.self.view_is ∙ c.requires.idle in
    record {
      tables =
          rw c.bytes.ensures.size
          (placed_kept c.self.inside.bound c.self.inside.area c.place_in-link.new.self c.self.inside.exits.items c.args.seg.0 c.args.body c.place_in-link.result c.self.invariant.tables.numbered c.place_in-link.ensures c.self.inside.bytes c.self.inside.phase c.self.invariant.tables idle);
      carried =
          placed_carried c.self.inside.phase c.self.inside.area c.place_in-link.new.self c.self.inside.exits.items c.self.inside.carried _ c.args.seg.0 c.args.body c.place_in-link.result c.self.invariant.carried idle c.place_in-link.ensures
          (λ t. let s = c.still_whole-self-inside.ensures t in (s.0, sym (ap (is_covered c.self.inside.carried.bound) c.name.ensures) ∙ s.1));
    }

pub returns-clause-name : goal.returns-clause-name
returns-clause-name c =
    rw (← c.self.view_is)
    (placed_name c.self.inside.bound c.self.inside.area c.place_in-link.new.self c.self.inside.exits.items c.args.seg.0 c.args.body c.place_in-link.result c.self.invariant.tables.numbered c.place_in-link.ensures c.self.inside.phase)

pub returns-clause-placed : goal.returns-clause-placed
returns-clause-placed c =
    let idle : c.self.inside.phase ≡ Idle = ap (λ (h : HoldingsValue). h.value.collection) c.self.view_is ∙ c.requires.idle in
    rw (← c.self.view_is)
    (placed_seen c.self.inside.bound c.self.inside.area c.place_in-link.new.self c.self.inside.exits.items c.args.seg.0 c.args.body c.place_in-link.result c.self.invariant.tables.numbered c.place_in-link.ensures c.self.inside.phase c.self.inside.exits c.self.inside.note idle)
