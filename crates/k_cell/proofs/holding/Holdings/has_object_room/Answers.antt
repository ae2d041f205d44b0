use Rattle.std.proofs.Common.{sym, subst}
use Rattle.k_cell.specs.Holdings.{HoldingsValue, HasObjectRoom}
use Rattle.k_cell.proofs.Seen.{can_place, left_there}
use Rattle.k_cell.proofs.holding.Holdings.has_object_room.Goals as goal

pub returns : goal.returns
returns c = (
  λ yes.
      subst (λ (h : HoldingsValue). HasObjectRoom h c.args.seg.0) c.self.view_is
      (left_there c.self.inside.bound c.args.seg.0 c.self.inside.phase c.self.inside.area c.self.inside.exits c.self.inside.note c.self.invariant.tables.numbered.none (c.has_room_in.ensures.0 yes)),
  λ left.
      c.has_room_in.ensures.1
      (can_place c.self.inside.bound c.args.seg.0 c.self.inside.phase c.self.inside.area c.self.inside.exits c.self.inside.note c.self.invariant.tables.numbered.none
      (subst (λ (h : HoldingsValue). HasObjectRoom h c.args.seg.0) (sym c.self.view_is) left)),
)
