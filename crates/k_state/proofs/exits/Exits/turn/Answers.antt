use Rattle.std.proofs.Common.{List, ap, ◌∙◌, length, arith}
use Rattle.k_types.specs.State.{ExitItem}
use Rattle.k_state.proofs.Marked.{length_staying}
use Rattle.k_state.proofs.exits.Exits.turn.Goals as goal

pub link_anew-requires : goal.link_anew-requires
link_anew-requires c =
    let items : List ExitItem = c.self.inside.items.items in
    let left = ap (λ (xs : List ExitItem). length xs) (c.deref.ensures.value ∙ c.turn.ensures) in
    let fewer = length_staying c.args.heaps.now items in
    let room = c.self.invariant.1 in
    record {
      lasts = omega (arith, left, fewer, room.lasts);
      befores = omega (arith, left, fewer, room.befores);
      few = room.few;
    }
