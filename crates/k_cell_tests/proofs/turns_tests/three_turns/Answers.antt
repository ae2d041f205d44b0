use Rattle.std.proofs.Common.{◌∷◌, []}
use Rattle.k_turns.proofs.Lone.{three}
use Rattle.k_cell_tests.proofs.turns_tests.three_turns.Goals as goal

pub returns : goal.returns
returns g c =
    let t = three _ _ _ _ _ _ _ c.requires.fresh c.lone_turn-first.ensures.turn c.lone_turn-second.ensures.turn c.lone_turn-third.ensures.turn in
    (λ i. t.0 i ∷ t.1 i ∷ t.2 i ∷ [])
