use Rattle.k_turns.proofs.Lone.{not_empty}
use Rattle.k_cell_tests.proofs.turns_tests.lone_turn.Goals as goal

pub returns-in_err-pid-clause-turn : goal.returns-in_err-pid-clause-turn
returns-in_err-pid-clause-turn g c = absurd (not_empty _ c.requires.lone c.in_err-pid.ensures.none.1)
