use Rattle.k_laws.proofs.Reaching.{cells_end_once, cells_turn_once}
use Rattle.k_laws.proofs.reached.reached_cells_change_at_most_once.Goals as goal

pub returns-clause-turned : goal.returns-clause-turned
returns-clause-turned c = λ trace known rest p op other limits legal held. cells_turn_once trace known rest p limits legal held op other

pub returns-clause-ended : goal.returns-clause-ended
returns-clause-ended c = cells_end_once
