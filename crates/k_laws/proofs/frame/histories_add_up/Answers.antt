use Rattle.k_laws.proofs.FrameLaws.{histories_add_up-state, histories_add_up-legal, histories_add_up-touches, histories_add_up-done}
use Rattle.k_laws.proofs.frame.histories_add_up.Goals as goal

pub returns-clause-state : goal.returns-clause-state
returns-clause-state c = histories_add_up-state

pub returns-clause-legal : goal.returns-clause-legal
returns-clause-legal c = histories_add_up-legal

pub returns-clause-touches : goal.returns-clause-touches
returns-clause-touches c = histories_add_up-touches

pub returns-clause-done : goal.returns-clause-done
returns-clause-done c = histories_add_up-done
