use Rattle.k_commit.proofs.Fitting.{done_small, entries_small, pins_have_room, pins_small}
use Rattle.k_commit.proofs.laws.counts_fit.Goals as goal

pub returns-clause-done : goal.returns-clause-done
returns-clause-done c = done_small

pub returns-clause-entries : goal.returns-clause-entries
returns-clause-entries c = entries_small

pub returns-clause-pins : goal.returns-clause-pins
returns-clause-pins c = pins_small

pub returns-clause-pin_room : goal.returns-clause-pin_room
returns-clause-pin_room c = pins_have_room
