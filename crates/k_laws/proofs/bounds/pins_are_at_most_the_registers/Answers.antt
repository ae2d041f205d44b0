use Rattle.k_laws.proofs.BoundsLaws.{pins_are_at_most_the_registers-pins, pins_are_at_most_the_registers-entries}
use Rattle.k_laws.proofs.bounds.pins_are_at_most_the_registers.Goals as goal

pub returns-clause-pins : goal.returns-clause-pins
returns-clause-pins c = pins_are_at_most_the_registers-pins

pub returns-clause-entries : goal.returns-clause-entries
returns-clause-entries c = pins_are_at_most_the_registers-entries
