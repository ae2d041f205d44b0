use Rattle.k_mark.proofs.Changed.{written_area}
use Rattle.k_mark.proofs.changes.writing_is_that_of_the_machine.Goals as goal

pub returns : goal.returns
returns c = written_area
