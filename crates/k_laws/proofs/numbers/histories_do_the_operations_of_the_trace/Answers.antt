use Rattle.k_laws.proofs.KnownLaws.{histories_do_the_operations_of_the_trace}
use Rattle.k_laws.proofs.numbers.histories_do_the_operations_of_the_trace.Goals as goal

pub returns : goal.returns
returns c = histories_do_the_operations_of_the_trace
