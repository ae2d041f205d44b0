use Rattle.k_laws.proofs.KnownLaws.{tails_are_operations_alone}
use Rattle.k_laws.proofs.known.tails_are_operations_alone.Goals as goal

pub returns : goal.returns
returns c = tails_are_operations_alone
