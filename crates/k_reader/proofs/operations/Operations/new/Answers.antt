use Rattle.k_reader.proofs.Exits.{AreEnded_fresh}
use Rattle.k_reader.proofs.operations.Operations.new.Goals as goal

pub invariant_of-result : goal.invariant_of-result
invariant_of-result c = rw c.new.ensures.items AreEnded_fresh
