use Rattle.k_own.proofs.Once.{ends_once}
use Rattle.k_own.proofs.laws.ends_are_told_once.Goals as goal

pub returns : goal.returns
returns c = ends_once
