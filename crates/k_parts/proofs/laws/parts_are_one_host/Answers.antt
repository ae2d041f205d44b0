use Rattle.k_parts.proofs.Together.{one_host}
use Rattle.k_parts.proofs.laws.parts_are_one_host.Goals as goal

pub returns : goal.returns
returns c = one_host
