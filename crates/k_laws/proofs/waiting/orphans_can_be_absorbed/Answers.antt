use Rattle.k_laws.proofs.OrderLaws.{orphans_can_be_absorbed}
use Rattle.k_laws.proofs.waiting.orphans_can_be_absorbed.Goals as goal

pub returns : goal.returns
returns c = orphans_can_be_absorbed
