use Rattle.k_text.proofs.InOrder.{rising_exits}
use Rattle.k_text.proofs.laws.exits_are_told_by_their_targets.Goals as goal

pub returns : goal.returns
returns c = rising_exits
