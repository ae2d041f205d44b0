use Rattle.k_audit.proofs.ClaimsLaw.{uses_law}
use Rattle.k_audit.proofs.sums.uses_fit.Goals as goal

pub returns : goal.returns
returns c = rw c.all_uses_fit.ensures (uses_law c.args.lists.now.setup c.args.lists.now.state)
