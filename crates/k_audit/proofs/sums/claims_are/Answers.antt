use Rattle.k_audit.proofs.ClaimsLaw.{claims_law}
use Rattle.k_audit.proofs.sums.claims_are.Goals as goal

pub returns : goal.returns
returns c = rw c.claims_agree.ensures (claims_law c.args.lists.now.setup c.args.lists.now.state c.args.claims.now c.requires.claims)
