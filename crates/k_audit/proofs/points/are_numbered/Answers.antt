use Rattle.k_audit.proofs.NumberedLaw.{numbered_law}
use Rattle.k_audit.proofs.points.are_numbered.Goals as goal

pub returns : goal.returns
returns c = rw c.all_numbered.ensures (numbered_law c.args.state.now.objects c.args.state.now.made)
