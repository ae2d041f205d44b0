use Rattle.k_audit.proofs.PhasesLaw.{phases_law}
use Rattle.k_audit.proofs.remains.are_phases.Goals as goal

pub returns : goal.returns
returns c = rw c.phases_agree.ensures (phases_law c.args.lists.now.setup c.args.lists.now.state c.setup-shape.ensures.shape.sized)
