use Rattle.k_audit.proofs.GoneLaw.{gone_law}
use Rattle.k_audit.proofs.remains.are_gone.Goals as goal

pub returns : goal.returns
returns c = rw c.nothing_left.ensures (gone_law c.args.lists.now.setup c.args.lists.now.state c.setup-shape.ensures.shape.sized c.requires)
