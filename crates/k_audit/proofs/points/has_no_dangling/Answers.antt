use Rattle.k_audit.proofs.DanglingLaw.{dangling_law}
use Rattle.k_audit.proofs.points.has_no_dangling.Goals as goal

pub returns : goal.returns
returns c = rw c.nothing_dangles.ensures (dangling_law c.args.lists.now.setup c.args.lists.now.state c.setup-shape.ensures.shape.sized c.requires)
