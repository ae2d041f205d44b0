use Rattle.k_types.specs.Owners.{owner_of}
use Rattle.k_audit.proofs.ExitsLaw.{exits_law}
use Rattle.k_audit.proofs.points.are_exits.Goals as goal

pub returns : goal.returns
returns c =
    let m = c.args.lists.now in
    rw c.exits_leave.ensures (exits_law (owner_of m.setup m.state) m.state.exits)
