use Rattle.k_types.specs.Owners.{owner_of}
use Rattle.k_audit.proofs.GuardedLaw.{guarded_law}
use Rattle.k_audit.proofs.points.are_guarded.Goals as goal

pub returns : goal.returns
returns c =
    let m = c.args.lists.now in
    rw c.objects_guarded.ensures (guarded_law (owner_of m.setup m.state) m.state.objects m.state.exits)
