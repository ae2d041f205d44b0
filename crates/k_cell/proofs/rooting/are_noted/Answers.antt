use Rattle.std.proofs.Common.{◌≡◌, length, eqb-true, arith}
use Rattle.k_cell.proofs.Rooted.{all_noted}
use Rattle.k_cell.proofs.rooting.are_noted.Goals as goal

pub returns : goal.returns
returns c = λ t n among.
    let all : c.loop-target.met ≡ length c.args.roots.now = eqb-true c.loop-target.met (length c.args.roots.now) t in
    all_noted c.args.noted.now c.args.roots.now (λ k r within at. c.loop-target.invariant.1 k r (omega (arith, within, all)) at) n among
