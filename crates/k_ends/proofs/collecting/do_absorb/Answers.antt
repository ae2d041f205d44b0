use Rattle.k_ends.proofs.Collected.{absorbed, can_absorb}
use Rattle.k_ends.proofs.collecting.do_absorb.Goals as goal

pub absorb-requires : goal.absorb-requires
absorb-requires g c = can_absorb g.basis c.args.shared.now c.args.kernel.now c.args.book.now c.requires

pub returns : goal.returns
returns g c = absorbed g.basis c.args.shared.now c.args.kernel.now c.args.book.now c.requires c.absorb.new.shared c.absorb.new.kernel c.absorb.new.book c.absorb.result c.absorb.ensures
