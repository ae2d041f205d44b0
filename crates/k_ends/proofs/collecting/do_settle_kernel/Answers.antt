use Rattle.k_ends.proofs.Collected.{can_settle_kernel, settled_kernel}
use Rattle.k_ends.proofs.collecting.do_settle_kernel.Goals as goal

pub settle_kernel-requires : goal.settle_kernel-requires
settle_kernel-requires g c = can_settle_kernel g.basis c.args.kernel.now c.args.book.now c.requires.0 c.requires.1.0 c.requires.1.1

pub returns : goal.returns
returns g c =
    settled_kernel g.basis c.args.kernel.now c.args.book.now c.requires.0 c.requires.1.0 c.requires.1.1 c.settle_kernel.new.kernel c.settle_kernel.new.book c.settle_kernel.ensures
