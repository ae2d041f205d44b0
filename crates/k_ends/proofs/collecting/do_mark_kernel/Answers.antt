use Rattle.k_ends.proofs.Collected.{can_mark_kernel, marked_kernel}
use Rattle.k_ends.proofs.collecting.do_mark_kernel.Goals as goal

pub mark_kernel-requires : goal.mark_kernel-requires
mark_kernel-requires g c = can_mark_kernel g.basis c.args.kernel.now c.requires

pub returns : goal.returns
returns g c = marked_kernel g.basis c.args.kernel.now c.requires c.mark_kernel.new.kernel c.mark_kernel.ensures.rest c.mark_kernel.ensures.marked
