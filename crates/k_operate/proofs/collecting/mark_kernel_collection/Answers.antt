use Rattle.k_operate.proofs.KernelCollected.{can_mark_kernel, has_marked_kernel}
use Rattle.k_operate.proofs.collecting.mark_kernel_collection.Goals as goal

pub mark_kernel-requires : goal.mark_kernel-requires
mark_kernel-requires g c = can_mark_kernel g.world' c.args.kernel.now c.requires

pub returns : goal.returns
returns g c = has_marked_kernel g.world' c.args.kernel.now c.requires c.mark_kernel.new.kernel c.mark_kernel.ensures.rest c.mark_kernel.ensures.marked
