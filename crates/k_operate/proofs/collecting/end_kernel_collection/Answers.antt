use Rattle.k_operate.proofs.KernelCollected.{can_end_kernel, has_ended_kernel}
use Rattle.k_operate.proofs.collecting.end_kernel_collection.Goals as goal

pub end_swept_kernel-requires : goal.end_swept_kernel-requires
end_swept_kernel-requires g c = can_end_kernel g.world' c.args.kernel.now c.args.book.now c.args.freed c.requires

pub returns : goal.returns
returns g c =
    has_ended_kernel g.world' c.args.kernel.now c.args.book.now c.args.freed c.requires c.end_swept_kernel.new.kernel c.end_swept_kernel.new.book c.end_swept_kernel.result c.end_swept_kernel.ensures
