use Rattle.k_operate.proofs.KernelCollected.{can_begin_kernel, has_begun_kernel}
use Rattle.k_operate.proofs.collecting.begin_kernel_collection.Goals as goal

pub begin_kernel-requires : goal.begin_kernel-requires
begin_kernel-requires g c = can_begin_kernel g.world' c.args.process.now c.args.kernel.now c.args.book.now c.requires

pub returns : goal.returns
returns g c =
    has_begun_kernel g.world' c.args.process.now c.args.kernel.now c.args.book.now c.requires c.begin_kernel.new.cell c.begin_kernel.new.kernel c.begin_kernel.new.book c.begin_kernel.result c.begin_kernel.ensures
