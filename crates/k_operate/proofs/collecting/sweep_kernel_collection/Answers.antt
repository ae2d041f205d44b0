use Rattle.k_operate.proofs.KernelCollected.{can_sweep_kernel}
use Rattle.k_operate.proofs.collecting.sweep_kernel_collection.Goals as goal

pub sweep_kernel-requires : goal.sweep_kernel-requires
sweep_kernel-requires g c = can_sweep_kernel g.world' c.args.kernel.now c.requires

pub returns : goal.returns
returns g c = record { before = c.args.kernel.now; kernel = c.requires; swept = c.sweep_kernel.ensures }
