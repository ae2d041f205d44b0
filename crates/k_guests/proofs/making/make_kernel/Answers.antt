use Rattle.std.proofs.Common.{◌≡◌}
use Rattle.k_types.specs.declared.names.CellPhase.TheVariants.{Idle}
use Rattle.k_cell.specs.Holdings.{HoldingsValue}
use Rattle.k_kernel.specs.Kernels.{opened_kernel}
use Rattle.k_guests.specs.Serving.{KernelServes, basis_of}
use Rattle.k_process.proofs.Lists.{ok_weaker}
use Rattle.k_guests.proofs.Made.{kernel_made}
use Rattle.k_guests.proofs.making.make_kernel.Goals as goal

pub returns : goal.returns
returns c =
    ok_weaker (λ (k : HoldingsValue). k ≡ opened_kernel c.args.terms.now.setup c.args.terms.now.rooms.objects c.args.terms.now.rooms.kernel_exits c.args.note)
    (λ (k : HoldingsValue). KernelServes (basis_of c.args.terms.now) c.args.note.table k × (k.value.collection ≡ Idle))
    (λ k is. kernel_made c.args.terms.now c.requires.can c.args.note k c.requires.blank is) c.make.result c.make.ensures
