use Rattle.std.proofs.Common.{◌≡◌, arith}
use Rattle.k_kernel.specs.Kernels.{opened_kernel}
use Rattle.k_still.specs.Opening.{HasOpenedKernel}
use Rattle.k_process.proofs.Lists.{ok_weaker}
use Rattle.k_still.proofs.Begun.{can_begin, first_serial, kernel_opened, objects_enough}
use Rattle.k_still.proofs.beginning.open_kernel.Goals as goal

pub take_next-note-requires : goal.take_next-note-requires
take_next-note-requires g c = can_begin g.world' 0 c.args.beginnings.now c.requires.beginnings (omega arith)

pub make-requires-clause-objects : goal.make-requires-clause-objects
make-requires-clause-objects g c =
    first_serial g.world'.trace c.take_next-note.result.1
    (objects_enough g.world' 0 c.args.beginnings.now c.take_next-note.new.beginnings c.take_next-note.result.0 c.take_next-note.result.1 c.requires.beginnings c.take_next-note.ensures)

pub returns : goal.returns
returns g c =
    ok_weaker (λ made. made ≡ opened_kernel c.args.setup.now c.take_next-note.result.1 c.args.exits c.take_next-note.result.0)
    (λ made. HasOpenedKernel g.world' made c.take_next-note.new.beginnings)
    (λ made is. kernel_opened g.world' c.args.setup.now c.args.exits c.args.beginnings.now c.take_next-note.new.beginnings c.take_next-note.result.0 c.take_next-note.result.1 made c.requires c.take_next-note.ensures is)
    c.make.result c.make.ensures
