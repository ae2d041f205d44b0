use Rattle.std.proofs.Common.{[], ◌∷◌, refl}
use Rattle.k_types.specs.declared.names.Heap.TheVariants.{Kernel}
use Rattle.k_calls.proofs.Due.{can_publish_first, can_with_kernel, done_with_kernel}
use Rattle.k_calls.proofs.doing.do_with_kernel.Goals as goal

pub publish-requires : goal.publish-requires
publish-requires g c = can_publish_first g.basis c.args.guest.now c.args.book.now c.args.op.now (Kernel ∷ []) c.requires.due

pub step_kernel-requires : goal.step_kernel-requires
step_kernel-requires g c =
    can_with_kernel g.basis c.args.guest.now c.args.book.now c.args.op.now (Kernel ∷ []) c.requires.due c.publish.new.cell c.publish.new.book c.publish.ensures c.args.kernel.now c.requires.kernel
    c.requires.ready refl

pub returns : goal.returns
returns g c =
    done_with_kernel g.basis c.args.guest.now c.args.book.now c.args.op.now (Kernel ∷ []) c.requires.due c.publish.new.cell c.publish.new.book c.publish.ensures
    c.step_kernel.new.cell c.step_kernel.new.book c.step_kernel.result c.args.kernel.now c.step_kernel.new.kernel c.requires.kernel c.requires.ready c.know_exits.ensures refl c.step_kernel.ensures
