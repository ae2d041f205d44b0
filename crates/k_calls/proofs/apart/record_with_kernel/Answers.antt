use Rattle.std.proofs.Common.{inr}
use Rattle.k_limits.proofs.Making.{handed_on}
use Rattle.k_calls.specs.Apart.{CanNotDoWithKernel}
use Rattle.k_guests.specs.Serving.{basis_of}
use Rattle.k_calls.proofs.Lent.{can_kernel, recorded_kernel}
use Rattle.k_calls.proofs.Provided.{typed}
use Rattle.k_calls.proofs.apart.record_with_kernel.Goals as goal

pub returns-in_err-kernel_ready-clause-why : goal.returns-in_err-kernel_ready-clause-why
returns-in_err-kernel_ready-clause-why c =
    handed_on (CanNotDoWithKernel (basis_of c.args.terms.now) c.args.kernel.now c.args.book.now c.args.op.now c.args.guest.now) c.from_residual.result c.in_err-kernel_ready.field-0.0 c.from_residual.ensures.1
    (inr (record { touches = c.requires.due.touches; barred = c.in_err-kernel_ready.ensures.why }))

pub provide-requires-clause-typed : goal.provide-requires-clause-typed
provide-requires-clause-typed c = typed (basis_of c.args.terms.now) c.args.op.now c.requires.due.ready.in_range

pub do_with_kernel-requires : goal.do_with_kernel-requires
do_with_kernel-requires c =
    can_kernel (basis_of c.args.terms.now) c.args.guest.now c.args.book.now c.args.op.now c.requires.due c.provide.new.guest c.in_ok-provide.ensures.provided c.args.kernel.now c.requires.kernel c.in_ok-kernel_ready.ensures.ok

pub returns-clause-done : goal.returns-clause-done
returns-clause-done c =
    recorded_kernel (basis_of c.args.terms.now) c.args.guest.now c.args.book.now c.args.op.now c.requires.due c.provide.new.guest c.in_ok-provide.ensures.provided
    c.do_with_kernel.new.guest c.do_with_kernel.new.kernel c.do_with_kernel.new.book c.do_with_kernel.result c.do_with_kernel.ensures
