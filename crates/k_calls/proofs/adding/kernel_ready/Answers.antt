use Rattle.std.proofs.Common.{◌≡◌, ◌↔◌, IsTrue, subst, inl, inr}
use Rattle.k_types.specs.declared.names.CellPhase.{CellPhase}
use Rattle.k_types.specs.declared.names.CellPhase.TheVariants.{Idle}
use Rattle.k_calls.specs.declared.errors.HostError.TheVariants.{Phase}
use Rattle.k_calls.specs.Adding.{HasKernelRoom}
use Rattle.k_guests.specs.Serving.{basis_of}
use Rattle.k_calls.proofs.Refused.{lacks, lacks_room}
use Rattle.k_calls.proofs.adding.kernel_ready.Goals as goal

pub returns-then-not-is_idle-clause-why : goal.returns-then-not-is_idle-clause-why
returns-then-not-is_idle-clause-why c =
    inl (lacks Phase (c.args.kernel.now.value.collection ≡ Idle) c.is_idle.result
    (subst (λ (phase : CellPhase). IsTrue c.is_idle.result ↔ (phase ≡ Idle)) c.phase.ensures c.is_idle.ensures) c.if-not-is_idle.true)

pub returns-then-not-has_kernel_room-clause-why : goal.returns-then-not-has_kernel_room-clause-why
returns-then-not-has_kernel_room-clause-why c =
    inr (lacks_room c.args.op.now (HasKernelRoom (basis_of c.args.terms.now) c.args.kernel.now c.args.book.now c.args.op.now) c.has_kernel_room.result c.has_kernel_room.ensures c.if-not-has_kernel_room.true c.lacking.result c.lacking.ensures)
