use Rattle.std.proofs.Common.{IsTrue, inl, inr, subst, ◌↔◌, ◌≡◌}
use Rattle.k_types.specs.declared.names.CellPhase.{CellPhase}
use Rattle.k_types.specs.declared.names.CellPhase.TheVariants.{Idle}
use Rattle.k_limits.proofs.Making.{handed_on}
use Rattle.k_calls.proofs.Refused.{lacks}
use Rattle.k_calls.specs.Doing.{HasEventsLeft}
use Rattle.k_ends.specs.Refusals.{CanNotExit}
use Rattle.k_calls.specs.k_guests.Serving.{basis_of}
use Rattle.k_calls.specs.declared.errors.HostError.TheVariants.{Full, Phase}
use Rattle.k_ends.proofs.starting.try_exit.Goals as goal

pub returns-in_err-awake-clause-why : goal.returns-in_err-awake-clause-why
returns-in_err-awake-clause-why c = handed_on (CanNotExit (basis_of c.args.terms.now) c.args.kernel.now c.args.book.now c.args.guest.now) c.from_residual.result c.in_err-awake.field-0.0 c.from_residual.ensures.1 (inl c.in_err-awake.ensures.why)

pub returns-then-not-is_idle-clause-why : goal.returns-then-not-is_idle-clause-why
returns-then-not-is_idle-clause-why c = inr (inl (lacks Phase (c.args.kernel.now.value.collection ≡ Idle) c.is_idle.result (subst (λ (phase : CellPhase). IsTrue c.is_idle.result ↔ (phase ≡ Idle)) c.phase.ensures c.is_idle.ensures) c.if-not-is_idle.true))

pub returns-then-not-has_events_left-clause-why : goal.returns-then-not-has_events_left-clause-why
returns-then-not-has_events_left-clause-why c = inr (inr (lacks Full (HasEventsLeft (basis_of c.args.terms.now) c.args.guest.now c.args.book.now) c.has_events_left.result c.has_events_left.ensures c.if-not-has_events_left.true))
