use Rattle.std.proofs.Common.{inl, inr}
use Rattle.k_limits.proofs.Making.{handed_on}
use Rattle.k_calls.proofs.Refused.{lacks}
use Rattle.k_calls.specs.Doing.{HasEventsLeft}
use Rattle.k_ends.specs.Refusals.{CanNotBegin}
use Rattle.k_calls.specs.k_guests.Serving.{basis_of}
use Rattle.k_calls.specs.declared.errors.HostError.TheVariants.{Full}
use Rattle.k_ends.proofs.starting.try_begin.Goals as goal

pub returns-in_err-awake-clause-why : goal.returns-in_err-awake-clause-why
returns-in_err-awake-clause-why c = handed_on (CanNotBegin (basis_of c.args.terms.now) c.args.book.now c.args.guest.now) c.from_residual.result c.in_err-awake.field-0.0 c.from_residual.ensures.1 (inl c.in_err-awake.ensures.why)

pub returns-then-not-has_events_left-clause-why : goal.returns-then-not-has_events_left-clause-why
returns-then-not-has_events_left-clause-why c = inr (lacks Full (HasEventsLeft (basis_of c.args.terms.now) c.args.guest.now c.args.book.now) c.has_events_left.result c.has_events_left.ensures c.if-not-has_events_left.true)
