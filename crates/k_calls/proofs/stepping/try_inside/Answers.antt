use Rattle.std.proofs.Common.{inl, inr}
use Rattle.k_types.specs.Steps.{in_range}
use Rattle.k_limits.proofs.Making.{handed_on}
use Rattle.k_calls.proofs.Refused.{lacks_test}
use Rattle.k_calls.specs.Refusals.{CanNotDoInside}
use Rattle.k_guests.specs.Serving.{basis_of, open_trace}
use Rattle.k_calls.specs.declared.errors.HostError.TheVariants.{Unknown}
use Rattle.k_calls.proofs.stepping.try_inside.Goals as goal

pub returns-then-not-is_in_range-clause-why : goal.returns-then-not-is_in_range-clause-why
returns-then-not-is_in_range-clause-why c = inl (lacks_test Unknown (in_range (open_trace c.args.terms.now.setup) c.args.op.now) c.is_in_range.result c.is_in_range.ensures c.if-not-is_in_range.true)

pub returns-in_err-awake-clause-why : goal.returns-in_err-awake-clause-why
returns-in_err-awake-clause-why c = handed_on (CanNotDoInside (basis_of c.args.terms.now) c.args.op.now c.args.guest.now) c.from_residual.result c.in_err-awake.field-0.0 c.from_residual.ensures.1 (inr (inl c.in_err-awake.ensures.why))
