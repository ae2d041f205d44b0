use Rattle.std.proofs.Common.{inl, inr}
use Rattle.k_limits.proofs.Making.{handed_on}
use Rattle.k_calls.proofs.Refused.{lacks}
use Rattle.k_ends.specs.Whole.{CanNotCollect, HasRoomToCollect}
use Rattle.k_calls.specs.k_guests.Serving.{basis_of}
use Rattle.k_calls.specs.declared.errors.HostError.TheVariants.{Full}
use Rattle.k_ends.proofs.whole.try_collect.Goals as goal

pub returns-in_err-awake-clause-why : goal.returns-in_err-awake-clause-why
returns-in_err-awake-clause-why c = handed_on (CanNotCollect (basis_of c.args.terms.now) c.args.book.now c.args.guest.now) c.from_residual.result c.in_err-awake.field-0.0 c.from_residual.ensures.1 (inl c.in_err-awake.ensures.why)

pub returns-then-not-has_room_to_collect-clause-why : goal.returns-then-not-has_room_to_collect-clause-why
returns-then-not-has_room_to_collect-clause-why c = inr (lacks Full (HasRoomToCollect (basis_of c.args.terms.now) c.args.guest.now c.args.book.now) c.has_room_to_collect.result c.has_room_to_collect.ensures c.if-not-has_room_to_collect.true)
