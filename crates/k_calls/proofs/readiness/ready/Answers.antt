use Rattle.std.proofs.Common.{◌∙◌, sym, inl, inr}
use Rattle.k_types.specs.Steps.{in_range}
use Rattle.k_operate.specs.Own.{is_collect}
use Rattle.k_operate.specs.Operating.{collects_or_exits}
use Rattle.k_limits.proofs.Making.{handed_on}
use Rattle.k_calls.specs.declared.errors.HostError.TheVariants.{Full, OwnCall, Unknown}
use Rattle.k_calls.specs.Doing.{HasCountRoom}
use Rattle.k_calls.specs.Refusals.{IsNotReady, is_plain}
use Rattle.k_guests.specs.Serving.{basis_of, open_trace}
use Rattle.k_calls.proofs.Refused.{lacks, lacks_test}
use Rattle.k_calls.proofs.readiness.ready.Goals as goal
use Rattle.k_types.proofs.Tests.{neither}

pub returns-then-not-is_in_range-clause-why : goal.returns-then-not-is_in_range-clause-why
returns-then-not-is_in_range-clause-why c = inl (lacks_test Unknown (in_range (open_trace c.args.terms.now.setup) c.args.op.now) c.is_in_range.result c.is_in_range.ensures c.if-not-is_in_range.true)

pub returns-then-not-is_plain-clause-why : goal.returns-then-not-is_plain-clause-why
returns-then-not-is_plain-clause-why c = inr (inl (lacks_test OwnCall (is_plain c.args.op.now) c.is_plain.result c.is_plain.ensures c.if-not-is_plain.true))

pub returns-in_err-awake-clause-why : goal.returns-in_err-awake-clause-why
returns-in_err-awake-clause-why c =
    handed_on (IsNotReady (basis_of c.args.terms.now) c.args.guest.now c.args.op.now) c.from_residual.result c.in_err-awake.field-0.0 c.from_residual.ensures.1 (inr (inr (inl c.in_err-awake.ensures.why)))

pub returns-then-not-has_count_room-clause-why : goal.returns-then-not-has_count_room-clause-why
returns-then-not-has_count_room-clause-why c =
    inr (inr (inr (inl (lacks Full (HasCountRoom c.args.guest.now) c.has_count_room.result c.has_count_room.ensures c.if-not-has_count_room.true))))

pub returns-clause-ok : goal.returns-clause-ok
returns-clause-ok c =
    let plain = neither (is_collect c.args.op.now) (collects_or_exits c.args.op.now) (sym c.is_plain.ensures ∙ c.if-not-is_plain.false) in
    record {
      in_range = sym c.is_in_range.ensures ∙ c.if-not-is_in_range.false;
      no_collection = plain.0;
      goes_on = plain.1;
      awake = c.in_ok-awake.ensures.ok;
      room = c.has_count_room.ensures.0 c.if-not-has_count_room.false;
    }
