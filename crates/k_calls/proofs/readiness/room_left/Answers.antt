use Rattle.k_calls.specs.declared.errors.HostError.TheVariants.{Full}
use Rattle.k_calls.specs.Doing.{HasEventsLeft}
use Rattle.k_guests.specs.Serving.{basis_of}
use Rattle.k_calls.proofs.Refused.{lacks}
use Rattle.k_calls.proofs.readiness.room_left.Goals as goal

pub returns-then-not-has_events_left-clause-why : goal.returns-then-not-has_events_left-clause-why
returns-then-not-has_events_left-clause-why c =
    lacks Full (HasEventsLeft (basis_of c.args.terms.now) c.args.guest.now c.args.book.now) c.has_events_left.result c.has_events_left.ensures c.if-not-has_events_left.true
