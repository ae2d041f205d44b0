use Rattle.k_calls.specs.Adding.{HasOwnRoom}
use Rattle.k_guests.specs.Serving.{basis_of}
use Rattle.k_calls.proofs.Refused.{lacks_room}
use Rattle.k_calls.proofs.adding.own_room.Goals as goal

pub returns-then-not-has_own_room-clause-why : goal.returns-then-not-has_own_room-clause-why
returns-then-not-has_own_room-clause-why c =
    lacks_room c.args.op.now (HasOwnRoom (basis_of c.args.terms.now) c.args.guest.now c.args.book.now c.args.op.now) c.has_own_room.result c.has_own_room.ensures c.if-not-has_own_room.true c.lacking.result c.lacking.ensures
