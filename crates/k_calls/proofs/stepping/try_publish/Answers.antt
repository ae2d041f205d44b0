use Rattle.k_calls.proofs.Refused.{lacks}
use Rattle.k_calls.specs.Doing.{HasRoomToPublish}
use Rattle.k_guests.specs.Serving.{basis_of}
use Rattle.k_calls.specs.declared.errors.HostError.TheVariants.{Full}
use Rattle.k_calls.proofs.stepping.try_publish.Goals as goal

pub returns-then-not-has_room_to_publish-clause-why : goal.returns-then-not-has_room_to_publish-clause-why
returns-then-not-has_room_to_publish-clause-why c = lacks Full (HasRoomToPublish (basis_of c.args.terms.now) c.args.guest.now c.args.book.now) c.has_room_to_publish.result c.has_room_to_publish.ensures c.if-not-has_room_to_publish.true
