use Rattle.std.proofs.Common.{inr}
use Rattle.k_limits.proofs.Making.{handed_on}
use Rattle.k_calls.specs.Apart.{CanNotDoWithShared}
use Rattle.k_guests.specs.Serving.{basis_of}
use Rattle.k_calls.proofs.Lent.{can_shared, recorded_shared}
use Rattle.k_calls.proofs.Provided.{typed}
use Rattle.k_calls.proofs.apart.record_with_shared.Goals as goal

pub returns-in_err-shared_room-clause-why : goal.returns-in_err-shared_room-clause-why
returns-in_err-shared_room-clause-why c =
    handed_on (CanNotDoWithShared (basis_of c.args.terms.now) c.args.shared.now c.args.book.now c.args.op.now c.args.guest.now) c.from_residual.result c.in_err-shared_room.field-0.0 c.from_residual.ensures.1
    (inr (record { touches = c.requires.due.touches; barred = c.in_err-shared_room.ensures.why }))

pub provide-requires-clause-typed : goal.provide-requires-clause-typed
provide-requires-clause-typed c = typed (basis_of c.args.terms.now) c.args.op.now c.requires.due.ready.in_range

pub do_with_shared-requires : goal.do_with_shared-requires
do_with_shared-requires c =
    can_shared (basis_of c.args.terms.now) c.args.guest.now c.args.book.now c.args.op.now c.args.shared.now c.requires.due c.provide.new.guest c.in_ok-provide.ensures.provided c.requires.shared c.in_ok-shared_room.ensures.ok

pub returns-clause-done : goal.returns-clause-done
returns-clause-done c =
    recorded_shared (basis_of c.args.terms.now) c.args.guest.now c.args.book.now c.args.op.now c.args.shared.now c.requires.due c.provide.new.guest c.in_ok-provide.ensures.provided
    c.do_with_shared.new.guest c.do_with_shared.new.shared c.do_with_shared.new.book c.do_with_shared.result c.do_with_shared.ensures
