use Rattle.std.proofs.Common.{[], inr}
use Rattle.k_limits.proofs.Making.{handed_on}
use Rattle.k_calls.specs.Apart.{CanNotDoAlone}
use Rattle.k_guests.specs.Serving.{basis_of}
use Rattle.k_calls.proofs.Lent.{due_provided, own_left, recorded}
use Rattle.k_calls.proofs.Provided.{typed}
use Rattle.k_calls.proofs.apart.record_alone.Goals as goal

pub returns-in_err-own_room-clause-why : goal.returns-in_err-own_room-clause-why
returns-in_err-own_room-clause-why c =
    handed_on (CanNotDoAlone (basis_of c.args.terms.now) c.args.book.now c.args.op.now c.args.guest.now) c.from_residual.result c.in_err-own_room.field-0.0 c.from_residual.ensures.1
    (inr (record { touches = c.requires.touches; barred = c.in_err-own_room.ensures.why }))

pub provide-requires-clause-typed : goal.provide-requires-clause-typed
provide-requires-clause-typed c = typed (basis_of c.args.terms.now) c.args.op.now c.requires.ready.in_range

pub do_alone-requires : goal.do_alone-requires
do_alone-requires c = (
  due_provided (basis_of c.args.terms.now) c.args.guest.now c.args.book.now c.args.op.now [] c.requires c.provide.new.guest c.in_ok-provide.ensures.provided,
  own_left (basis_of c.args.terms.now) c.args.guest.now c.args.book.now c.args.op.now [] c.requires c.provide.new.guest c.in_ok-provide.ensures.provided c.in_ok-own_room.ensures.ok,
)

pub returns-clause-done : goal.returns-clause-done
returns-clause-done c =
    recorded (basis_of c.args.terms.now) c.args.guest.now c.args.book.now c.args.op.now [] c.requires c.provide.new.guest c.in_ok-provide.ensures.provided c.do_alone.new.guest c.do_alone.new.book c.do_alone.result c.do_alone.ensures
