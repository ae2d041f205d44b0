use Rattle.std.proofs.Common.{sym, inl, inr}
use Rattle.k_limits.proofs.Making.{handed_on}
use Rattle.k_calls.specs.Apart.{CanNotTry}
use Rattle.k_guests.specs.Serving.{basis_of}
use Rattle.k_calls.proofs.Lent.{done_here, left_here, room_inside, serves_inside}
use Rattle.k_calls.proofs.apart.try_here.Goals as goal

pub returns-in_err-ready-clause-why : goal.returns-in_err-ready-clause-why
returns-in_err-ready-clause-why c =
    handed_on (CanNotTry (basis_of c.args.terms.now) c.args.book.now c.args.op.now c.args.guest.now) c.from_residual.result c.in_err-ready.field-0.0 c.from_residual.ensures.1 (inl c.in_err-ready.ensures.why)

pub returns-in_err-room_left-clause-why : goal.returns-in_err-room_left-clause-why
returns-in_err-room_left-clause-why c =
    handed_on (CanNotTry (basis_of c.args.terms.now) c.args.book.now c.args.op.now c.args.guest.now) c.from_residual-in_err-room_left.result c.in_err-room_left.field-0.0 c.from_residual-in_err-room_left.ensures.1
    (inr c.in_err-room_left.ensures.why)

pub publish_where_full-requires-clause-guest : goal.publish_where_full-requires-clause-guest
publish_where_full-requires-clause-guest c =
    serves_inside (basis_of c.args.terms.now) c.args.guest.now c.args.book.now c.args.op.now c.requires.guest c.requires.book c.in_ok-ready.ensures.ok c.in_ok-room_left.ensures.ok c.requires.few
    c.do_inside.new.guest c.in-Some.reply (sym c.in-Some.ensures.told) c.in-Some.ensures.some

pub publish_where_full-requires-clause-room : goal.publish_where_full-requires-clause-room
publish_where_full-requires-clause-room c =
    room_inside (basis_of c.args.terms.now) c.args.guest.now c.args.book.now c.args.op.now c.requires.guest c.requires.book c.in_ok-ready.ensures.ok c.in_ok-room_left.ensures.ok c.requires.few
    c.do_inside.new.guest c.in-Some.reply (sym c.in-Some.ensures.told) c.in-Some.ensures.some

pub returns-in-Some-clause-done : goal.returns-in-Some-clause-done
returns-in-Some-clause-done c =
    done_here (basis_of c.args.terms.now) c.args.guest.now c.args.book.now c.args.op.now c.requires.guest c.requires.book c.in_ok-ready.ensures.ok c.in_ok-room_left.ensures.ok c.requires.few
    c.do_inside.new.guest c.in-Some.reply (sym c.in-Some.ensures.told) c.in-Some.ensures.some c.publish_where_full.new.guest c.publish_where_full.new.book c.pid-pid.result c.pid-pid.ensures c.publish_where_full.ensures

pub returns-clause-done : goal.returns-clause-done
returns-clause-done c =
    left_here (basis_of c.args.terms.now) c.args.guest.now c.args.book.now c.args.op.now c.requires.guest c.requires.book c.in_ok-ready.ensures.ok c.in_ok-room_left.ensures.ok c.requires.few
    c.do_inside.new.guest c.in_default.ensures.none c.in_default.ensures.outside c.reached.result c.reached.ensures
