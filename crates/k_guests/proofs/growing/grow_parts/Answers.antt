use Rattle.k_guests.proofs.Grown.{can_move, can_narrow, have_grown, have_objects, have_stayed}
use Rattle.k_guests.proofs.growing.grow_parts.Goals as goal

pub grow_objects-requires-clause-own : goal.grow_objects-requires-clause-own
grow_objects-requires-clause-own c = have_objects c.args.terms.now c.args.rooms.now c.args.guests.now.items c.args.kernel.now c.args.shared.now.items c.args.book.now c.requires

pub move_parts-requires-clause-can : goal.move_parts-requires-clause-can
move_parts-requires-clause-can c =
    can_move c.args.terms.now c.args.rooms.now c.args.guests.now.items c.args.kernel.now c.args.shared.now.items c.args.book.now c.requires
    c.grow_objects.new.guests.items c.grow_objects.new.kernel c.grow_objects.new.shared.items c.in_ok-grow_objects.ensures.ok c.in-Ok.kept c.grow_kept.new.self c.in-Ok.ensures.ok

pub narrow_objects-requires : goal.narrow_objects-requires
narrow_objects-requires c =
    can_narrow c.args.terms.now c.args.rooms.now c.args.guests.now.items c.args.kernel.now c.args.shared.now.items c.args.book.now c.requires
    c.grow_objects.new.guests.items c.grow_objects.new.kernel c.grow_objects.new.shared.items c.in_ok-grow_objects.ensures.ok c.in_ok-grow_objects.ensures.fit

pub returns-in-Ok-clause-ok : goal.returns-in-Ok-clause-ok
returns-in-Ok-clause-ok c =
    have_grown c.args.terms.now c.args.rooms.now c.args.guests.now.items c.args.kernel.now c.args.shared.now.items c.args.book.now c.requires
    c.grow_objects.new.guests.items c.grow_objects.new.kernel c.grow_objects.new.shared.items c.in_ok-grow_objects.ensures.ok
    c.in-Ok.kept c.move_parts.new.guests.items c.move_parts.new.kernel c.move_parts.new.shared.items c.grow_kept.new.self c.move_parts.new.book c.in-Ok.ensures.ok c.move_parts.ensures

pub returns-in-Err-clause-same : goal.returns-in-Err-clause-same
returns-in-Err-clause-same c =
    have_stayed c.args.terms.now c.args.rooms.now c.args.guests.now.items c.args.kernel.now c.args.shared.now.items c.args.book.now c.requires
    c.grow_objects.new.guests.items c.grow_objects.new.kernel c.grow_objects.new.shared.items c.in_ok-grow_objects.ensures.ok
    c.narrow_objects.new.guests.items c.narrow_objects.new.kernel c.narrow_objects.new.shared.items c.grow_kept.new.self c.narrow_objects.ensures c.in-Err.ensures.err
