use Rattle.std.proofs.Common.{◌≡◌, Some, slice_get, arith}
use Rattle.k_guests.specs.Growing.{guest_with_objects}
use Rattle.k_guests.proofs.Changed.{next_read, next_written}
use Rattle.k_guests.proofs.segments.narrow_guests.Goals as goal

pub narrow_guest-requires : goal.narrow_guest-requires
narrow_guest-requires c =
    c.requires.can c.loop-i.i c.index_mut.result.now c.loop-i-test.true
    (next_read (guest_with_objects c.args.objects) c.loop-i.i c.args.guests.now.items c.loop-i.guests.items c.index_mut.result.now c.loop-i.invariant (omega (arith, c.loop-i-test.true, c.requires.count)) c.index_mut.ensures.value)

pub loop-i-preserved : goal.loop-i-preserved
loop-i-preserved c =
    let at : slice_get c.args.guests.now.items c.loop-i.i ≡ Some c.index_mut.result.now =
    next_read (guest_with_objects c.args.objects) c.loop-i.i c.args.guests.now.items c.loop-i.guests.items c.index_mut.result.now c.loop-i.invariant (omega (arith, c.loop-i-test.true, c.requires.count)) c.index_mut.ensures.value in
    next_written (guest_with_objects c.args.objects) c.loop-i.i c.args.guests.now.items c.loop-i.guests.items c.index_mut.result.now c.narrow_guest.new.guest c.loop-i.invariant at c.narrow_guest.ensures
