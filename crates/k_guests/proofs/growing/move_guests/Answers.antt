use Rattle.std.proofs.Common.{◌≡◌, ◌<◌, ◌∙◌, ◌∷◌, ap, refl, length, Some, [], slice_get, arith}
use Rattle.std.proofs.lemmas.List.{length-append}
use Rattle.k_guests.specs.Growing.{IsGuestRoom, guest_with_tables}
use Rattle.k_guests.proofs.Changed.{changed_all, next_read, next_written, of_before, of_last}
use Rattle.k_guests.proofs.Grown.{can_move_in, moved_in}
use Rattle.k_guests.proofs.growing.move_guests.Goals as goal

pub loop-i-init : goal.loop-i-init
loop-i-init c = record { guests_are = refl; count = omega (arith, c.requires.count); each = c.requires.each }

pub take_guest_room-room-requires : goal.take_guest_room-room-requires
take_guest_room-room-requires c = omega (arith, c.loop-i.invariant.count, c.loop-i-test.true, c.len-i-end.ensures)

pub move_guest-requires : goal.move_guest-requires
move_guest-requires c =
    let below : c.loop-i.i < length c.args.guests.now.items = omega (arith, c.loop-i-test.true, c.len-i-end.ensures) in
    let at = next_read (guest_with_tables c.args.rooms.now.exits c.args.rooms.now.tail) c.loop-i.i c.args.guests.now.items c.loop-i.guests.items c.index_mut.result.now c.loop-i.invariant.guests_are below c.index_mut.ensures.value in
    let room = of_last (IsGuestRoom c.args.rooms.now) c.loop-i.larger.items c.take_guest_room-room.new.rooms.items c.take_guest_room-room.result c.take_guest_room-room.ensures c.loop-i.invariant.each in
    can_move_in c.args.rooms.now c.index_mut.result.now c.take_guest_room-room.result room c.requires.few (c.requires.can c.loop-i.i c.index_mut.result.now at)

pub loop-i-preserved : goal.loop-i-preserved
loop-i-preserved c =
    let below : c.loop-i.i < length c.args.guests.now.items = omega (arith, c.loop-i-test.true, c.len-i-end.ensures) in
    let at : slice_get c.args.guests.now.items c.loop-i.i ≡ Some c.index_mut.result.now =
    next_read (guest_with_tables c.args.rooms.now.exits c.args.rooms.now.tail) c.loop-i.i c.args.guests.now.items c.loop-i.guests.items c.index_mut.result.now c.loop-i.invariant.guests_are below c.index_mut.ensures.value in
    let room = of_last (IsGuestRoom c.args.rooms.now) c.loop-i.larger.items c.take_guest_room-room.new.rooms.items c.take_guest_room-room.result c.take_guest_room-room.ensures c.loop-i.invariant.each in
    let count = ap length c.take_guest_room-room.ensures ∙ length-append c.take_guest_room-room.new.rooms.items (c.take_guest_room-room.result ∷ []) in
    record {
      guests_are =
          next_written (guest_with_tables c.args.rooms.now.exits c.args.rooms.now.tail) c.loop-i.i c.args.guests.now.items c.loop-i.guests.items c.index_mut.result.now c.move_guest.new.guest c.loop-i.invariant.guests_are at
          (c.move_guest.ensures ∙ moved_in c.args.rooms.now c.index_mut.result.now c.take_guest_room-room.result room);
      count = omega (arith, count, c.loop-i.invariant.count);
      each = of_before (IsGuestRoom c.args.rooms.now) c.loop-i.larger.items c.take_guest_room-room.new.rooms.items c.take_guest_room-room.result c.take_guest_room-room.ensures c.loop-i.invariant.each;
    }

pub returns : goal.returns
returns c =
    c.loop-i.invariant.guests_are
    ∙ changed_all (guest_with_tables c.args.rooms.now.exits c.args.rooms.now.tail) c.loop-i.i c.args.guests.now.items (omega (arith, c.loop-i-test.false, c.len-i-end.ensures))
