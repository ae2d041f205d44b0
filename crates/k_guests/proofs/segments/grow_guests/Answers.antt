use Rattle.std.proofs.Common.{◌≡◌, ◌<◌, ◌∙◌, sym, ap, subst, length, Some, set, slice_get, arith}
use Rattle.k_guests.specs.Growing.{CanNarrowGuest, FitsIn, OfFirst, changed_first, guest_with_objects}
use Rattle.k_guests.proofs.Changed.{changed_all, changed_back, first_changed, next_read, next_written, of_all, one_more, written_same}
use Rattle.k_guests.proofs.SegmentRooms.{can_grow_guest, can_narrow_guests, guest_back}
use Rattle.k_guests.proofs.segments.grow_guests.Goals as goal

pub grow_guest-requires-clause-more : goal.grow_guest-requires-clause-more
grow_guest-requires-clause-more c =
    let below : c.loop-i.i < length c.args.guests.now.items = omega (arith, c.loop-i-test.true, c.len-i-end.ensures) in
    let at = next_read (guest_with_objects c.args.objects) c.loop-i.i c.args.guests.now.items c.loop-i.guests.items c.index_mut.result.now c.loop-i.invariant.guests_are below c.index_mut.ensures.value in
    can_grow_guest c.args.old c.args.objects c.requires.more c.index_mut.result.now (c.requires.own c.loop-i.i c.index_mut.result.now at)

pub narrow_guests-requires-clause-can : goal.narrow_guests-requires-clause-can
narrow_guests-requires-clause-can c =
    let now : set c.loop-i.guests.items c.loop-i.i c.grow_guest.new.guest ≡ changed_first (guest_with_objects c.args.objects) c.loop-i.i c.args.guests.now.items =
    written_same c.loop-i.i c.loop-i.guests.items c.index_mut.result.now c.grow_guest.new.guest c.index_mut.ensures.value c.in-Err.ensures.err ∙ c.loop-i.invariant.guests_are in
    subst (OfFirst (CanNarrowGuest c.args.old) c.loop-i.i) (sym now)
    (first_changed (guest_with_objects c.args.objects) (CanNarrowGuest c.args.old) c.loop-i.i c.args.guests.now.items
    (can_narrow_guests c.args.old c.args.objects c.requires.more c.loop-i.i c.args.guests.now.items c.requires.own c.loop-i.invariant.fit))

pub returns-in-Err-clause-err : goal.returns-in-Err-clause-err
returns-in-Err-clause-err c =
    let now : set c.loop-i.guests.items c.loop-i.i c.grow_guest.new.guest ≡ changed_first (guest_with_objects c.args.objects) c.loop-i.i c.args.guests.now.items =
    written_same c.loop-i.i c.loop-i.guests.items c.index_mut.result.now c.grow_guest.new.guest c.index_mut.ensures.value c.in-Err.ensures.err ∙ c.loop-i.invariant.guests_are in
    c.narrow_guests.ensures ∙ ap (changed_first (guest_with_objects c.args.old) c.loop-i.i) now
    ∙ changed_back (guest_with_objects c.args.objects) (guest_with_objects c.args.old) c.loop-i.i c.args.guests.now.items
    (λ k g few at. guest_back c.args.old c.args.objects c.requires.more g (c.requires.own k g at))

pub loop-i-preserved : goal.loop-i-preserved
loop-i-preserved c =
    let below : c.loop-i.i < length c.args.guests.now.items = omega (arith, c.loop-i-test.true, c.len-i-end.ensures) in
    let at : slice_get c.args.guests.now.items c.loop-i.i ≡ Some c.index_mut.result.now =
    next_read (guest_with_objects c.args.objects) c.loop-i.i c.args.guests.now.items c.loop-i.guests.items c.index_mut.result.now c.loop-i.invariant.guests_are below c.index_mut.ensures.value in
    record {
      guests_are =
          next_written (guest_with_objects c.args.objects) c.loop-i.i c.args.guests.now.items c.loop-i.guests.items c.index_mut.result.now c.grow_guest.new.guest c.loop-i.invariant.guests_are at c.in_default.ensures.ok;
      fit = one_more (FitsIn c.args.old) c.loop-i.i c.args.guests.now.items c.index_mut.result.now c.loop-i.invariant.fit at
          (c.in_default.ensures.fits c.args.old (c.requires.own c.loop-i.i c.index_mut.result.now at));
    }

pub returns-clause-ok : goal.returns-clause-ok
returns-clause-ok c =
    c.loop-i.invariant.guests_are ∙ changed_all (guest_with_objects c.args.objects) c.loop-i.i c.args.guests.now.items (omega (arith, c.loop-i-test.false, c.len-i-end.ensures))

pub returns-clause-fit : goal.returns-clause-fit
returns-clause-fit c = of_all (FitsIn c.args.old) c.loop-i.i c.args.guests.now.items (omega (arith, c.loop-i-test.false, c.len-i-end.ensures)) c.loop-i.invariant.fit
