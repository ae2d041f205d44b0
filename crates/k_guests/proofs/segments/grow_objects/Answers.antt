use Rattle.std.proofs.Common.{◌≡◌, ◌≤◌, ◌∙◌, sym, ap, subst, None, Some, get_or, length, arith}
use Rattle.std.proofs.lemmas.List.{length-map}
use Rattle.k_cell.specs.Holdings.{HoldingsValue, living_in}
use Rattle.k_guests.specs.Growing.{CanNarrowGuest, OfEach, changed_first, guest_with_objects}
use Rattle.k_guests.proofs.Changed.{all_changed, mapped_back, of_some}
use Rattle.k_guests.proofs.SegmentRooms.{can_narrow_guest, guest_back, has_room, kernel_back}
use Rattle.k_guests.proofs.segments.grow_objects.Goals as goal

pub narrow_objects-requires : goal.narrow_objects-requires
narrow_objects-requires c =
    let wide : get_or c.grow_objects.new.self.serial_rooms 0 None ≡ Some c.args.objects =
    ap (λ (k : HoldingsValue). get_or k.serial_rooms 0 None) c.in_ok-grow_objects.ensures.ok ∙ has_room c.args.kernel.now.serial_rooms 0 c.args.old c.requires.own.kernel_has c.args.objects in
    record { now = c.args.objects; there = wide; less = c.requires.more; enough = subst (λ (k : HoldingsValue). living_in 0 k.value.objects ≤ c.args.old) (sym c.in_ok-grow_objects.ensures.ok) (c.grow_objects.ensures.within c.args.old c.requires.own.kernel_has) }

pub narrow_guests-requires-clause-can : goal.narrow_guests-requires-clause-can
narrow_guests-requires-clause-can c =
    of_some (CanNarrowGuest c.args.old) c.len-count.result c.grow_guests.new.guests.items
    (subst (OfEach (CanNarrowGuest c.args.old)) (sym c.in_default.ensures.ok)
    (all_changed (guest_with_objects c.args.objects) (CanNarrowGuest c.args.old) c.args.guests.now.items
    (λ k g at. can_narrow_guest c.args.old c.args.objects c.requires.more g (c.requires.own.guests_have k g at) (c.in_default.ensures.fit k g at))))

pub narrow_objects-requires-in-Err-grow_heaps : goal.narrow_objects-requires-in-Err-grow_heaps
narrow_objects-requires-in-Err-grow_heaps c =
    let wide : get_or c.grow_objects.new.self.serial_rooms 0 None ≡ Some c.args.objects =
    ap (λ (k : HoldingsValue). get_or k.serial_rooms 0 None) c.in_ok-grow_objects.ensures.ok ∙ has_room c.args.kernel.now.serial_rooms 0 c.args.old c.requires.own.kernel_has c.args.objects in
    record { now = c.args.objects; there = wide; less = c.requires.more; enough = subst (λ (k : HoldingsValue). living_in 0 k.value.objects ≤ c.args.old) (sym c.in_ok-grow_objects.ensures.ok) (c.grow_objects.ensures.within c.args.old c.requires.own.kernel_has) }

pub returns-in-Err-grow_heaps-clause-err : goal.returns-in-Err-grow_heaps-clause-err
returns-in-Err-grow_heaps-clause-err c = (
  c.narrow_guests.ensures ∙ ap (changed_first (guest_with_objects c.args.old) c.len-count.result) c.in_default.ensures.ok
      ∙ mapped_back (guest_with_objects c.args.objects) (guest_with_objects c.args.old) c.len-count.result c.args.guests.now.items
      (let many = ap length c.in_default.ensures.ok ∙ length-map c.args.guests.now.items (guest_with_objects c.args.objects) in omega (arith, c.len-count.ensures, many))
      (λ k g at. guest_back c.args.old c.args.objects c.requires.more g (c.requires.own.guests_have k g at)),
  kernel_back c.args.old c.args.objects c.args.kernel.now c.requires.own.kernel_has c.grow_objects.new.self c.narrow_objects-in-Err-grow_heaps.new.self c.in_ok-grow_objects.ensures.ok c.narrow_objects-in-Err-grow_heaps.ensures,
  c.in-Err-grow_heaps.ensures.err,
)
