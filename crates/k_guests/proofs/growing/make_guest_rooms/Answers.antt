use Rattle.std.proofs.Common.{◌∷◌, [], ap, subst, sym, arith, length, ◌∙◌}
use Rattle.std.proofs.lemmas.List.{length-append}
use Rattle.k_process.proofs.Lists.{each_pushed}
use Rattle.k_guests.specs.Growing.{IsGuestRoom, OfEach}
use Rattle.k_guests.proofs.Changed.{of_none}
use Rattle.k_guests.proofs.growing.make_guest_rooms.Goals as goal

pub loop-init : goal.loop-init
loop-init c = record { count = ap length c.new-made.ensures.items; each = subst (OfEach (IsGuestRoom c.args.rooms.now)) (sym c.new-made.ensures.items) (of_none (IsGuestRoom c.args.rooms.now)) }

pub loop-preserved : goal.loop-preserved
loop-preserved c =
    record {
      count = let longer = ap length c.in_ok-push.ensures.items ∙ length-append c.loop.made.items (c.in_ok-make_guest_room.field-0 ∷ []) in omega (arith, longer, c.loop.invariant.count);
      each = subst (OfEach (IsGuestRoom c.args.rooms.now)) (sym c.in_ok-push.ensures.items)
          (each_pushed (λ k. IsGuestRoom c.args.rooms.now) c.loop.made.items c.in_ok-make_guest_room.field-0 c.loop.invariant.each c.in_ok-make_guest_room.ensures);
    }

pub returns-clause-count : goal.returns-clause-count
returns-clause-count c = omega (arith, c.loop.invariant.count, c.loop-test.false, c.loop.auto.counter-end)

pub returns-clause-each : goal.returns-clause-each
returns-clause-each c = c.loop.invariant.each
