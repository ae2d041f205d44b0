use Rattle.std.proofs.Common.{◌≡◌, ◌<◌, ◌≤◌, ◌∙◌, ◌∷◌, ap, refl, sym, subst, length, Some, [], slice_get, arith}
use Rattle.std.proofs.lemmas.List.{length-append, length-replicate}
use Rattle.k_guests.specs.Growing.{OfEach, heap_with_tables}
use Rattle.k_guests.proofs.Changed.{changed_all, next_read, next_written, of_before, of_last, of_same}
use Rattle.k_guests.proofs.growing.move_heaps.Goals as goal

pub loop-i-init : goal.loop-i-init
loop-i-init c =
    let count = ap length c.requires.larger ∙ length-replicate (length c.args.shared.now.items) c.args.exits in
    record {
      shared_are = refl;
      count = omega (arith, count);
      each = subst (OfEach (λ room. room ≡ c.args.exits)) (sym c.requires.larger) (of_same (length c.args.shared.now.items) c.args.exits);
    }

pub move_heap-requires : goal.move_heap-requires
move_heap-requires c =
    let below : c.loop-i.i < length c.args.shared.now.items = omega (arith, c.loop-i-test.true, c.len-i-end.ensures) in
    let at = next_read (heap_with_tables c.args.exits) c.loop-i.i c.args.shared.now.items c.loop-i.shared.items c.index_mut.result.now c.loop-i.invariant.shared_are below c.index_mut.ensures.value in
    let room : c.take_exit_room-room.result ≡ c.args.exits =
    of_last (λ room. room ≡ c.args.exits) c.loop-i.larger.items c.take_exit_room-room.new.rooms.items c.take_exit_room-room.result c.take_exit_room-room.ensures c.loop-i.invariant.each in
    subst (λ n. c.index_mut.result.now.exit_room ≤ n) (sym room) (c.requires.can c.loop-i.i c.index_mut.result.now at)

pub loop-i-preserved : goal.loop-i-preserved
loop-i-preserved c =
    let below : c.loop-i.i < length c.args.shared.now.items = omega (arith, c.loop-i-test.true, c.len-i-end.ensures) in
    let at : slice_get c.args.shared.now.items c.loop-i.i ≡ Some c.index_mut.result.now =
    next_read (heap_with_tables c.args.exits) c.loop-i.i c.args.shared.now.items c.loop-i.shared.items c.index_mut.result.now c.loop-i.invariant.shared_are below c.index_mut.ensures.value in
    let room : c.take_exit_room-room.result ≡ c.args.exits =
    of_last (λ room. room ≡ c.args.exits) c.loop-i.larger.items c.take_exit_room-room.new.rooms.items c.take_exit_room-room.result c.take_exit_room-room.ensures c.loop-i.invariant.each in
    let count = ap length c.take_exit_room-room.ensures ∙ length-append c.take_exit_room-room.new.rooms.items (c.take_exit_room-room.result ∷ []) in
    record {
      shared_are =
          next_written (heap_with_tables c.args.exits) c.loop-i.i c.args.shared.now.items c.loop-i.shared.items c.index_mut.result.now c.move_heap.new.heap c.loop-i.invariant.shared_are at
          (c.move_heap.ensures ∙ ap (λ n. heap_with_tables n c.index_mut.result.now) room);
      count = omega (arith, count, c.loop-i.invariant.count);
      each = of_before (λ room. room ≡ c.args.exits) c.loop-i.larger.items c.take_exit_room-room.new.rooms.items c.take_exit_room-room.result c.take_exit_room-room.ensures c.loop-i.invariant.each;
    }

pub returns : goal.returns
returns c =
    c.loop-i.invariant.shared_are ∙ changed_all (heap_with_tables c.args.exits) c.loop-i.i c.args.shared.now.items (omega (arith, c.loop-i-test.false, c.len-i-end.ensures))
