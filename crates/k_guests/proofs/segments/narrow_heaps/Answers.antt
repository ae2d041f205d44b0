use Rattle.std.proofs.Common.{◌≡◌, Some, slice_get, arith}
use Rattle.k_guests.specs.Growing.{heap_with_objects}
use Rattle.k_guests.proofs.Changed.{next_read, next_written}
use Rattle.k_guests.proofs.segments.narrow_heaps.Goals as goal

pub narrow_heap-requires : goal.narrow_heap-requires
narrow_heap-requires c =
    c.requires.can c.loop-i.i c.index_mut.result.now c.loop-i-test.true
    (next_read (heap_with_objects c.args.objects) c.loop-i.i c.args.shared.now.items c.loop-i.shared.items c.index_mut.result.now c.loop-i.invariant (omega (arith, c.loop-i-test.true, c.requires.count)) c.index_mut.ensures.value)

pub loop-i-preserved : goal.loop-i-preserved
loop-i-preserved c =
    let at : slice_get c.args.shared.now.items c.loop-i.i ≡ Some c.index_mut.result.now =
    next_read (heap_with_objects c.args.objects) c.loop-i.i c.args.shared.now.items c.loop-i.shared.items c.index_mut.result.now c.loop-i.invariant (omega (arith, c.loop-i-test.true, c.requires.count)) c.index_mut.ensures.value in
    next_written (heap_with_objects c.args.objects) c.loop-i.i c.args.shared.now.items c.loop-i.shared.items c.index_mut.result.now c.narrow_heap.new.heap c.loop-i.invariant at c.narrow_heap.ensures
