use Rattle.std.proofs.Common.{◌≡◌, ◌<◌, ◌∙◌, sym, ap, subst, length, Some, set, slice_get, arith}
use Rattle.k_guests.specs.Growing.{CanNarrowHeap, HeapFitsIn, OfFirst, changed_first, heap_with_objects}
use Rattle.k_guests.proofs.Changed.{changed_all, changed_back, first_changed, next_read, next_written, of_all, one_more, written_same}
use Rattle.k_guests.proofs.SegmentRooms.{can_grow_heap, can_narrow_heaps, heap_back}
use Rattle.k_guests.proofs.segments.grow_heaps.Goals as goal

pub grow_heap-requires-clause-more : goal.grow_heap-requires-clause-more
grow_heap-requires-clause-more c =
    let below : c.loop-i.i < length c.args.shared.now.items = omega (arith, c.loop-i-test.true, c.len-i-end.ensures) in
    let at = next_read (heap_with_objects c.args.objects) c.loop-i.i c.args.shared.now.items c.loop-i.shared.items c.index_mut.result.now c.loop-i.invariant.shared_are below c.index_mut.ensures.value in
    can_grow_heap c.args.old c.args.objects c.requires.more c.index_mut.result.now (c.requires.own c.loop-i.i c.index_mut.result.now at)

pub narrow_heaps-requires-clause-can : goal.narrow_heaps-requires-clause-can
narrow_heaps-requires-clause-can c =
    let now : set c.loop-i.shared.items c.loop-i.i c.grow_heap.new.heap ≡ changed_first (heap_with_objects c.args.objects) c.loop-i.i c.args.shared.now.items =
    written_same c.loop-i.i c.loop-i.shared.items c.index_mut.result.now c.grow_heap.new.heap c.index_mut.ensures.value c.in-Err.ensures.err ∙ c.loop-i.invariant.shared_are in
    subst (OfFirst (CanNarrowHeap c.args.old) c.loop-i.i) (sym now)
    (first_changed (heap_with_objects c.args.objects) (CanNarrowHeap c.args.old) c.loop-i.i c.args.shared.now.items
    (can_narrow_heaps c.args.old c.args.objects c.requires.more c.loop-i.i c.args.shared.now.items c.requires.own c.loop-i.invariant.fit))

pub returns-in-Err-clause-err : goal.returns-in-Err-clause-err
returns-in-Err-clause-err c =
    let now : set c.loop-i.shared.items c.loop-i.i c.grow_heap.new.heap ≡ changed_first (heap_with_objects c.args.objects) c.loop-i.i c.args.shared.now.items =
    written_same c.loop-i.i c.loop-i.shared.items c.index_mut.result.now c.grow_heap.new.heap c.index_mut.ensures.value c.in-Err.ensures.err ∙ c.loop-i.invariant.shared_are in
    c.narrow_heaps.ensures ∙ ap (changed_first (heap_with_objects c.args.old) c.loop-i.i) now
    ∙ changed_back (heap_with_objects c.args.objects) (heap_with_objects c.args.old) c.loop-i.i c.args.shared.now.items
    (λ k g few at. heap_back c.args.old c.args.objects c.requires.more g (c.requires.own k g at))

pub loop-i-preserved : goal.loop-i-preserved
loop-i-preserved c =
    let below : c.loop-i.i < length c.args.shared.now.items = omega (arith, c.loop-i-test.true, c.len-i-end.ensures) in
    let at : slice_get c.args.shared.now.items c.loop-i.i ≡ Some c.index_mut.result.now =
    next_read (heap_with_objects c.args.objects) c.loop-i.i c.args.shared.now.items c.loop-i.shared.items c.index_mut.result.now c.loop-i.invariant.shared_are below c.index_mut.ensures.value in
    record {
      shared_are =
          next_written (heap_with_objects c.args.objects) c.loop-i.i c.args.shared.now.items c.loop-i.shared.items c.index_mut.result.now c.grow_heap.new.heap c.loop-i.invariant.shared_are at c.in_default.ensures.ok;
      fit = one_more (HeapFitsIn c.args.old) c.loop-i.i c.args.shared.now.items c.index_mut.result.now c.loop-i.invariant.fit at
          (c.in_default.ensures.fits c.args.old (c.requires.own c.loop-i.i c.index_mut.result.now at));
    }

pub returns-clause-ok : goal.returns-clause-ok
returns-clause-ok c =
    c.loop-i.invariant.shared_are ∙ changed_all (heap_with_objects c.args.objects) c.loop-i.i c.args.shared.now.items (omega (arith, c.loop-i-test.false, c.len-i-end.ensures))

pub returns-clause-fit : goal.returns-clause-fit
returns-clause-fit c = of_all (HeapFitsIn c.args.old) c.loop-i.i c.args.shared.now.items (omega (arith, c.loop-i-test.false, c.len-i-end.ensures)) c.loop-i.invariant.fit
