use Rattle.std.proofs.Common.{◌≡◌, ◌+◌, ◌<◌, not, true, Bool, List, ap, ap₂, sym, ◌∙◌, map, length, count_by, arith}
use Rattle.k_types.specs.declared.names.Heap.{Heap}
use Rattle.k_types.specs.Names.{heap_eq}
use Rattle.k_types.specs.Owners.{object_bytes, owner_of}
use Rattle.k_types.specs.State.{Object}
use Rattle.k_types.specs.Totals.{total}
use Rattle.k_types.specs.Trace.{segment_count}
use Rattle.k_state.specs.Marks.{marked}
use Rattle.k_scan.proofs.Going.{bytes_next, count_next, gone_below, gone_end, gone_few, gone_none, gone_other, gone_small, in_few, long_of}
use Rattle.k_scan.proofs.collecting.what_goes.Goals as goal
use Rattle.k_scan.proofs.collecting.what_goes.Goals.{then-is_same_heap, else-is_same_heap}

pub loop-s-init : goal.loop-s-init
loop-s-init c =
    let m = c.args.lists.now in
    record {
      objects = sym (ap (λ (xs : List Object). length xs) (gone_none m.setup m.state c.args.heap));
      bytes = sym (ap (total object_bytes) (gone_none m.setup m.state c.args.heap));
    }

pub gone-objects-requires : goal.gone-objects-requires
gone-objects-requires c =
    let m = c.args.lists.now in
    let s = c.loop-s.s in
    let low : s < segment_count m.setup = omega (arith, c.loop-s-test.true, c.segment_count-s-end.ensures) in
    let owned : heap_eq (owner_of m.setup m.state s) c.args.heap ≡ true
    = ap (λ (g : Heap). heap_eq g c.args.heap) (sym c.owner.ensures) ∙ sym c.is_same_heap.ensures ∙ c.if-is_same_heap.true in
    let long = ap (λ (ms : List Bool). length ms) c.of.ensures ∙ long_of m.setup m.state c.args.heap c.args.reached.now s c.requires low owned in
    let few = in_few m.setup m.state c.args.heap s in
    omega (arith, long, few, c.setup-shape.ensures.shape.few)

pub overflow_add-objects : goal.overflow_add-objects
overflow_add-objects c =
    let m = c.args.lists.now in
    let s = c.loop-s.s in
    let low : s < segment_count m.setup = omega (arith, c.loop-s-test.true, c.segment_count-s-end.ensures) in
    let owned : heap_eq (owner_of m.setup m.state s) c.args.heap ≡ true
    = ap (λ (g : Heap). heap_eq g c.args.heap) (sym c.owner.ensures) ∙ sym c.is_same_heap.ensures ∙ c.if-is_same_heap.true in
    let part = c.gone-objects.ensures ∙ ap (λ (ms : List Bool). count_by not ms) c.of.ensures in
    let next = count_next m.setup m.state c.args.heap c.args.reached.now s c.requires low owned c.setup-shape.ensures.shape.names.ordered in
    let few = gone_few m.setup m.state c.args.heap (s + 1) in
    omega (arith, part, next, few, c.loop-s.invariant.objects, c.setup-shape.ensures.shape.few)

pub bytes_gone-bytes-requires-clause-few : goal.bytes_gone-bytes-requires-clause-few
bytes_gone-bytes-requires-clause-few c =
    let m = c.args.lists.now in
    let long = ap (λ (xs : List Object). length xs) c.objects_in.ensures in
    let few = in_few m.setup m.state c.args.heap c.loop-s.s in
    omega (arith, long, few, c.setup-shape.ensures.shape.few)

pub overflow_add-bytes : goal.overflow_add-bytes
overflow_add-bytes c =
    let m = c.args.lists.now in
    let s = c.loop-s.s in
    let low : s < segment_count m.setup = omega (arith, c.loop-s-test.true, c.segment_count-s-end.ensures) in
    let owned : heap_eq (owner_of m.setup m.state s) c.args.heap ≡ true
    = ap (λ (g : Heap). heap_eq g c.args.heap) (sym c.owner.ensures) ∙ sym c.is_same_heap.ensures ∙ c.if-is_same_heap.true in
    let part = c.bytes_gone-bytes.ensures ∙ ap₂ (λ (ms : List Bool) (xs : List Object). total object_bytes (marked (map not ms) xs)) c.of-then-is_same_heap.ensures c.objects_in.ensures in
    let next = bytes_next m.setup m.state c.args.heap c.args.reached.now s c.requires low owned c.setup-shape.ensures.shape.names.ordered in
    let small = gone_small m.setup m.state c.args.heap (s + 1) c.setup-shape.ensures.shape.declared in
    omega (arith, part, next, small, c.loop-s.invariant.bytes, c.setup-shape.ensures.shape.few)

pub loop-s-preserved : goal.loop-s-preserved
loop-s-preserved c =
    let m = c.args.lists.now in
    let h = c.args.heap in
    let s = c.loop-s.s in
    let ordered = c.setup-shape.ensures.shape.names.ordered in
    let low : s < segment_count m.setup = omega (arith, c.loop-s-test.true, c.segment_count-s-end.ensures) in
    let tested : heap_eq (owner_of m.setup m.state s) h ≡ c.is_same_heap.result = ap (λ (g : Heap). heap_eq g h) (sym c.owner.ensures) ∙ sym c.is_same_heap.ensures in
    elim c.if-is_same_heap.branch [
      | then-is_same_heap w ↦
          let owned = tested ∙ w.if-is_same_heap.true in
          let part = w.gone-objects.ensures ∙ ap (λ (ms : List Bool). count_by not ms) w.of.ensures in
          let bytes = w.bytes_gone-bytes.ensures ∙ ap₂ (λ (ms : List Bool) (xs : List Object). total object_bytes (marked (map not ms) xs)) w.of-then-is_same_heap.ensures w.objects_in.ensures in
          let more = count_next m.setup m.state h c.args.reached.now s c.requires low owned ordered in
          let next = bytes_next m.setup m.state h c.args.reached.now s c.requires low owned ordered in
          record {
            objects = omega (arith, w.objects-is, part, more, c.loop-s.invariant.objects);
            bytes = omega (arith, w.bytes-is, bytes, next, c.loop-s.invariant.bytes);
          }
      | else-is_same_heap w ↦
          let same = sym (gone_other m.setup m.state h s ordered (tested ∙ w.if-is_same_heap.false)) in
          record {
            objects = w.objects-is ∙ c.loop-s.invariant.objects ∙ ap (λ (xs : List Object). length xs) same;
            bytes = w.bytes-is ∙ c.loop-s.invariant.bytes ∙ ap (total object_bytes) same;
          }
    ]

pub returns-clause-objects : goal.returns-clause-objects
returns-clause-objects c =
    let m = c.args.lists.now in
    let end : c.loop-s.s ≡ segment_count m.setup = omega (arith, c.loop-s-test.false, c.loop-s.auto.s-end, c.segment_count-s-end.ensures) in
    c.loop-s.invariant.objects
    ∙ ap (λ (xs : List Object). length xs) (ap (gone_below m.setup m.state c.args.heap) end ∙ gone_end m.setup m.state c.args.heap c.setup-shape.ensures.shape.declared)

pub returns-clause-bytes : goal.returns-clause-bytes
returns-clause-bytes c =
    let m = c.args.lists.now in
    let end : c.loop-s.s ≡ segment_count m.setup = omega (arith, c.loop-s-test.false, c.loop-s.auto.s-end, c.segment_count-s-end.ensures) in
    c.loop-s.invariant.bytes
    ∙ ap (total object_bytes) (ap (gone_below m.setup m.state c.args.heap) end ∙ gone_end m.setup m.state c.args.heap c.setup-shape.ensures.shape.declared)
