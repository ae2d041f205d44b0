use Rattle.std.proofs.Common.{◌≡◌, ◌+◌, ◌==◌, List, true, ap, sym, ◌∙◌, length, arith}
use Rattle.std.proofs.lemmas.List.{length-append}
use Rattle.k_types.proofs.Lists.{length-kept}
use Rattle.k_types.proofs.Sums.{total_append}
use Rattle.k_types.specs.declared.names.Heap.{Heap}
use Rattle.k_types.specs.Names.{heap_eq}
use Rattle.k_types.specs.Owners.{owner_of}
use Rattle.k_types.specs.State.{Object}
use Rattle.k_types.specs.Totals.{total}
use Rattle.k_types.specs.Trace.{segment_count}
use Rattle.k_scan.specs.k_state.Segments.{objects_in}
use Rattle.k_scan.proofs.Pools.{pool_all, pool_below, pool_few, pool_none, pool_other, pool_own}
use Rattle.k_plain.specs.Owned.{references_in}
use Rattle.k_plain.proofs.counting.refs_of.Goals as goal
use Rattle.k_plain.proofs.counting.refs_of.Goals.{then-is_same_heap, else-is_same_heap}

pub loop-s-init : goal.loop-s-init
loop-s-init c =
    let m = c.args.lists.now in
    record {
      few = omega arith;
      counted = sym (ap (total references_in) (pool_none (owner_of m.setup m.state) c.args.heap m.state.objects));
    }

pub references_of-count-requires : goal.references_of-count-requires
references_of-count-requires c =
    let m = c.args.lists.now in
    let part = ap (λ (ys : List Object). length ys) c.objects_in.ensures in
    let few = length-kept (λ (o : Object). o.name.seg.0 == c.loop-s.s) m.state.objects in
    omega (arith, part, few, c.setup-shape.ensures.shape.few)

pub overflow_add-count : goal.overflow_add-count
overflow_add-count c =
    let m = c.args.lists.now in
    let h = c.args.heap in
    let s = c.loop-s.s in
    let xs = m.state.objects in
    let own = owner_of m.setup m.state in
    let owned : heap_eq (own s) h ≡ true = ap (λ (g : Heap). heap_eq g h) (sym c.owner.ensures) ∙ sym c.is_same_heap.ensures ∙ c.if-is_same_heap.true in
    let more = ap (λ (ys : List Object). length ys) (pool_own own h xs s c.setup-shape.ensures.shape.names.ordered owned) ∙ length-append (pool_below own h xs s) (objects_in xs s) in
    let part = ap (λ (ys : List Object). length ys) c.objects_in.ensures in
    let few = pool_few own h xs (s + 1) in
    omega (arith, more, part, few, c.references_of-count.ensures.few, c.loop-s.invariant.few, c.setup-shape.ensures.shape.few)

pub loop-s-preserved : goal.loop-s-preserved
loop-s-preserved c =
    let m = c.args.lists.now in
    let h = c.args.heap in
    let s = c.loop-s.s in
    let xs = m.state.objects in
    let own = owner_of m.setup m.state in
    let ordered = c.setup-shape.ensures.shape.names.ordered in
    let tested : heap_eq (own s) h ≡ c.is_same_heap.result = ap (λ (g : Heap). heap_eq g h) (sym c.owner.ensures) ∙ sym c.is_same_heap.ensures in
    elim c.if-is_same_heap.branch [
      | then-is_same_heap w ↦
          let next = pool_own own h xs s ordered (tested ∙ w.if-is_same_heap.true) in
          let more = ap (λ (ys : List Object). length ys) next ∙ length-append (pool_below own h xs s) (objects_in xs s) in
          let sum = ap (total references_in) next ∙ total_append references_in (pool_below own h xs s) (objects_in xs s) in
          let part = ap (λ (ys : List Object). length ys) w.objects_in.ensures in
          let refs = w.references_of-count.ensures.exact ∙ ap (total references_in) w.objects_in.ensures in
          record {
            few = omega (arith, w.count-is, more, part, w.references_of-count.ensures.few, c.loop-s.invariant.few);
            counted = omega (arith, w.count-is, sum, refs, c.loop-s.invariant.counted);
          }
      | else-is_same_heap w ↦
          let same = pool_other own h xs s ordered (tested ∙ w.if-is_same_heap.false) in
          let long = ap (λ (ys : List Object). length ys) same in
          record {
            few = omega (arith, w.count-is, long, c.loop-s.invariant.few);
            counted = w.count-is ∙ c.loop-s.invariant.counted ∙ ap (total references_in) (sym same);
          }
    ]

pub returns : goal.returns
returns c =
    let m = c.args.lists.now in
    let own = owner_of m.setup m.state in
    let xs = m.state.objects in
    let end : c.loop-s.s ≡ segment_count m.setup = omega (arith, c.loop-s-test.false, c.loop-s.auto.s-end, c.segment_count-s-end.ensures) in
    c.loop-s.invariant.counted
    ∙ ap (total references_in) (ap (pool_below own c.args.heap xs) end ∙ pool_all own c.args.heap xs m.setup c.setup-shape.ensures.shape.declared)
