use Rattle.std.proofs.Common.{◌≡◌, ◌+◌, ◌<◌, cond, true, ap, sym, ◌∙◌, subst, length, get_or, arith}
use Rattle.k_types.specs.declared.names.Heap.{Heap}
use Rattle.k_types.specs.Names.{heap_eq}
use Rattle.k_types.specs.Owners.{owner_of}
use Rattle.k_state.specs.Machines.{IsKept, Machine}
use Rattle.k_state.proofs.Heaps.{bytes_begin, bytes_below, bytes_end, bytes_next, bytes_small}
use Rattle.k_state.proofs.lists.PlainLists.bytes_of_all.Goals as goal
use Rattle.k_state.proofs.lists.PlainLists.bytes_of_all.Goals.{then-is_same_heap, else-is_same_heap}

pub loop-seg-init : goal.loop-seg-init
loop-seg-init c = sym (bytes_begin c.args.self.now c.args.heap)

pub overflow_add-sum : goal.overflow_add-sum
overflow_add-sum c =
    let m = c.args.self.now in
    let h = c.args.heap in
    let seg = c.loop-seg.seg in
    let totals = c.self.inside.segments.totals in
    let kept : IsKept m totals = subst (λ (n : Machine). IsKept n totals) c.self.view_is c.self.invariant in
    let inside : seg < length totals = omega (arith, c.loop-seg-test.true, c.count-seg-end.ensures) in
    let given : c.bytes-sum.result ≡ get_or totals seg 0 = c.bytes-sum.ensures in
    let owned : heap_eq (owner_of m.setup m.state seg) h ≡ true
    = ap (λ (g : Heap). heap_eq g h) (sym c.owner.ensures) ∙ sym c.is_same_heap.ensures ∙ c.if-is_same_heap.true in
    let next : bytes_below m h (seg + 1) ≡ bytes_below m h seg + get_or totals seg 0
    = bytes_next m totals h seg kept inside ∙ ap (λ b. bytes_below m h seg + cond b (get_or totals seg 0) 0) owned in
    let small = bytes_small m totals h (seg + 1) kept in
    omega (arith, next, small, given, c.loop-seg.invariant)

pub loop-seg-preserved : goal.loop-seg-preserved
loop-seg-preserved c =
    let m = c.args.self.now in
    let h = c.args.heap in
    let seg = c.loop-seg.seg in
    let totals = c.self.inside.segments.totals in
    let kept : IsKept m totals = subst (λ (n : Machine). IsKept n totals) c.self.view_is c.self.invariant in
    let inside : seg < length totals = omega (arith, c.loop-seg-test.true, c.count-seg-end.ensures) in
    let next = bytes_next m totals h seg kept inside in
    let tested : heap_eq (owner_of m.setup m.state seg) h ≡ c.is_same_heap.result
    = ap (λ (g : Heap). heap_eq g h) (sym c.owner.ensures) ∙ sym c.is_same_heap.ensures in
    elim c.if-is_same_heap.branch [
      | then-is_same_heap w ↦
          let given : w.bytes-sum.result ≡ get_or totals seg 0 = w.bytes-sum.ensures in
          let add : cond (heap_eq (owner_of m.setup m.state seg) h) (get_or totals seg 0) 0 ≡ get_or totals seg 0
          = ap (λ b. cond b (get_or totals seg 0) 0) (tested ∙ w.if-is_same_heap.true) in
          omega (arith, next, given, add, w.sum-is, c.loop-seg.invariant)
      | else-is_same_heap w ↦
          let add : cond (heap_eq (owner_of m.setup m.state seg) h) (get_or totals seg 0) 0 ≡ 0
          = ap (λ b. cond b (get_or totals seg 0) 0) (tested ∙ w.if-is_same_heap.false) in
          omega (arith, next, add, w.sum-is, c.loop-seg.invariant)
    ]

pub returns-clause-sum : goal.returns-clause-sum
returns-clause-sum c =
    let m = c.args.self.now in
    let totals = c.self.inside.segments.totals in
    let kept : IsKept m totals = subst (λ (n : Machine). IsKept n totals) c.self.view_is c.self.invariant in
    let end : c.loop-seg.seg ≡ length totals = omega (arith, c.loop-seg-test.false, c.loop-seg.auto.seg-end, c.count-seg-end.ensures) in
    c.loop-seg.invariant ∙ bytes_end m totals c.args.heap c.loop-seg.seg kept end

pub returns-clause-small : goal.returns-clause-small
returns-clause-small c =
    let m = c.args.self.now in
    let totals = c.self.inside.segments.totals in
    let kept : IsKept m totals = subst (λ (n : Machine). IsKept n totals) c.self.view_is c.self.invariant in
    let small = bytes_small m totals c.args.heap c.loop-seg.seg kept in
    omega (arith, small, c.loop-seg.invariant)
