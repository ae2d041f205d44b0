use Rattle.std.proofs.Common.{◌≡◌, Some, is_some, true, false, ap, sym, ◌∙◌}
use Rattle.k_types.specs.declared.names.Heap.{Heap}
use Rattle.k_types.specs.Names.{heap_eq}
use Rattle.k_types.specs.Owners.{owner_of}
use Rattle.k_scan.proofs.Found.{found_other, found_own}
use Rattle.k_scan.proofs.Marks.{sized_at}
use Rattle.k_scan.proofs.holding.find.Goals as goal

pub returns-then-is_same_heap : goal.returns-then-is_same_heap
returns-then-is_same_heap c =
    let m = c.args.lists.now in
    let ours : heap_eq (owner_of m.setup m.state c.args.name.seg.0) c.args.heap ≡ true
    = ap (λ (g : Heap). heap_eq g c.args.heap) (sym c.owner.ensures) ∙ sym c.is_same_heap.ensures ∙ c.if-is_same_heap.true in
    found_own m.state.objects (owner_of m.setup m.state) c.args.heap c.args.name c.args.marks.now c.mark-fresh.new.self (is_some c.mark-fresh.result) ours c.mark-fresh.ensures

pub returns-else-is_same_heap : goal.returns-else-is_same_heap
returns-else-is_same_heap c =
    let m = c.args.lists.now in
    let other : heap_eq (owner_of m.setup m.state c.args.name.seg.0) c.args.heap ≡ false
    = ap (λ (g : Heap). heap_eq g c.args.heap) (sym c.owner.ensures) ∙ sym c.is_same_heap.ensures ∙ c.if-is_same_heap.false in
    found_other m.state.objects (owner_of m.setup m.state) c.args.heap c.args.name c.args.marks.now other

pub mark-fresh-requires : goal.mark-fresh-requires
mark-fresh-requires c = λ low.
    let m = c.args.lists.now in
    let ours : heap_eq (owner_of m.setup m.state c.args.name.seg.0) c.args.heap ≡ true
    = ap (λ (g : Heap). heap_eq g c.args.heap) (sym c.owner.ensures) ∙ sym c.is_same_heap.ensures ∙ c.if-is_same_heap.true in
    sized_at m.setup m.state (Some c.args.heap) c.args.marks.now c.args.name.seg.0 c.requires ours low
