use Rattle.std.proofs.Common.{◌≡◌, Some, true, false, is_some, ap, sym, ◌∙◌}
use Rattle.k_types.specs.declared.names.Heap.{Heap}
use Rattle.k_types.specs.Names.{heap_eq}
use Rattle.k_types.specs.Owners.{owner_of}
use Rattle.k_scan.proofs.Looks.{visit_new, visit_old, visit_other}
use Rattle.k_scan.proofs.Marks.{sized_at}
use Rattle.k_scan.proofs.reaching.visit.Goals as goal

pub returns-then-not-is_same_heap : goal.returns-then-not-is_same_heap
returns-then-not-is_same_heap c =
    let m = c.args.lists.now in
    let other : heap_eq (owner_of m.setup m.state c.args.name.seg.0) c.args.heap ≡ false
    = ap (λ (g : Heap). heap_eq g c.args.heap) (sym c.owner.ensures) ∙ sym c.is_same_heap.ensures ∙ c.if-not-is_same_heap.true in
    visit_other m.state.objects (owner_of m.setup m.state) c.args.heap c.args.name c.args.marks.now c.args.work.now.items other

pub returns-in_default : goal.returns-in_default
returns-in_default c =
    let m = c.args.lists.now in
    let ours : heap_eq (owner_of m.setup m.state c.args.name.seg.0) c.args.heap ≡ true
    = ap (λ (g : Heap). heap_eq g c.args.heap) (sym c.owner.ensures) ∙ sym c.is_same_heap.ensures ∙ c.if-not-is_same_heap.false in
    visit_old m.state.objects (owner_of m.setup m.state) c.args.heap c.args.name c.args.marks.now c.mark.new.self c.args.work.now.items (is_some c.mark.result) ours c.mark.ensures (ap is_some c.in_default.is)

pub returns : goal.returns
returns c =
    let m = c.args.lists.now in
    let ours : heap_eq (owner_of m.setup m.state c.args.name.seg.0) c.args.heap ≡ true
    = ap (λ (g : Heap). heap_eq g c.args.heap) (sym c.owner.ensures) ∙ sym c.is_same_heap.ensures ∙ c.if-not-is_same_heap.false in
    rw c.in_ok-push.ensures.items
    (rw c.at.ensures
    (visit_new m.state.objects (owner_of m.setup m.state) c.args.heap c.args.name c.args.marks.now c.mark.new.self c.args.work.now.items (is_some c.mark.result) ours c.mark.ensures (ap is_some c.in-Some.is)))

pub mark-requires : goal.mark-requires
mark-requires c = λ low.
    let m = c.args.lists.now in
    let ours : heap_eq (owner_of m.setup m.state c.args.name.seg.0) c.args.heap ≡ true
    = ap (λ (g : Heap). heap_eq g c.args.heap) (sym c.owner.ensures) ∙ sym c.is_same_heap.ensures ∙ c.if-not-is_same_heap.false in
    sized_at m.setup m.state (Some c.args.heap) c.args.marks.now c.args.name.seg.0 c.requires ours low
