use Rattle.std.proofs.Common.{◌≡◌, ◌<◌, ◌++◌, [], true, List, ap, ap₂, sym, ◌∙◌, get_or, map, arith}
use Rattle.std.proofs.lemmas.List.{map-append}
use Rattle.k_types.specs.declared.names.Heap.{Heap}
use Rattle.k_types.specs.declared.names.Name.{Name}
use Rattle.k_types.specs.Names.{heap_eq}
use Rattle.k_types.specs.Owners.{owner_of}
use Rattle.k_types.specs.Reach.{is_root, roots_of}
use Rattle.k_types.specs.State.{Object}
use Rattle.k_types.specs.Trace.{segment_count}
use Rattle.k_state.specs.Marks.{marked}
use Rattle.k_state.specs.Segments.{objects_in}
use Rattle.k_scan.proofs.Chosen.{chosen_all, chosen_below, chosen_marked, chosen_none, chosen_of, chosen_other}
use Rattle.k_scan.proofs.rooting.roots.Goals as goal
use Rattle.k_scan.proofs.rooting.roots.Goals.{then-is_same_heap+in_ok-push_marked, else-is_same_heap}

-- the names of objects
abbrev names_of : List Object → List Name
names_of xs = map (λ (o : Object). o.name) xs

pub loop-s-init : goal.loop-s-init
loop-s-init c =
    let m = c.args.lists.now in
    let h = c.args.heap in
    c.new-names.ensures.items ∙ sym (ap names_of (chosen_none (owner_of m.setup m.state) h (is_root m.setup m.state h) m.state.objects))

pub loop-s-preserved : goal.loop-s-preserved
loop-s-preserved c =
    let m = c.args.lists.now in
    let h = c.args.heap in
    let s = c.loop-s.s in
    let own = owner_of m.setup m.state in
    let test = is_root m.setup m.state h in
    let xs = m.state.objects in
    let shape = c.setup-shape.ensures.shape in
    let low : s < segment_count m.setup = omega (arith, c.loop-s-test.true, c.segment_count-s-end.ensures) in
    let tested : heap_eq (own s) h ≡ c.is_same_heap.result = ap (λ (g : Heap). heap_eq g h) (sym c.owner.ensures) ∙ sym c.is_same_heap.ensures in
    elim c.if-is_same_heap.branch [
      | then-is_same_heap+in_ok-push_marked w ↦
          let owned : heap_eq (own s) h ≡ true = tested ∙ w.if-is_same_heap.true in
          let marks = get_or c.in_ok-marks.marks s [] in
          ap (λ v. v.items) w.names-is
          ∙ w.in_ok-push_marked.ensures
          ∙ ap₂ (λ (ns : List Name) (ys : List Object). ns ++ names_of ys) c.loop-s.invariant (ap₂ marked w.of.ensures w.objects_in.ensures)
          ∙ sym (map-append (λ (o : Object). o.name) (chosen_below own h test xs s) (marked marks (objects_in xs s)))
          ∙ ap names_of (sym (chosen_marked own h test xs marks s shape.names.ordered owned (c.in_ok-marks.ensures s low owned)))
      | else-is_same_heap w ↦
          ap (λ v. v.items) w.names-is
          ∙ c.loop-s.invariant
          ∙ ap names_of (sym (chosen_other own h test xs s shape.names.ordered (tested ∙ w.if-is_same_heap.false)))
    ]

pub returns : goal.returns
unfolding roots_of
returns c =
    let m = c.args.lists.now in
    let h = c.args.heap in
    let own = owner_of m.setup m.state in
    let test = is_root m.setup m.state h in
    let end : c.loop-s.s ≡ segment_count m.setup = omega (arith, c.loop-s-test.false, c.loop-s.auto.s-end, c.segment_count-s-end.ensures) in
    c.loop-s.invariant
    ∙ ap (λ k. names_of (chosen_below own h test m.state.objects k)) end
    ∙ ap names_of (chosen_all own h test m.setup m.state.objects c.setup-shape.ensures.shape.declared ∙ sym (chosen_of own h test m.state.objects))
