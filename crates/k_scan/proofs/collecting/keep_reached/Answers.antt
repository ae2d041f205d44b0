use Rattle.std.proofs.Common.{◌≡◌, ◌<◌, true, refl, Bool, List, ap, sym, ◌∙◌, map, length, arith}
use Rattle.k_types.specs.declared.names.Heap.{Heap}
use Rattle.k_types.specs.Names.{heap_eq}
use Rattle.k_types.specs.Owners.{owner_of}
use Rattle.k_types.specs.State.{Object}
use Rattle.k_types.specs.Trace.{segment_count}
use Rattle.k_state.specs.Machines.{Machine}
use Rattle.k_state.specs.Segments.{objects_in}
use Rattle.k_scan.specs.Marks.{is_reached}
use Rattle.k_types.specs.Updates.{keep_objects}
use Rattle.k_scan.proofs.Going.{long_of}
use Rattle.k_scan.proofs.Kept.{kept_below, kept_first, kept_last, kept_other, kept_own, owners_still, still_there}
use Rattle.k_scan.proofs.collecting.keep_reached.Goals as goal
use Rattle.k_scan.proofs.collecting.keep_reached.Goals.{then-is_same_heap, else-is_same_heap}

pub loop-s-init : goal.loop-s-init
loop-s-init c = let m = c.args.lists.now in record { setup = refl; state = kept_first m.setup m.state c.args.heap }

pub keep_objects-requires-clause-marks : goal.keep_objects-requires-clause-marks
keep_objects-requires-clause-marks c =
    let m = c.args.lists.now in
    let h = c.args.heap in
    let s = c.loop-s.s in
    let now = c.loop-s.lists in
    let inv = c.loop-s.invariant in
    let low : s < segment_count m.setup = omega (arith, c.loop-s-test.true, c.segment_count-s-end.ensures) in
    let owned : heap_eq (owner_of m.setup m.state s) h ≡ true
    = ap (λ (g : Heap). heap_eq g h) (sym (c.owner.ensures ∙ owners_still m.setup m.state h s s now.setup now.state inv.setup inv.state)) ∙ sym c.is_same_heap.ensures ∙ c.if-is_same_heap.true in
    ap (λ (ms : List Bool). length ms) c.of.ensures
    ∙ long_of m.setup m.state h c.args.reached.now s c.requires low owned
    ∙ ap (λ (xs : List Object). length xs) (sym (still_there m.setup m.state h s now.state inv.state))

pub loop-s-preserved : goal.loop-s-preserved
loop-s-preserved c =
    let m = c.args.lists.now in
    let h = c.args.heap in
    let s = c.loop-s.s in
    let now = c.loop-s.lists in
    let inv = c.loop-s.invariant in
    let low : s < segment_count m.setup = omega (arith, c.loop-s-test.true, c.segment_count-s-end.ensures) in
    let tested : heap_eq (owner_of m.setup m.state s) h ≡ c.is_same_heap.result
    = ap (λ (g : Heap). heap_eq g h) (sym (c.owner.ensures ∙ owners_still m.setup m.state h s s now.setup now.state inv.setup inv.state)) ∙ sym c.is_same_heap.ensures in
    elim c.if-is_same_heap.branch [
      | then-is_same_heap w ↦
          let owned = tested ∙ w.if-is_same_heap.true in
          let say : w.of.result.now ≡ map (λ (o : Object). is_reached m.setup m.state h o.name) (objects_in now.state.objects s)
          = w.of.ensures ∙ c.requires s low owned
          ∙ ap (map (λ (o : Object). is_reached m.setup m.state h o.name)) (sym (still_there m.setup m.state h s now.state inv.state)) in
          record {
            setup = ap (λ (v : Machine). v.setup) w.lists-is ∙ w.keep_objects.ensures.setup ∙ inv.setup;
            state = ap (λ (v : Machine). v.state) w.lists-is
                ∙ kept_own m.setup m.state h s now.state w.keep_objects.new.self.state owned inv.state (w.keep_objects.ensures.state (is_reached m.setup m.state h) say);
          }
      | else-is_same_heap w ↦
          record {
            setup = ap (λ (v : Machine). v.setup) w.lists-is ∙ inv.setup;
            state = ap (λ (v : Machine). v.state) w.lists-is ∙ kept_other m.setup m.state h s now.state (tested ∙ w.if-is_same_heap.false) inv.state;
          }
    ]

pub returns-clause-state : goal.returns-clause-state
returns-clause-state c =
    let m = c.args.lists.now in
    let end : c.loop-s.s ≡ segment_count m.setup = omega (arith, c.loop-s-test.false, c.loop-s.auto.s-end, c.segment_count-s-end.ensures) in
    kept_last m.setup m.state c.args.heap c.loop-s.lists.state c.setup-shape.ensures.shape.declared
    (c.loop-s.invariant.state ∙ ap (λ k. keep_objects (kept_below m.setup m.state c.args.heap k) m.state) end)
