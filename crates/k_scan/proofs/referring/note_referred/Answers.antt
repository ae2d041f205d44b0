use Rattle.std.proofs.Common.{◌≡◌, ◌+◌, ◌<◌, ◌++◌, [], Bool, List, ap, ap₂, sym, ◌∙◌, false, get_or, length, replicate, arith}
use Rattle.std.specs.List.{list_any}
use Rattle.k_types.specs.declared.names.Heap.{Heap}
use Rattle.k_types.specs.declared.names.Name.{Name}
use Rattle.k_types.specs.Names.{heap_eq}
use Rattle.k_types.specs.Owners.{owner_of}
use Rattle.k_types.specs.State.{ExitItem, Object, refers}
use Rattle.k_types.specs.Trace.{segment_count}
use Rattle.k_state.specs.Marks.{marked}
use Rattle.k_state.specs.Segments.{objects_in}
use Rattle.k_scan.specs.Marks.{is_reached}
use Rattle.std.proofs.lemmas.List.Folds.{list_any-append}
use Rattle.k_types.specs.Effects.{open_roots}
use Rattle.k_types.specs.Reach.{reach_in}
use Rattle.k_scan.proofs.Chosen.{chosen_all, chosen_below, chosen_marked, chosen_none, chosen_other}
use Rattle.k_scan.proofs.Noted.{noted_more, noted_none, noted_same, noted_all}
use Rattle.k_scan.proofs.Referred.{chosen_reached}
use Rattle.k_scan.proofs.referring.note_referred.Goals as goal
use Rattle.k_scan.proofs.referring.note_referred.Goals.{then-is_same_heap, else-is_same_heap}

-- some of these objects refer to the name
abbrev some_refer : List Object → Name → Bool
some_refer ys n = list_any (λ (x : Object). refers x n) ys

pub loop-s-init : goal.loop-s-init
loop-s-init c =
    let m = c.args.lists.now in
    let h = c.args.heap in
    noted_none m.state.exits h (some_refer (chosen_below (owner_of m.setup m.state) h (is_reached m.setup m.state h) m.state.objects 0)) c.in_ok-noted.noted
    (λ n. ap (λ ys. some_refer ys n) (chosen_none (owner_of m.setup m.state) h (is_reached m.setup m.state h) m.state.objects))

pub loop-s-preserved : goal.loop-s-preserved
loop-s-preserved c =
    let m = c.args.lists.now in
    let h = c.args.heap in
    let s = c.loop-s.s in
    let all = m.state.objects in
    let own = owner_of m.setup m.state in
    let test = is_reached m.setup m.state h in
    let ordered = c.setup-shape.ensures.shape.names.ordered in
    let low : s < segment_count m.setup = omega (arith, c.loop-s-test.true, c.segment_count-s-end.ensures) in
    let tested : heap_eq (own s) h ≡ c.is_same_heap.result = ap (λ (g : Heap). heap_eq g h) (sym c.owner.ensures) ∙ sym c.is_same_heap.ensures in
    let before = chosen_below own h test all s in
    elim c.if-is_same_heap.branch [
      | then-is_same_heap w ↦
          let owned = tested ∙ w.if-is_same_heap.true in
          let marks = get_or c.args.reached.now s [] in
          let here = marked w.of.result.now w.objects_in.result.now in
          let same : marked marks (objects_in all s) ≡ here = sym (ap₂ (λ (ms : List Bool) (ys : List Object). marked ms ys) w.of.ensures w.objects_in.ensures) in
          rw w.noted-is
          (noted_more m.state.exits h (some_refer before) (some_refer here) (some_refer (chosen_below own h test all (s + 1))) c.in_ok-noted.noted c.loop-s.noted w.note_referred_in.new.noted
          (λ n.
          ap (λ ys. some_refer ys n) (chosen_marked own h test all marks s ordered owned (c.requires s low owned) ∙ ap (λ ys. before ++ ys) same)
          ∙ list_any-append (λ (x : Object). refers x n) before here)
          c.loop-s.invariant w.note_referred_in.ensures)
      | else-is_same_heap w ↦
          rw w.noted-is
          (noted_same m.state.exits h (some_refer before) (some_refer (chosen_below own h test all (s + 1))) c.in_ok-noted.noted c.loop-s.noted
          (λ n. ap (λ ys. some_refer ys n) (chosen_other own h test all s ordered (tested ∙ w.if-is_same_heap.false)))
          c.loop-s.invariant)
    ]

pub returns : goal.returns
returns c =
    let m = c.args.lists.now in
    let h = c.args.heap in
    let all = m.state.objects in
    let own = owner_of m.setup m.state in
    let test = is_reached m.setup m.state h in
    let roots = open_roots m.state h in
    let shape = c.setup-shape.ensures.shape in
    let end : c.loop-s.s ≡ segment_count m.setup = omega (arith, c.loop-s-test.false, c.loop-s.auto.s-end, c.segment_count-s-end.ensures) in
    let count : length c.exits.result.now ≡ length m.state.exits = ap (λ (xs : List ExitItem). length xs) c.exits.ensures in
    let whole : chosen_below own h test all c.loop-s.s ≡ reach_in m.setup m.state h roots
    = ap (chosen_below own h test all) end ∙ chosen_all own h test m.setup all shape.declared ∙ chosen_reached m.setup m.state h roots in
    noted_all m.state.exits h (some_refer (reach_in m.setup m.state h roots)) c.in_ok-noted.noted c.loop-s.noted (c.in_ok-noted.ensures ∙ ap (λ k. replicate k false) count)
    (noted_same m.state.exits h (some_refer (chosen_below own h test all c.loop-s.s)) (some_refer (reach_in m.setup m.state h roots)) c.in_ok-noted.noted c.loop-s.noted
    (λ n. ap (λ ys. some_refer ys n) (sym whole)) c.loop-s.invariant)
