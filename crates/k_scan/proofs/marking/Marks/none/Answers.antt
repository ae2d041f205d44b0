use Rattle.std.proofs.Common.{◌≡◌, ◌++◌, ◌∷◌, [], Bool, List, ap, ap₂, sym, ◌∙◌, get_or, map, false, replicate, arith}
use Rattle.k_types.specs.Numbers.{numbers_below}
use Rattle.k_types.specs.Trace.{segment_count}
use Rattle.k_state.specs.Segments.{objects_in}
use Rattle.k_scan.specs.Marks.{is_marked_in, lengths}
use Rattle.k_scan.proofs.Marks.{blank, blank_clear, blank_next, blank_sizes}
use Rattle.k_scan.proofs.marking.Marks.none.Goals as goal

pub loop-seg-preserved : goal.loop-seg-preserved
loop-seg-preserved c =
    let m = c.args.lists.now in
    let list : c.in_ok-none.field-0 ≡ blank m.setup m.state c.args.heap c.loop-seg.seg
    = c.in_ok-none.ensures ∙ ap (λ k. replicate k false) c.marks_for-count.ensures in
    c.in_ok-push.ensures.items
    ∙ ap₂ (λ (xs : List (List Bool)) x. xs ++ x ∷ []) c.loop-seg.invariant list
    ∙ sym (blank_next m.setup m.state c.args.heap c.loop-seg.seg)

pub returns-clause-size : goal.returns-clause-size
returns-clause-size c =
    let m = c.args.lists.now in
    let end : c.loop-seg.seg ≡ segment_count m.setup = omega (arith, c.loop-seg-test.false, c.loop-seg.auto.seg-end, c.segment_count-seg-end.ensures) in
    ap lengths (c.loop-seg.invariant ∙ ap (λ n. map (blank m.setup m.state c.args.heap) (numbers_below n)) end) ∙ blank_sizes m.setup m.state c.args.heap

pub returns-clause-none : goal.returns-clause-none
returns-clause-none c = λ n.
    let m = c.args.lists.now in
    ap (λ (marks : List (List Bool)). is_marked_in (objects_in m.state.objects n.seg.0) (get_or marks n.seg.0 []) n) c.loop-seg.invariant
    ∙ blank_clear m.setup m.state c.args.heap (numbers_below c.loop-seg.seg) (objects_in m.state.objects n.seg.0) n.seg.0 n
