use Rattle.std.proofs.Common.{◌≡◌, ◌≤◌, ap, sym, ◌∙◌, slice_get, Some, None, List, arith}
use Rattle.std.specs.Prelude.{option_map}
use Rattle.k_types.specs.declared.names.Name.{Name}
use Rattle.k_types.specs.State.{Object}
use Rattle.k_types.specs.Trace.{segment_count}
use Rattle.k_state.specs.Segments.{objects_in}
use Rattle.k_solo.proofs.NextObjects.{first_is, first_later, first_past}
use Rattle.k_solo.proofs.shown.first_from.Goals as goal

pub returns-in-Some : goal.returns-in-Some
returns-in-Some c =
    let xs = c.args.lists.now.state.objects in
    let o : Object = c.in-Some.object.now in
    let first : slice_get (objects_in xs c.loop-s.s) 0 ≡ Some o = ap (λ (ys : List Object). slice_get ys 0) (sym c.objects_in.ensures) ∙ sym c.in-Some.ensures.value in
    ap (λ (n : Name). Some n) c.name.ensures
    ∙ sym (ap (option_map (λ (x : Object). x.name)) (c.loop-s.invariant ∙ first_is xs c.loop-s.s o c.setup-shape.ensures.shape.names.ordered first))

pub loop-s-preserved : goal.loop-s-preserved
loop-s-preserved c =
    let xs = c.args.lists.now.state.objects in
    let none : slice_get (objects_in xs c.loop-s.s) 0 ≡ None = ap (λ (ys : List Object). slice_get ys 0) (sym c.objects_in.ensures) ∙ sym c.in_default.ensures.value in
    c.loop-s.invariant ∙ first_later xs c.loop-s.s none

pub returns : goal.returns
returns c =
    let m = c.args.lists.now in
    let past : segment_count m.setup ≤ c.loop-s.s = omega (arith, c.loop-s-test.false, c.segment_count-s-end.ensures) in
    sym (ap (option_map (λ (x : Object). x.name)) (c.loop-s.invariant ∙ first_past m.setup m.state.objects c.loop-s.s past c.setup-shape.ensures.shape.declared))
