use Rattle.std.proofs.Common.{◌≤◌, ap, sym, ◌∙◌, arith}
use Rattle.std.specs.List.{list_all}
use Rattle.k_types.specs.Trace.{segment_count}
use Rattle.k_audit.specs.Tests.{object_there}
use Rattle.k_audit.proofs.Rests.{rest_fails, rest_first, rest_last, rest_passes}
use Rattle.k_audit.proofs.points.objects_there.Goals as goal

pub loop-s-init : goal.loop-s-init
loop-s-init c = let m = c.args.lists.now in rest_first (object_there m.state.objects) m.state.objects

pub returns-then-not-all_there : goal.returns-then-not-all_there
returns-then-not-all_there c =
    let m = c.args.lists.now in
    let p = object_there m.state.objects in
    sym (c.loop-s.invariant
    ∙ rest_fails p m.state.objects c.loop-s.s c.all_there.result c.setup-shape.ensures.shape.names.ordered (c.all_there.ensures ∙ ap (list_all p) c.objects_in.ensures) c.if-not-all_there.true)

pub loop-s-preserved : goal.loop-s-preserved
loop-s-preserved c =
    let m = c.args.lists.now in
    let p = object_there m.state.objects in
    c.loop-s.invariant
    ∙ rest_passes p m.state.objects c.loop-s.s c.all_there.result c.setup-shape.ensures.shape.names.ordered (c.all_there.ensures ∙ ap (list_all p) c.objects_in.ensures) c.if-not-all_there.false

pub returns : goal.returns
returns c =
    let m = c.args.lists.now in
    let past : segment_count m.setup ≤ c.loop-s.s = omega (arith, c.loop-s-test.false, c.segment_count-s-end.ensures) in
    sym (c.loop-s.invariant ∙ rest_last (object_there m.state.objects) m.state.objects m.setup c.loop-s.s past c.setup-shape.ensures.shape.declared)
