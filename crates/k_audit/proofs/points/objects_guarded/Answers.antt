use Rattle.std.proofs.Common.{◌≤◌, ap, sym, ◌∙◌, arith}
use Rattle.std.specs.List.{list_all}
use Rattle.k_types.specs.Trace.{segment_count}
use Rattle.k_types.specs.Owners.{owner_of}
use Rattle.k_audit.specs.Tests.{object_guarded}
use Rattle.k_audit.proofs.Rests.{rest_fails, rest_first, rest_last, rest_passes}
use Rattle.k_audit.proofs.points.objects_guarded.Goals as goal

pub loop-s-init : goal.loop-s-init
loop-s-init c = let m = c.args.lists.now in rest_first (object_guarded (owner_of m.setup m.state) m.state.exits) m.state.objects

pub returns-then-not-all_guarded : goal.returns-then-not-all_guarded
returns-then-not-all_guarded c =
    let m = c.args.lists.now in
    let p = object_guarded (owner_of m.setup m.state) m.state.exits in
    sym (c.loop-s.invariant
    ∙ rest_fails p m.state.objects c.loop-s.s c.all_guarded.result c.setup-shape.ensures.shape.names.ordered (c.all_guarded.ensures ∙ ap (list_all p) c.objects_in.ensures) c.if-not-all_guarded.true)

pub loop-s-preserved : goal.loop-s-preserved
loop-s-preserved c =
    let m = c.args.lists.now in
    let p = object_guarded (owner_of m.setup m.state) m.state.exits in
    c.loop-s.invariant
    ∙ rest_passes p m.state.objects c.loop-s.s c.all_guarded.result c.setup-shape.ensures.shape.names.ordered (c.all_guarded.ensures ∙ ap (list_all p) c.objects_in.ensures) c.if-not-all_guarded.false

pub returns : goal.returns
returns c =
    let m = c.args.lists.now in
    let past : segment_count m.setup ≤ c.loop-s.s = omega (arith, c.loop-s-test.false, c.segment_count-s-end.ensures) in
    sym (c.loop-s.invariant ∙ rest_last (object_guarded (owner_of m.setup m.state) m.state.exits) m.state.objects m.setup c.loop-s.s past c.setup-shape.ensures.shape.declared)
