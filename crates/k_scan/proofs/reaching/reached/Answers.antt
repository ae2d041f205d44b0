use Rattle.std.proofs.Common.{rules, ◌≡◌, List, [], Some, None, ap, sym, subst, ◌∙◌, option_copied}
use Rattle.k_types.specs.declared.names.Name.{Name}
use Rattle.k_types.specs.State.{object_at}
use Rattle.k_scan.proofs.Reaches.{IsReaching, reaching_begins, reaching_ends, reaching_follows, reaching_skips}
use Rattle.k_scan.proofs.reaching.reached.Goals as goal

pub loop-waiting-init : goal.loop-waiting-init
loop-waiting-init c =
    let m = c.args.lists.now in
    reaching_begins m.setup m.state c.args.heap c.args.roots.now c.in_ok-marks.marks c.begin.new.marks c.new-work.result.items c.begin.new.work.items
    c.in_ok-marks.ensures.size c.in_ok-marks.ensures.none c.new-work.ensures.items c.in_ok-begin.ensures

pub loop-waiting-preserved-in-Continue-branch-3 : goal.loop-waiting-preserved-in-Continue-branch-3
loop-waiting-preserved-in-Continue-branch-3 c =
    let m = c.args.lists.now in
    let reaching = λ (work : List Name). IsReaching m.setup m.state c.args.heap c.args.roots.now c.loop-waiting.marks work in
    let found : object_at m.state.objects c.in-Some.waiting ≡ Some c.in-Some-object_in.object.now = sym c.object_in.ensures ∙ ap option_copied c.in-Some-object_in.is in
    reaching_follows m.setup m.state c.args.heap c.args.roots.now c.loop-waiting.marks c.follow.new.marks c.pop.new.self.items c.follow.new.work.items c.in-Some.waiting c.in-Some-object_in.object.now c.setup-setup.ensures.shape.names.ordered found
    c.in_ok-follow.ensures (subst reaching c.in-Some.ensures.items c.loop-waiting.invariant)

pub loop-waiting-preserved : goal.loop-waiting-preserved
loop-waiting-preserved c =
    let m = c.args.lists.now in
    let reaching = λ (work : List Name). IsReaching m.setup m.state c.args.heap c.args.roots.now c.loop-waiting.marks work in
    let none : object_at m.state.objects c.in-Some.waiting ≡ None = sym c.object_in.ensures ∙ ap option_copied c.in_default-object_in.is in
    reaching_skips m.setup m.state c.args.heap c.args.roots.now c.loop-waiting.marks c.pop.new.self.items c.in-Some.waiting none (subst reaching c.in-Some.ensures.items c.loop-waiting.invariant)

pub returns : goal.returns
returns c =
    let m = c.args.lists.now in
    let reaching = λ (work : List Name). IsReaching m.setup m.state c.args.heap c.args.roots.now c.loop-waiting.marks work in
    let empty : c.loop-waiting.work.items ≡ [] = search rules in
    reaching_ends m.setup m.state c.args.heap c.args.roots.now c.loop-waiting.marks c.setup-setup.ensures.shape.names.ordered (subst reaching empty c.loop-waiting.invariant)
