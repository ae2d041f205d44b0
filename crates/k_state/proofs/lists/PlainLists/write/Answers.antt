use Rattle.std.proofs.Common.{◌≡◌, map, ap, subst, sym, ◌∙◌}
use Rattle.k_types.specs.Updates.{object_after_write, write}
use Rattle.k_state.specs.Contents.{content}
use Rattle.k_state.specs.Machines.{IsKept, Machine}
use Rattle.k_state.proofs.Kept.{kept_written}
use Rattle.k_state.proofs.Views.{objects_are}
use Rattle.k_state.proofs.lists.PlainLists.write.Goals as goal

pub invariant_of-self : goal.invariant_of-self
invariant_of-self c =
    let old = c.self.inside.segments in
    let new = c.write.new.self in
    subst (IsKept _) (sym c.write.ensures.totals)
    (kept_written _ old.totals new.objects c.args.x c.args.field (content c.args.value) c.self.invariant c.write.ensures.objects)

pub returns-clause-state : goal.returns-clause-state
unfolding write
returns-clause-state c =
    let m = c.args.self.now in
    let held = content c.args.value in
    let same : c.self.inside.segments.objects ≡ m.state.objects = ap (λ (n : Machine). n.state.objects) c.self.view_is in
    objects_are _ m c.write.new.self.objects (map (object_after_write c.args.x c.args.field held) m.state.objects) c.self.view_is
    (c.write.ensures.objects ∙ ap (map (object_after_write c.args.x c.args.field held)) same)
