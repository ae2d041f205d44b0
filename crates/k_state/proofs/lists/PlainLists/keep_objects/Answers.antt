use Rattle.std.proofs.Common.{◌≡◌, ℕ, ◌==◌, ◌||◌, not, List, Bool, length, length-set, filter, map, ap, subst, sym, ◌∙◌}
use Rattle.k_types.specs.Owners.{object_bytes}
use Rattle.k_types.specs.State.{Object}
use Rattle.k_types.specs.Totals.{total}
use Rattle.k_types.specs.Updates.{keep_objects}
use Rattle.k_state.specs.Machines.{AreTotals, Machine}
use Rattle.k_state.specs.Segments.{objects_in}
use Rattle.k_state.proofs.Kept.{kept_marked}
use Rattle.k_state.proofs.Totals.{totals_kept}
use Rattle.k_state.proofs.Views.{objects_are}
use Rattle.k_state.proofs.lists.PlainLists.keep_objects.Goals as goal

pub invariant_of-self : goal.invariant_of-self
invariant_of-self c =
    let old = c.self.inside.segments in
    let new = c.keep.new.self in
    let s = c.args.seg.0 in
    let is = c.keep.ensures.totals in
    kept_marked _ old.totals new.totals new.objects c.keep.ensures.some.0 c.self.invariant c.keep.ensures.some.1
    (ap (λ (ts : List ℕ). length ts) is ∙ length-set old.totals s (total object_bytes (objects_in new.objects s)))
    (subst (AreTotals new.objects) (sym is) (totals_kept old.objects new.objects old.totals s c.self.invariant.bytes c.keep.ensures.others))

pub returns-clause-state : goal.returns-clause-state
unfolding keep_objects
returns-clause-state c = λ passes say.
    let m = c.args.self.now in
    let s = c.args.seg.0 in
    let test : Object → Bool = λ (o : Object). not (o.name.seg.0 == s) || passes o.name in
    let same : c.self.inside.segments.objects ≡ m.state.objects = ap (λ (n : Machine). n.state.objects) c.self.view_is in
    let kept : c.keep.new.self.objects ≡ filter test m.state.objects
    = c.keep.ensures.passing passes (say ∙ ap (λ (xs : List Object). map (λ (o : Object). passes o.name) (objects_in xs s)) (sym same)) ∙ ap (filter test) same in
    objects_are _ m c.keep.new.self.objects (filter test m.state.objects) c.self.view_is kept
