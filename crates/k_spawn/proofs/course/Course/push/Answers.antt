use Rattle.std.proofs.Common.{◌≡◌, ◌≤◌, ◌<◌, ◌∙◌, ◌+◌, length, map, sym, ap, subst, arith}
use Rattle.k_types.specs.declared.names.Pid.{Pid}
use Rattle.k_spawn.specs.Courses.{Course, IsDeedOf, reaped_by}
use Rattle.k_spawn.specs.Families.{Family}
use Rattle.k_spawn.specs.Timely.{operations_so_far, weight}
use Rattle.k_spawn.proofs.Marks.{does_kept, spawns_kept, reaps_kept, weight_is}
use Rattle.k_spawn.proofs.course.Course.push.Goals as goal

pub invariant_of-self-in-Does : goal.invariant_of-self-in-Does
invariant_of-self-in-Does c =
    let f = c.self.inside.family in
    let same : f ≡ c.args.self.now.family = ap (λ (x : Course). x.family) c.self.view_is in
    let listed : map (λ (it : Pid). it.0) c.args.reaped.now ≡ reaped_by f c.args.deed = c.requires.reaped ∙ ap (λ (g : Family). reaped_by g c.args.deed) (sym same) in
    let weighs : c.weight_of.result ≡ weight f c.args.deed = c.weight_of.ensures ∙ weight_is f c.args.deed c.args.reaped.now listed in
    let so_far : operations_so_far c.args.self.now.family c.args.self.now.lines ≡ c.self.inside.operations = ap (λ (x : Course). operations_so_far x.family x.lines) (sym c.self.view_is) ∙ sym c.self.invariant.counted in
    let few : c.self.inside.operations + c.weight_of.result ≤ 200000 = omega (arith, c.requires.room, so_far, weighs, ap (λ (g : Family). weight g c.args.deed) same) in
    does_kept f c.self.inside.lines.items c.self.inside.spawned c.self.inside.reaped c.self.inside.left c.self.inside.operations c.args.pid c.args.deed _ _ c.self.invariant c.in_ok-push.ensures.stored
    (ap (λ n. c.self.inside.operations + n) weighs) few c.in-Does.op c.leaves.result c.in-Does.is (omega arith) c.requires.process c.leaves.ensures

pub invariant_of-self-in-Spawns : goal.invariant_of-self-in-Spawns
invariant_of-self-in-Spawns c =
    let f = c.self.inside.family in
    let same : f ≡ c.args.self.now.family = ap (λ (x : Course). x.family) c.self.view_is in
    let listed : map (λ (it : Pid). it.0) c.args.reaped.now ≡ reaped_by f c.args.deed = c.requires.reaped ∙ ap (λ (g : Family). reaped_by g c.args.deed) (sym same) in
    let weighs : c.weight_of.result ≡ weight f c.args.deed = c.weight_of.ensures ∙ weight_is f c.args.deed c.args.reaped.now listed in
    let so_far : operations_so_far c.args.self.now.family c.args.self.now.lines ≡ c.self.inside.operations = ap (λ (x : Course). operations_so_far x.family x.lines) (sym c.self.view_is) ∙ sym c.self.invariant.counted in
    let few : c.self.inside.operations + c.weight_of.result ≤ 200000 = omega (arith, c.requires.room, so_far, weighs, ap (λ (g : Family). weight g c.args.deed) same) in
    let known : c.in-Spawns.child.0 < c.args.self.now.family.first + length c.args.self.now.family.parents = subst (IsDeedOf c.args.self.now.family) c.in-Spawns.is c.requires.known in
    let inside : c.in-Spawns.child.0 < 64 = omega (arith, known, c.self.invariant.processes, ap (λ (g : Family). g.first + length g.parents) same) in
    spawns_kept f c.self.inside.lines.items c.self.inside.spawned c.self.inside.reaped c.self.inside.left c.self.inside.operations c.args.pid c.args.deed _ _ c.self.invariant c.in_ok-push.ensures.stored
    (ap (λ n. c.self.inside.operations + n) weighs) few c.in-Spawns.child c.in-Spawns.max c.in-Spawns.is (omega arith) inside

pub invariant_of-self-in-Reaps : goal.invariant_of-self-in-Reaps
invariant_of-self-in-Reaps c =
    let f = c.self.inside.family in
    let same : f ≡ c.args.self.now.family = ap (λ (x : Course). x.family) c.self.view_is in
    let listed : map (λ (it : Pid). it.0) c.args.reaped.now ≡ reaped_by f c.args.deed = c.requires.reaped ∙ ap (λ (g : Family). reaped_by g c.args.deed) (sym same) in
    let weighs : c.weight_of.result ≡ weight f c.args.deed = c.weight_of.ensures ∙ weight_is f c.args.deed c.args.reaped.now listed in
    let so_far : operations_so_far c.args.self.now.family c.args.self.now.lines ≡ c.self.inside.operations = ap (λ (x : Course). operations_so_far x.family x.lines) (sym c.self.view_is) ∙ sym c.self.invariant.counted in
    let few : c.self.inside.operations + c.weight_of.result ≤ 200000 = omega (arith, c.requires.room, so_far, weighs, ap (λ (g : Family). weight g c.args.deed) same) in
    reaps_kept f c.self.inside.lines.items c.self.inside.spawned c.self.inside.reaped c.self.inside.left c.self.inside.operations c.args.pid c.args.deed _ _ c.self.invariant c.in_ok-push.ensures.stored
    (ap (λ n. c.self.inside.operations + n) weighs) few c.in-Reaps.child c.args.reaped.now c.mark.new.marks c.in-Reaps.is c.mark.ensures listed
