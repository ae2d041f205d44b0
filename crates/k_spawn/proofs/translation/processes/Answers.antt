use Rattle.std.proofs.Common.{◌≡◌, ◌∙◌, ◌<◌, ◌+◌, length, ap, arith}
use Rattle.k_types.specs.declared.names.LimitId.{LimitId}
use Rattle.k_spawn.specs.Scripts.{Script, family, limit_for}
use Rattle.k_spawn.specs.Translation.{limit_id}
use Rattle.k_spawn.proofs.Copied.{grown_step}
use Rattle.k_spawn.proofs.translation.processes.Goals as goal

pub loop-place-preserved : goal.loop-place-preserved
loop-place-preserved c =
    let s = c.args.script.now in
    let inside : c.loop-place.place < length s.parents = omega (arith, ap (λ (x : Script). length x.parents) c.script.view_is) in
    let first : c.script.inside.family.first ≡ (family s).first = cc in
    grown_step (limit_id s) (family s) c.loop-place.place _ _ _ _ inside c.in_ok-push.ensures.stored
    (ap (λ n. let at : LimitId = record { 0 = n } in at) (c.limit_of.ensures ∙ ap (limit_for s) (c.child_at.ensures.process ∙ ap (λ n. n + c.loop-place.place) first)))
    c.loop-place.invariant
