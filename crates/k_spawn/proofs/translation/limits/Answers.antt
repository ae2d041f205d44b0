use Rattle.std.proofs.Common.{◌≡◌, ◌∙◌, ◌<◌, List, length, true, Some, sym, ap, arith, slice_index_or}
use Rattle.k_types.specs.declared.names.Pid.{Pid}
use Rattle.k_types.specs.declared.setup.LimitRow.{LimitRow}
use Rattle.k_spawn.specs.Scripts.{Script, family, limit_for}
use Rattle.k_spawn.specs.Translation.{child_row}
use Rattle.k_spawn.proofs.Copied.{grown_step}
use Rattle.k_spawn.proofs.Reaped.{parent_here}
use Rattle.k_spawn.proofs.translation.limits.Goals as goal

pub loop-place-preserved : goal.loop-place-preserved
loop-place-preserved c =
    let s = c.args.script.now in
    let inside : c.loop-place.place < length s.parents = omega (arith, ap (λ (x : Script). length x.parents) c.script.view_is) in
    let parents : c.script.inside.family.parents ≡ s.parents = ap (λ (x : Script). x.parents) c.script.view_is in
    let here : c.parent_at.result ≡ slice_index_or s.parents c.loop-place.place c.parent_at.result = c.parent_at.ensures.parent ∙ ap (λ (ps : List Pid). slice_index_or ps c.loop-place.place c.parent_at.result) parents in
    grown_step (child_row s) (family s) c.loop-place.place _ _ _ _ inside c.in_ok-push.ensures.stored
    (ap (λ n. let row : LimitRow = record { parent = Some (record { 0 = n }); hard = true; max = 0 } in row) (c.limit_of.ensures ∙ ap (limit_for s) (sym (parent_here (family s) c.loop-place.place c.parent_at.result inside here))))
    c.loop-place.invariant
