use Rattle.std.proofs.Common.{◌≡◌, ◌∙◌, ◌<◌, ◌+◌, ◌-◌, ◌++◌, List, [], ◌∷◌, sym, ap, map, length, arith, append-nil, slice_index_or}
use Rattle.std.proofs.lemmas.List.{map-append}
use Rattle.std.proofs.lemmas.Result.{on_ok_weaker}
use Rattle.k_types.specs.declared.names.Pid.{Pid}
use Rattle.k_spawn.specs.Families.{Family, reaped_within}
use Rattle.k_spawn.proofs.Reaped.{no_list, kept_by_child, kept_by_other, list_done}
use Rattle.k_spawn.proofs.family.Family.+add_reaped.Goals as goal
use Rattle.k_spawn.proofs.family.Family.+add_reaped.Goals.{then-index-pid+in_ok-add_reaped, else-index-pid}

pub returns-then-depth-eq0 : goal.returns-then-depth-eq0
returns-then-depth-eq0 t c =
    sym (append-nil (map (λ (it : Pid). it.0) c.args.list.now.items)) ∙ ap (λ ls. map (λ (it : Pid). it.0) c.args.list.now.items ++ ls) (sym (no_list c.args.self.now c.args.depth c.args.pid.0 c.if-depth-eq0.true))

pub loop-place-preserved : goal.loop-place-preserved
loop-place-preserved t c =
    let inside : c.loop-place.place < length c.args.self.now.parents = omega (arith, ap (λ (f : Family). length f.parents) c.self.view_is) in
    let first : c.self.inside.first ≡ c.args.self.now.first = cc in
    let parents : c.self.inside.parents.items ≡ c.args.self.now.parents = cc in
    let here : c.index.result.now ≡ slice_index_or c.args.self.now.parents c.loop-place.place c.index.result.now = c.index.ensures ∙ ap (λ (ps : List Pid). slice_index_or ps c.loop-place.place c.index.result.now) parents in
    elim c.if-index-pid.branch [
      | then-index-pid+in_ok-add_reaped w ↦ kept_by_child c.args.self.now _ c.args.pid.0 c.loop-place.place c.index.result.now _ _ _ inside here c.loop-place.invariant w.if-index-pid.true
          (ap (λ ls. map (λ (it : Pid). it.0) ls.items) w.list-is ∙ w.in_ok-add_reaped.ensures ∙ ap (λ n. map (λ (it : Pid). it.0) c.loop-place.list.items ++ reaped_within c.args.self.now (c.args.depth - 1) (n + c.loop-place.place)) first)
      | else-index-pid w ↦ kept_by_other c.args.self.now _ c.args.pid.0 c.loop-place.place c.index.result.now _ _ _ inside here c.loop-place.invariant w.if-index-pid.false (ap (λ ls. map (λ (it : Pid). it.0) ls.items) w.list-is)
    ]

pub returns : goal.returns
returns t c =
    let deep : 0 < c.args.depth = omega arith in
    let done : length c.args.self.now.parents ≡ c.loop-place.place = omega (arith, ap (λ (f : Family). length f.parents) c.self.view_is) in
    on_ok_weaker c.push.result (λ stored. ap (map (λ (it : Pid). it.0)) stored ∙ map-append (λ (it : Pid). it.0) c.loop-place.list.items (c.args.pid ∷ []) ∙ list_done c.args.self.now c.args.depth c.args.pid.0 c.loop-place.place _ _ deep done c.loop-place.invariant) c.push.ensures.stored
