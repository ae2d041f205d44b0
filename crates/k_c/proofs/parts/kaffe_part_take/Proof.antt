-- `kaffe_part_take` lends what lies at the first address for a lifetime of the call, and writes what was taken into the room at the second.
use Rattle.std.proofs.Common.{[], ◌∷◌, ◌++◌, refl}
use mir.Syntax.{Ty, named}
use mir.Val.{vptr, vunit, has_ty, WT}
use base.Fraction.{full_share}
use base.Logic.{sep, id⊢}
use base.Fml.{Lft, ftrue, fsep, flft}
use lib.Dec.{T}
use prog.Wp.{WpFn}
use types.Logic.{sem}
use types.Kit.{‵, raw, ◌⊛◌, some, later, prop, at_ret, ◌$◌, ◌∵◌, !, qed, done, move, keep, use1, use2, split, join, fsplit, fsplit3, feq_i, pick, await, regoal, suffices, frame, group, show}
use types.Run.{enter, of_opd, unit_lit, addr, stop, no_more, and_then, assigns, init, first, blocks, exec, returns}
use types.ByLocal.{alloc_all, pass_all, free_all, look_at, get, through, sets, sets_last, lands_as, env}
use contract.Monad.{fact}
use contract.Running.{tables}
use denote.Exit.{yes}
use denote.Laws.{Is, shows}
use denote.Memory.{part_at, part_of}
use denote.Param.{layout}
use denote.RawPtr.{Ptr, RawPtr, block_ptr, lies_at, room_at, in_a_block, rawptr_vals, rawptr_Tells}
use denote.Signature.{plain}
use denote.Steps.{nothing, peeks, heard}
use denote.Triple.Call.{calls_at}
use denote.Triple.Clauses.{Lasts, lasts}
use denote.Triple.Spec.{triple_of}
use denote.Triple.Table.{framed}
use denote.Triple.Walked.{says, Stays, walk_of, stay_dropped, Goes-dropped, ends_at}
use borrow.Table.OneValue.{part_in}
use Rattle.std.proofs.raw_atomic.Walks.{proved}
use Rattle.k_slots.specs.contracts.slots.PartSlot.{the_row as R}
use Rattle.k_slots.specs.declared.slots.PartSlot.{PartSlot}
use Rattle.k_slots.proofs.slots.PartSlot.TheLaws.{the_row_laws as RL}
use Rattle.k_slots.specs.Opening.{IsTaken}
use Rattle.k_slots.specs.contracts.take_next as s
use Rattle.k_slots.proofs.take_next.Met.{met}
use Rattle.k_c.specs.contracts.parts.kaffe_part_take as f
use Rattle.k_c.proofs.parts.kaffe_part_take.Statement.{statement}
use Rattle.k_c.proofs.Loans.{had_back, lent}
use Rattle.k_c.proofs.parts.kaffe_part_take.Code as code

abbrev stayed : Stays f.ended.signature.params f.ended.kept
stayed = (stay_dropped _ yes, (stay_dropped _ yes, tt))

pub kaffe_part_take_spec : {M : Type 1} → statement M
unfolding part_of
kaffe_part_take_spec 𝓤 𝓛 𝓜 𝓡 wired =
    let c = f.clauses 𝓛 𝓜.mem 𝓡.returns in let W = walk_of 𝓛 f.ended stayed c in let 𝓣 = tables 𝓤 𝓛.H 𝓜 𝓡 𝓡.env in let τ : Ty = layout R in
    let address = Goes-dropped 𝓛 0 (plain (λ _. RawPtr)) yes (λ κs x w. refl) in
    proved 𝓛 f.ended stayed c 𝓜 𝓡 (address, (address, tt))
    f.Key.name code.function (code.unfolded 𝓤 𝓛.H 𝓜 𝓡 wired)
    (λ κs. (rawptr_vals, (rawptr_vals, tt))) (λ κs. (rawptr_Tells, (rawptr_Tells, tt))) (λ κs qs bounds a g are.
    let y : Ptr → Ptr → W.Ghost = λ p q. ((κs, qs, bounds, (p, (q, tt)), (rawptr_vals p, (rawptr_vals q, tt))), g) in
    qed 𝓛 ((‵ ftrue ⊛ ‵ (fsep (RawPtr.own_val a.0 (rawptr_vals a.0)) (fsep (RawPtr.own_val a.1.0 (rawptr_vals a.1.0)) ftrue))) ∷
    (‵ (lies_at R full_share a.0 g) ⊛ ‵ (room_at R a.1.0)) ∷ []) ∵
    split ! $ move ! (1 ∷ []) $ fsplit3 ! $ move ! (4 ∷ []) $ split ! $ keep ! (0 ∷ 1 ∷ []) $
    in_a_block ! a.0 (λ p. lies_at R full_share p g) (id⊢ 𝓤 _) (λ b o e.
    regoal ! (λ p. prop (WpFn 𝓤 𝓛.H 𝓣.C 𝓣.Λ code.function (rawptr_vals p ++ (rawptr_vals a.1.0 ++ [])) (W.post (y p a.1.0)))) e refl $
    move ! (1 ∷ []) $ in_a_block ! a.1.0 (λ p. room_at R p) (id⊢ 𝓤 _) (λ b₂ o₂ e₂.
    regoal ! (λ p. prop (WpFn 𝓤 𝓛.H 𝓣.C 𝓣.Λ code.function (rawptr_vals (block_ptr b o) ++ (rawptr_vals p ++ [])) (W.post (y (block_ptr b o) p)))) e₂ refl $
    let Y = y (block_ptr b o) (block_ptr b₂ o₂) in
    enter ! _ _ _ _ _ $ alloc_all ! (λ l. pass_all ! refl ((tt, tt), ((tt, tt), tt)) $
    -- [the room; the row; the locals]
    first ! $ blocks ! $ sets ! (of_opd ! (get ! refl)) refl (tt, tt) $ sets_last ! (addr ! (through ! refl (stop !))) refl (tt, tt) $
    exec ! 𝓣.C 𝓣.Λ (env code.Mir.locals l) code.Mir.t-2 (at_ret (env code.Mir.locals l) (W.post Y)) $
    sets ! (of_opd ! (get ! refl)) refl (tt, tt) $ sets ! (of_opd ! (get ! refl)) refl (tt, tt) $ sets ! (addr ! (through ! refl (stop !))) refl (tt, tt) $
    move ! (1 ∷ []) $ lent ! tt R (named 0) g b o (λ α γ. let κ : Lft = α ∷ [] in
    -- [the loan; what comes back; the token; the room; the locals]
    let G = triple_of 𝓛 s.signature (s.spec 𝓛 𝓜.mem 𝓡.returns) in
    let z : G.Ghost = (((κ, tt), (full_share, tt), tt, (record { ref_ptr = (b, o); ghost_name = γ; now = g }, tt), (vptr b o ∷ [], tt)), tt) in
    nothing ! $ move ! (1 ∷ 0 ∷ []) $ join ! $ nothing ! $ move ! (3 ∷ 0 ∷ []) $ join ! $ join ! $ nothing ! $ move ! (1 ∷ 0 ∷ []) $ use2 𝓛 (raw (G.pre z)) (id⊢ 𝓤 _) $
    calls_at ! (framed 𝓤 𝓛.H 𝓜 𝓣) G (met 𝓤 𝓛 𝓜 𝓡 (code.calls-k_slots::take_next 𝓡.env wired)) z (and_then ! (get ! refl) (no_more !)) (λ u.
    use1 𝓛 (later (some (λ (r : R.Denot). ((‵ (flft κ full_share) ⊛ ‵ ftrue) ⊛ ‵ (R.own_val r (u ∷ []))) ⊛
    some (λ (ws : Lasts s.ended z.0.0 z.0.3). ‵ (lasts s.ended z.0.0 z.0.3 ws) ⊛ raw (fact 𝓤 (IsTaken g.part ws.0.part r.part)))))) (id⊢ 𝓤 _) $
    await ! tt $ pick ! (λ r. split ! $ split ! $ split ! $ move ! (3 ∷ []) $ pick ! (λ ws. split ! $ move ! (1 ∷ []) $ heard ! (IsTaken g.part ws.0.part r.part) (λ told. fsplit ! $ fsplit ! $
    -- [the loan's last value; its borrow; nothing; the token; nothing; what was taken; what comes back; the room; the locals]
    move ! (3 ∷ 6 ∷ 0 ∷ []) $ had_back ! tt R ws.0 b o α γ $ move ! (4 ∷ []) $
    peeks ! R (Is R) (shows 𝓛 R) r (u ∷ []) (λ is.
    let t : T (has_ty τ u) × WT u = ((RL.lawful 𝓛).typed r (u ∷ []) is).0 in lands_as ! refl refl t $
    -- [what was taken; the row; its borrow; nothing; nothing; the room; the locals]
    assigns ! (of_opd ! (get ! refl)) (through ! refl (stop !)) (init ! 5 refl t) $ sets ! (of_opd ! (unit_lit !)) refl (tt, tt) $
    returns ! (look_at ! 0 refl) $ free_all ! refl $ move ! (5 ∷ 0 ∷ []) $ use2 𝓛 (‵ (part_at R full_share r b₂ o₂)) (part_in 𝓛 R refl full_share r b₂ o₂ u) $ keep ! (1 ∷ 0 ∷ []) $
    suffices ! _ (ends_at 𝓛 f.ended stayed c Y vunit tt (tt, (tt, tt)) (tt, (tt, tt))) $
    feq_i ! _ (vunit ∷ []) _ refl $ nothing ! $ nothing ! $ join ! $ nothing ! $ join ! $ nothing ! $ group ! 3 $ frame ! $
    show ! (λ (w : PartSlot × PartSlot). sep 𝓤 (sem 𝓛 (lies_at R full_share (block_ptr b o) w.0)) (sep 𝓤 (sem 𝓛 (lies_at R full_share (block_ptr b₂ o₂) w.1)) (fact 𝓤 (IsTaken g.part w.0.part w.1.part)))) (ws.0, r) $ frame ! $ says ! told $ done !))))))))))
