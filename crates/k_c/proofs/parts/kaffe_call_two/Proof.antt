-- `kaffe_call_two` lends what lies at each of two addresses for a lifetime of its own, and has both back at the values that the call left.
use Rattle.std.proofs.Common.{ℕ, [], ◌∷◌, ◌++◌, refl}
use mir.Syntax.{named}
use mir.Val.{vptr}
use base.Fraction.{full_share}
use base.Logic.{sep, id⊢}
use base.Fml.{Lft, ftrue, fsep, flft}
use prog.Wp.{WpFn}
use types.Logic.{sem}
use types.Kit.{‵, raw, ◌⊛◌, some, later, prop, at_ret, ◌$◌, ◌∵◌, !, qed, done, move, keep, use1, use2, split, join, fsplit, fsplit3, pick, await, regoal, suffices, frame, group, show}
use types.Run.{enter, of_opd, addr, stop, no_more, and_then, first, blocks, exec, returns}
use types.ByLocal.{alloc_all, pass_all, free_all, look_at, get, through, sets, sets_last, lands_as, env}
use contract.Monad.{fact}
use contract.Running.{tables}
use denote.Exit.{yes}
use denote.Laws.{Is, shows}
use denote.Memory.{part_of}
use denote.RawPtr.{Ptr, RawPtr, block_ptr, lies_at, in_a_block, rawptr_vals, rawptr_Tells}
use denote.Signature.{plain}
use denote.Steps.{nothing, peeks, heard}
use denote.Triple.Call.{calls_at}
use denote.Triple.Clauses.{Lasts, lasts}
use denote.Triple.Spec.{triple_of}
use denote.Triple.Table.{framed}
use denote.Triple.Walked.{says, Stays, walk_of, stay_dropped, Goes-dropped, ends_at}
use Rattle.std.proofs.raw_atomic.Walks.{proved}
use Rattle.k_slots.specs.contracts.slots.PartSlot.{the_row as R}
use Rattle.k_slots.specs.declared.slots.PartSlot.{PartSlot}
use Rattle.k_embed.specs.contracts.messages.Request.{the_row as Ask}
use Rattle.k_embed.specs.contracts.messages.Answer.{the_row as Said}
use Rattle.k_embed.proofs.messages.Request.TheLaws.{the_told as AT, the_row_laws as AL}
use Rattle.k_embed.proofs.messages.Answer.TheLaws.{the_row_laws as SL}
use Rattle.k_slots.specs.Lending.{CanLendTwo}
use Rattle.k_slots.specs.Serving.{IsServedByTwo}
use Rattle.k_c.specs.contracts.parts.kaffe_call_two as f
use Rattle.k_slots.specs.contracts.serve_two as s
use Rattle.k_slots.proofs.serve_two.Met.{met}
use Rattle.k_c.proofs.parts.kaffe_call_two.Statement.{statement}
use Rattle.k_c.proofs.Loans.{had_back, lent}
use Rattle.k_c.proofs.parts.kaffe_call_two.Code as code

abbrev stayed : Stays f.ended.signature.params f.ended.kept
stayed = (stay_dropped _ yes, (stay_dropped _ yes, (stay_dropped _ yes, tt)))

pub kaffe_call_two_spec : {M : Type 1} → statement M
unfolding part_of
kaffe_call_two_spec 𝓤 𝓛 𝓜 𝓡 wired =
    let c = f.clauses 𝓛 𝓜.mem 𝓡.returns in let W = walk_of 𝓛 f.ended stayed c in let 𝓣 = tables 𝓤 𝓛.H 𝓜 𝓡 𝓡.env in
    let address = Goes-dropped 𝓛 0 (plain (λ _. RawPtr)) yes (λ κs x w. refl) in
    proved 𝓛 f.ended stayed c 𝓜 𝓡 (address, (address, (Goes-dropped 𝓛 0 (plain (λ _. Ask)) yes (λ κs x w. refl), tt)))
    f.Key.name code.function (code.unfolded 𝓤 𝓛.H 𝓜 𝓡 wired)
    (λ κs. (rawptr_vals, (rawptr_vals, ((λ x. AT.val x ∷ []), tt)))) (λ κs. (rawptr_Tells, (rawptr_Tells, (AT.tells, tt)))) (λ κs qs bounds a g are.
    let ask = a.1.1.0 in let v = AT.val ask in
    let y : Ptr → Ptr → W.Ghost = λ p q. ((κs, qs, bounds, (p, (q, (ask, tt))), (rawptr_vals p, (rawptr_vals q, (v ∷ [], tt)))), g) in
    qed 𝓛 ((‵ ftrue ⊛ ‵ (fsep (RawPtr.own_val a.0 (rawptr_vals a.0)) (fsep (RawPtr.own_val a.1.0 (rawptr_vals a.1.0)) (fsep (Ask.own_val ask (v ∷ [])) ftrue)))) ∷
    (‵ (lies_at R full_share a.0 g.0) ⊛ ‵ (lies_at R full_share a.1.0 g.1) ⊛ raw (fact 𝓤 (CanLendTwo g.0 g.1))) ∷ []) ∵
    split ! $ move ! (1 ∷ []) $ fsplit3 ! $ move ! (2 ∷ []) $ fsplit ! $ move ! (5 ∷ []) $ split ! $ move ! (1 ∷ []) $ split ! $ keep ! (2 ∷ 0 ∷ 1 ∷ 3 ∷ []) $
    in_a_block ! a.0 (λ p. lies_at R full_share p g.0) (id⊢ 𝓤 _) (λ b o e.
    regoal ! (λ p. prop (WpFn 𝓤 𝓛.H 𝓣.C 𝓣.Λ code.function (rawptr_vals p ++ (rawptr_vals a.1.0 ++ (v ∷ []))) (W.post (y p a.1.0)))) e refl $
    move ! (1 ∷ []) $ in_a_block ! a.1.0 (λ p. lies_at R full_share p g.1) (id⊢ 𝓤 _) (λ b₂ o₂ e₂.
    regoal ! (λ p. prop (WpFn 𝓤 𝓛.H 𝓣.C 𝓣.Λ code.function (rawptr_vals (block_ptr b o) ++ (rawptr_vals p ++ (v ∷ []))) (W.post (y (block_ptr b o) p)))) e₂ refl $
    let Y = y (block_ptr b o) (block_ptr b₂ o₂) in
    enter ! _ _ _ _ _ $ alloc_all ! (λ l. pass_all ! refl ((tt, tt), ((tt, tt), (AL.lawful 𝓛).typed ask (v ∷ []) are.1.1.0)) $
    -- [lies1; lies0; fact; ask; the locals]
    first ! $ blocks ! $ sets ! (of_opd ! (get ! refl)) refl (tt, tt) $ sets_last ! (addr ! (through ! refl (stop !))) refl (tt, tt) $
    exec ! 𝓣.C 𝓣.Λ (env code.Mir.locals l) code.Mir.t-2 (at_ret (env code.Mir.locals l) (W.post Y)) $
    sets ! (of_opd ! (get ! refl)) refl (tt, tt) $
    first ! $ blocks ! $ sets ! (of_opd ! (get ! refl)) refl (tt, tt) $ sets_last ! (addr ! (through ! refl (stop !))) refl (tt, tt) $
    exec ! 𝓣.C 𝓣.Λ (env code.Mir.locals l) code.Mir.t-4 (at_ret (env code.Mir.locals l) (W.post Y)) $
    sets ! (of_opd ! (get ! refl)) refl (tt, tt) $
    sets ! (addr ! (through ! refl (stop !))) refl (tt, tt) $ sets ! (addr ! (through ! refl (stop !))) refl (tt, tt) $
    move ! (1 ∷ []) $ lent ! tt R (named 0) g.0 b o (λ α γ. let κ : Lft = α ∷ [] in
    move ! (3 ∷ []) $ lent ! tt R (named 1) g.1 b₂ o₂ (λ β δ. let κ₂ : Lft = β ∷ [] in
    -- [ref1; f1; t1; ref0; f0; t0; fact; ask; the locals]
    let G = triple_of 𝓛 s.signature (s.spec 𝓛 𝓜.mem 𝓡.returns) in
    let z : G.Ghost = (((κ, (κ₂, tt)), (full_share, (full_share, tt)), tt, (record { ref_ptr = (b, o); ghost_name = γ; now = g.0 }, (record { ref_ptr = (b₂, o₂); ghost_name = δ; now = g.1 }, (ask, tt))), (vptr b o ∷ [], (vptr b₂ o₂ ∷ [], (v ∷ [], tt)))), tt) in
    nothing ! $ move ! (8 ∷ 0 ∷ []) $ join ! $ move ! (1 ∷ 0 ∷ []) $ join ! $ move ! (3 ∷ 0 ∷ []) $ join ! $ nothing ! $ move ! (3 ∷ 0 ∷ []) $ join ! $ move ! (4 ∷ 0 ∷ []) $ join ! $ join ! $ move ! (0 ∷ 3 ∷ []) $ use2 𝓛 (raw (G.pre z)) (id⊢ 𝓤 _) $
    calls_at ! (framed 𝓤 𝓛.H 𝓜 𝓣) G (met 𝓤 𝓛 𝓜 𝓡 (code.calls-k_slots::serve_two 𝓡.env wired)) z
    (and_then ! (get ! refl) (and_then ! (get ! refl) (and_then ! (get ! refl) (no_more !)))) (λ u.
    use1 𝓛 (later (some (λ (r : Said.Denot). ((‵ (flft κ full_share) ⊛ (‵ (flft κ₂ full_share) ⊛ ‵ ftrue)) ⊛ ‵ (Said.own_val r (u ∷ []))) ⊛
    some (λ (ws : Lasts s.ended z.0.0 z.0.3). ‵ (lasts s.ended z.0.0 z.0.3 ws) ⊛ raw (fact 𝓤 (IsServedByTwo g.0 ws.0 g.1 ws.1.0 ask r)))))) (id⊢ 𝓤 _) $
    await ! tt $ pick ! (λ r. split ! $ split ! $ split ! $ move ! (1 ∷ []) $ split ! $ move ! (3 ∷ []) $
    peeks ! Said (Is Said) (shows 𝓛 Said) r (u ∷ []) (λ is. lands_as ! refl refl ((SL.lawful 𝓛).typed r (u ∷ []) is).0 $
    move ! (4 ∷ []) $ pick ! (λ ws. split ! $ move ! (1 ∷ []) $ heard ! (IsServedByTwo g.0 ws.0 g.1 ws.1.0 ask r) (λ told. fsplit ! $ fsplit ! $ move ! (2 ∷ []) $ fsplit ! $ fsplit ! $
    -- [v1; w1; l1; v0; w0; Said; t1; noT; t0; f1; f0; the locals]
    move ! (6 ∷ 9 ∷ 0 ∷ []) $ had_back ! tt R ws.1.0 b₂ o₂ β δ $
    move ! (7 ∷ 8 ∷ 3 ∷ []) $ had_back ! tt R ws.0 b o α γ $
    returns ! (look_at ! 0 refl) $ free_all ! refl $ keep ! (5 ∷ 0 ∷ 1 ∷ []) $
    suffices ! _ (ends_at 𝓛 f.ended stayed c Y u r (tt, (tt, (tt, tt))) (tt, (tt, (tt, tt)))) $
    nothing ! $ nothing ! $ join ! $ nothing ! $ join ! $ nothing ! $ join ! $ nothing ! $ group ! 3 $ frame ! $
    show ! (λ (w : PartSlot × PartSlot). sep 𝓤 (sem 𝓛 (lies_at R full_share (block_ptr b o) w.0)) (sep 𝓤 (sem 𝓛 (lies_at R full_share (block_ptr b₂ o₂) w.1)) (fact 𝓤 (IsServedByTwo g.0 w.0 g.1 w.1 ask r)))) (ws.0, ws.1.0) $ frame ! $ says ! told $ done !)))))))))))
