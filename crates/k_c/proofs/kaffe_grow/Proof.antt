-- `kaffe_grow` lends what lies at the address for a lifetime of the call, and has it back at the value that the call left.
use Rattle.std.proofs.Common.{ℕ, [], ◌∷◌, ◌++◌, refl}
use mir.Syntax.{named}
use mir.Val.{vptr}
use base.Fraction.{full_share}
use base.Logic.{sep, id⊢}
use base.Fml.{Lft, ftrue, fsep, flft, flent}
use prog.Wp.{WpFn}
use types.Logic.{sem}
use types.SemTy.{Body}
use types.Kit.{‵, raw, ◌⊛◌, some, later, prop, at_ret, ◌$◌, ◌∵◌, !, qed, done, move, keep, use1, use2, use3, split, join, fsplit, fsplit3, pick, await, regoal, suffices, frame, group, show}
use types.Tokens.{lft_new, lft_end}
use types.Run.{enter, of_opd, addr, stop, no_more, and_then, first, blocks, exec, returns}
use types.ByLocal.{alloc_all, pass_all, free_all, look_at, get, through, sets, sets_last, lands_as, env}
use contract.Monad.{fact}
use contract.Running.{tables}
use denote.Exit.{yes}
use denote.Laws.{Is, shows}
use denote.Lend.{lends_ref, ref_back}
use denote.Memory.{mem, part_of}
use denote.RawPtr.{Ptr, RawPtr, block_ptr, lies_at, in_a_block, rawptr_vals, rawptr_Tells}
use denote.Ref.{MutRef}
use denote.Signature.{plain}
use denote.Steps.{nothing, peeks, heard}
use denote.Triple.Call.{calls_at}
use denote.Triple.Clauses.{Lasts, lasts}
use denote.Triple.Spec.{triple_of}
use denote.Triple.Table.{framed}
use denote.Triple.Walked.{says, Stays, walk_of, stay_dropped, Goes-dropped, ends_at}
use Rattle.std.proofs.raw_atomic.Walks.{proved}
use Rattle.k_embed.specs.contracts.serving.Slot.{the_row as R}
use Rattle.k_embed.specs.declared.serving.Slot.{Slot}
use Rattle.k_embed.specs.contracts.messages.Rooms.{the_row as Ask}
use Rattle.k_embed.specs.contracts.messages.Answer.{the_row as Said}
use Rattle.k_embed.proofs.messages.Rooms.TheLaws.{the_told as AT, the_row_laws as AL}
use Rattle.k_embed.proofs.messages.Answer.TheLaws.{the_row_laws as SL}
use Rattle.k_embed.specs.Growing.{IsGrownIn}
use Rattle.k_c.specs.contracts.kaffe_grow as f
use Rattle.k_c.specs.contracts.grow_at as s
use Rattle.k_c.proofs.grow_at.Met.{met}
use Rattle.k_c.proofs.kaffe_grow.Statement.{statement}
use Rattle.k_c.proofs.kaffe_grow.Code as code

abbrev stayed : Stays f.ended.signature.params f.ended.kept
stayed = (stay_dropped _ yes, (stay_dropped _ yes, tt))

pub kaffe_grow_spec : {M : Type 1} → statement M
unfolding part_of
kaffe_grow_spec 𝓤 𝓛 𝓜 𝓡 wired =
    let c = f.clauses 𝓛 𝓜.mem 𝓡.returns in let W = walk_of 𝓛 f.ended stayed c in let 𝓣 = tables 𝓤 𝓛.H 𝓜 𝓡 𝓡.env in
    proved 𝓛 f.ended stayed c 𝓜 𝓡 (Goes-dropped 𝓛 0 (plain (λ _. RawPtr)) yes (λ κs x w. refl), (Goes-dropped 𝓛 0 (plain (λ _. Ask)) yes (λ κs x w. refl), tt))
    f.Key.name code.function (code.unfolded 𝓤 𝓛.H 𝓜 𝓡 wired)
    (λ κs. (rawptr_vals, ((λ x. AT.val x ∷ []), tt))) (λ κs. (rawptr_Tells, (AT.tells, tt))) (λ κs qs bounds a g are.
    let ask = a.1.0 in let v = AT.val ask in
    let y : Ptr → W.Ghost = λ p. ((κs, qs, bounds, (p, (ask, tt)), (rawptr_vals p, (v ∷ [], tt))), g) in
    qed 𝓛 ((‵ ftrue ⊛ ‵ (fsep (RawPtr.own_val a.0 (rawptr_vals a.0)) (fsep (Ask.own_val ask (v ∷ [])) ftrue))) ∷ ‵ (lies_at R full_share a.0 g) ∷ []) ∵
    split ! $ move ! (1 ∷ []) $ fsplit3 ! $ keep ! (4 ∷ 1 ∷ []) $
    in_a_block ! a.0 (λ p. lies_at R full_share p g) (id⊢ 𝓤 _) (λ b o e.
    regoal ! (λ p. prop (WpFn 𝓤 𝓛.H 𝓣.C 𝓣.Λ code.function (rawptr_vals p ++ (v ∷ [])) (W.post (y p)))) e refl $
    enter ! _ _ _ _ _ $ alloc_all ! (λ l. pass_all ! refl ((tt, tt), (AL.lawful 𝓛).typed ask (v ∷ []) are.1.0) $
    -- [what lies there; what is asked; the locals]
    first ! $ blocks ! $ sets ! (of_opd ! (get ! refl)) refl (tt, tt) $ sets_last ! (addr ! (through ! refl (stop !))) refl (tt, tt) $
    exec ! 𝓣.C 𝓣.Λ (env code.Mir.locals l) code.Mir.t-2 (at_ret _ (W.post (y (block_ptr b o)))) $
    sets ! (of_opd ! (get ! refl)) refl (tt, tt) $ sets ! (addr ! (through ! refl (stop !))) refl (tt, tt) $
    lft_new ! tt (λ α. let κ : Lft = α ∷ [] in move ! (1 ∷ []) $
    use1 𝓛 (later (some (λ (γ : ℕ). ‵ ((MutRef (named 0) κ R).own_val (record { ref_ptr = (b, o); ghost_name = γ; now = g }) (vptr b o ∷ [])) ⊛ ‵ (flent κ (Body (mem R) b o γ)))))
    (lends_ref 𝓛 R (named 0) κ g b o) $ await ! tt $ pick ! (λ γ. split ! $
    -- [the loan; what comes back; the token; what is asked]
    let G = triple_of 𝓛 s.signature (s.spec 𝓛 𝓜.mem 𝓡.returns) in
    let z : G.Ghost = (((κ, tt), (full_share, tt), tt, (record { ref_ptr = (b, o); ghost_name = γ; now = g }, (ask, tt)), (vptr b o ∷ [], (v ∷ [], tt))), tt) in
    nothing ! $ move ! (4 ∷ 0 ∷ []) $ join ! $ move ! (1 ∷ 0 ∷ []) $ join ! $ nothing ! $ move ! (3 ∷ 0 ∷ []) $ join ! $ join ! $
    nothing ! $ move ! (1 ∷ 0 ∷ []) $ use2 𝓛 (raw (G.pre z)) (id⊢ 𝓤 _) $
    calls_at ! (framed 𝓤 𝓛.H 𝓜 𝓣) G (met 𝓤 𝓛 𝓜 𝓡 (code.calls-k_c::grow_at 𝓡.env wired)) z
    (and_then ! (get ! refl) (and_then ! (get ! refl) (no_more !))) (λ u.
    use1 𝓛 (later (some (λ (r : Said.Denot). ((‵ (flft κ full_share) ⊛ ‵ ftrue) ⊛ ‵ (Said.own_val r (u ∷ []))) ⊛
    some (λ (ws : Lasts s.ended z.0.0 z.0.3). ‵ (lasts s.ended z.0.0 z.0.3 ws) ⊛ raw (fact 𝓤 (IsGrownIn g ws.0 ask r)))))) (id⊢ 𝓤 _) $
    await ! tt $ pick ! (λ r. split ! $ split ! $ split ! $ lft_end ! tt $ move ! (2 ∷ []) $
    peeks ! Said (Is Said) (shows 𝓛 Said) r (u ∷ []) (λ is. lands_as ! refl refl ((SL.lawful 𝓛).typed r (u ∷ []) is).0 $
    move ! (3 ∷ []) $ pick ! (λ ws. split ! $ move ! (1 ∷ []) $ heard ! (IsGrownIn g ws.0 ask r) (λ told. fsplit ! $ fsplit ! $
    -- [the loan's last value; its borrow; nothing; the answer; the lifetime is over; nothing; what comes back]
    move ! (4 ∷ 6 ∷ 0 ∷ []) $ use3 𝓛 (later (‵ ((mem R).own_at ws.0 b o))) (ref_back 𝓛 R κ γ ws.0 b o) $ await ! tt $
    returns ! (look_at ! 0 refl) $ free_all ! refl $ keep ! (3 ∷ 0 ∷ []) $
    suffices ! _ (ends_at 𝓛 f.ended stayed c (y (block_ptr b o)) u r (tt, (tt, tt)) (tt, (tt, tt))) $
    nothing ! $ nothing ! $ join ! $ nothing ! $ join ! $ nothing ! $ group ! 3 $ frame ! $
    show ! (λ (w : Slot). sep 𝓤 (sem 𝓛 (lies_at R full_share (block_ptr b o) w)) (fact 𝓤 (IsGrownIn g w ask r))) ws.0 $ says ! told $ done !))))))))))
