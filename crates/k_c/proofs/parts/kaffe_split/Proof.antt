-- `kaffe_split` writes what was made into the room at the address.
use Rattle.std.proofs.Common.{w32, w64, [], ◌∷◌, ◌++◌, refl}
use mir.Syntax.{Ty, named}
use mir.Val.{vunit, has_ty, WT}
use base.Fraction.{full_share}
use base.Logic.{id⊢, sep}
use base.Fml.{ftrue, fsep, flft}
use lib.Dec.{T}
use prog.Wp.{WpFn}
use types.Kit.{frame, show, ‵, raw, ◌⊛◌, some, later, prop, ◌$◌, ◌∵◌, !, qed, done, move, keep, drop, use1, use2, split, join, fsplit, fsplit3, feq_i, pick, await, regoal, suffices, group}
use types.Run.{enter, of_opd, unit_lit, stop, no_more, and_then, assigns, init, returns}
use types.ByLocal.{alloc_all, pass_all, free_all, look_at, get, through, sets, lands_as}
use contract.Monad.{fact}
use types.Logic.{sem}
use contract.Running.{tables}
use denote.Builtin.{u8, u32, u64, SliceRefOf}
use denote.Exit.{yes}
use denote.Laws.{Is, shows}
use denote.Memory.{part_at}
use denote.Param.{layout}
use denote.Plain.{uint_vals, uint_Tells}
use denote.RawPtr.{Ptr, RawPtr, block_ptr, lies_at, room_at, in_a_block, rawptr_vals, rawptr_Tells}
use denote.Signature.{plain}
use denote.Slice.{ShrSlice, shr_slice_vals, shr_slice_Tells, shr_slice_Lawful}
use denote.Steps.{nothing, peeks, heard}
use denote.Triple.Call.{calls_at}
use denote.Triple.Clauses.{Lasts, lasts}
use denote.Triple.Spec.{triple_of}
use denote.Triple.Table.{framed}
use denote.Triple.Walked.{says, Stays, walk_of, stay_dropped, Goes-dropped, ends_at}
use borrow.Table.OneValue.{part_in}
use Rattle.std.proofs.raw_atomic.Walks.{proved}
use Rattle.std.specs.contracts.alloc.Global.{the_row as Global}
use Rattle.std.proofs.alloc.Global.TheLaws.{the_told as GT, the_row_laws as GL}
use Rattle.k_slots.specs.Opening.{IsOpenedRow}
use Rattle.k_embed.specs.contracts.messages.Rooms.{the_row as Size}
use Rattle.k_embed.proofs.messages.Rooms.TheLaws.{the_told as ZT, the_row_laws as ZL}
use Rattle.k_slots.specs.contracts.slots.PartSlot.{the_row as R}
use Rattle.k_slots.specs.declared.slots.PartSlot.{PartSlot}
use Rattle.k_slots.proofs.slots.PartSlot.TheLaws.{the_row_laws as RL}
use Rattle.k_slots.specs.contracts.opened_row as s
use Rattle.k_slots.proofs.opened_row.Met.{met}
use Rattle.k_c.specs.contracts.parts.kaffe_split as f
use Rattle.k_c.proofs.parts.kaffe_split.Statement.{statement}
use Rattle.k_c.proofs.parts.kaffe_split.Code as code

abbrev stayed : Stays f.ended.signature.params f.ended.kept
stayed = (stay_dropped _ yes, (stay_dropped _ yes, (stay_dropped _ yes, (stay_dropped _ yes, (stay_dropped _ yes, (stay_dropped _ yes, (stay_dropped _ yes, (stay_dropped _ yes, tt))))))))

pub kaffe_split_spec : {M : Type 1} → statement M
kaffe_split_spec 𝓤 𝓛 𝓜 𝓡 wired =
    let c = f.clauses 𝓛 𝓜.mem 𝓡.returns in let W = walk_of 𝓛 f.ended stayed c in let 𝓣 = tables 𝓤 𝓛.H 𝓜 𝓡 𝓡.env in let τ : Ty = layout R in
    let word = Goes-dropped 𝓛 1 (plain (λ _. u32)) yes (λ κs x w. refl) in let long = Goes-dropped 𝓛 1 (plain (λ _. u64)) yes (λ κs x w. refl) in
    proved 𝓛 f.ended stayed c 𝓜 𝓡 (
      Goes-dropped 𝓛 1 (plain (λ _. Global)) yes (λ κs x w. refl),
      (
        Goes-dropped 𝓛 1 (SliceRefOf (0 ∷ []) tt (plain (λ κs. u8)) (λ κs. tt)) yes (λ κs x w. refl),
        (word, (word, (Goes-dropped 𝓛 1 (plain (λ _. Size)) yes (λ κs x w. refl), (long, (word, (Goes-dropped 𝓛 1 (plain (λ _. RawPtr)) yes (λ κs x w. refl), tt)))))),
      ),
    )
    f.Key.name code.function (code.unfolded 𝓤 𝓛.H 𝓜 𝓡 wired)
    (λ κs. ((λ x. GT.val x ∷ []), (shr_slice_vals, (uint_vals w32, (uint_vals w32, ((λ x. ZT.val x ∷ []), (uint_vals w64, (uint_vals w32, (rawptr_vals, tt)))))))))
    (λ κs. (GT.tells, (shr_slice_Tells (named 0) κs.0 u8, (uint_Tells w32, (uint_Tells w32, (ZT.tells, (uint_Tells w64, (uint_Tells w32, (rawptr_Tells, tt))))))))) (λ κs qs bounds a g are.
    let heap = a.0 in let text = a.1.0 in let m = a.1.1.0 in let n = a.1.1.1.0 in let k = a.1.1.1.1.0 in let num = a.1.1.1.1.1.0 in let most = a.1.1.1.1.1.1.0 in let at = a.1.1.1.1.1.1.1.0 in
    let us = GT.val heap ∷ [] in let vs = shr_slice_vals text in let S = ShrSlice (named 0) κs.0 u8 in let ms = uint_vals w32 m in let ns = uint_vals w32 n in let ks = ZT.val k ∷ [] in let nums = uint_vals w64 num in let mosts = uint_vals w32 most in
    let y : Ptr → W.Ghost = λ p. ((κs, qs, bounds, (heap, (text, (m, (n, (k, (num, (most, (p, tt)))))))), (us, (vs, (ms, (ns, (ks, (nums, (mosts, (rawptr_vals p, tt))))))))), g) in
    qed 𝓛 (((‵ (flft κs.0 qs.0) ⊛ ‵ ftrue) ⊛ ‵ (fsep (Global.own_val heap us) (fsep (S.own_val text vs) (fsep (u32.own_val m ms) (fsep (u32.own_val n ns) (fsep (Size.own_val k ks) (fsep (u64.own_val num nums) (fsep (u32.own_val most mosts) (fsep (RawPtr.own_val at (rawptr_vals at)) ftrue))))))))) ∷ ‵ (room_at R at) ∷ []) ∵
    split ! $ move ! (1 ∷ []) $ fsplit ! $ move ! (1 ∷ []) $ fsplit3 ! $ move ! (2 ∷ []) $ fsplit3 ! $ move ! (2 ∷ []) $ fsplit3 ! $ move ! (2 ∷ []) $ fsplit ! $ keep ! (10 ∷ 9 ∷ 8 ∷ 6 ∷ 7 ∷ 4 ∷ 5 ∷ 2 ∷ 3 ∷ []) $
    in_a_block ! at (λ p. room_at R p) (id⊢ 𝓤 _) (λ b o e.
    regoal ! (λ p. prop (WpFn 𝓤 𝓛.H 𝓣.C 𝓣.Λ code.function (us ++ (vs ++ (ms ++ (ns ++ (ks ++ (nums ++ (mosts ++ (rawptr_vals p ++ [])))))))) (W.post (y p)))) e refl $
    enter ! _ _ _ _ _ $ alloc_all ! (λ l. pass_all ! refl (
      ((GL.lawful 𝓛).typed heap us are.0).0,
      (
        ((shr_slice_Lawful 𝓛 (named 0) κs.0 u8).typed text vs are.1.0).0,
        ((tt, record { fits = are.1.1.0.1 }), ((tt, record { fits = are.1.1.1.0.1 }), (((ZL.lawful 𝓛).typed k ks are.1.1.1.1.0).0, ((tt, record { fits = are.1.1.1.1.1.0.1 }), ((tt, record { fits = are.1.1.1.1.1.1.0.1 }), ((tt, tt), tt)))))),
      ),
    ) $
    -- [the room; the tokens; the allocator; the text; two numbers; the rooms; two numbers; the locals]
    sets ! (of_opd ! (get ! refl)) refl (tt, tt) $
    let G = triple_of 𝓛 s.signature (s.spec 𝓛 𝓜.mem 𝓡.returns) in
    let z : G.Ghost = ((κs, qs, bounds, (heap, (text, (m, (n, (k, (num, (most, tt))))))), (us, (vs, (ms, (ns, (ks, (nums, (mosts, tt)))))))), tt) in
    nothing ! $ move ! (9 ∷ 0 ∷ []) $ join ! $ move ! (8 ∷ 0 ∷ []) $ join ! $ move ! (7 ∷ 0 ∷ []) $ join ! $ move ! (6 ∷ 0 ∷ []) $ join ! $ move ! (5 ∷ 0 ∷ []) $ join ! $ move ! (4 ∷ 0 ∷ []) $ join ! $ move ! (3 ∷ 0 ∷ []) $ join ! $ move ! (2 ∷ 0 ∷ []) $ join ! $
    nothing ! $ move ! (1 ∷ 0 ∷ []) $ use2 𝓛 (raw (G.pre z)) (id⊢ 𝓤 _) $
    calls_at ! (framed 𝓤 𝓛.H 𝓜 𝓣) G (met 𝓤 𝓛 𝓜 𝓡 (code.calls-k_slots::opened_row 𝓡.env wired)) z
    (and_then ! (get ! refl) (and_then ! (get ! refl) (and_then ! (get ! refl) (and_then ! (get ! refl) (and_then ! (get ! refl) (and_then ! (get ! refl) (and_then ! (get ! refl) (no_more !)))))))) (λ u.
    use1 𝓛 (later (some (λ (r : R.Denot). ((‵ (flft κs.0 qs.0) ⊛ ‵ ftrue) ⊛ ‵ (R.own_val r (u ∷ []))) ⊛ some (λ (ws : Lasts s.ended z.0.0 z.0.3). ‵ (lasts s.ended z.0.0 z.0.3 ws) ⊛ raw (fact 𝓤 (IsOpenedRow text.now (record { 0 = m }) n k num most r.part)))))) (id⊢ 𝓤 _) $
    await ! tt $ pick ! (λ r. split ! $ move ! (1 ∷ []) $ pick ! (λ ws. split ! $ drop ! $ heard ! (IsOpenedRow text.now (record { 0 = m }) n k num most r.part) (λ told. split ! $ move ! (1 ∷ []) $
    peeks ! R (Is R) (shows 𝓛 R) r (u ∷ []) (λ is.
    let t : T (has_ty τ u) × WT u = ((RL.lawful 𝓛).typed r (u ∷ []) is).0 in lands_as ! refl refl t $
    -- [what was made; the tokens; the room; the locals]
    assigns ! (of_opd ! (get ! refl)) (through ! refl (stop !)) (init ! 2 refl t) $ sets ! (of_opd ! (unit_lit !)) refl (tt, tt) $
    returns ! (look_at ! 0 refl) $ free_all ! refl $ move ! (2 ∷ 0 ∷ []) $ use2 𝓛 (‵ (part_at R full_share r b o)) (part_in 𝓛 R refl full_share r b o u) $
    suffices ! _ (ends_at 𝓛 f.ended stayed c (y (block_ptr b o)) vunit tt (tt, (tt, (tt, (tt, (tt, (tt, (tt, (tt, tt)))))))) (tt, (tt, (tt, (tt, (tt, (tt, (tt, (tt, tt))))))))) $
    feq_i ! _ (vunit ∷ []) _ refl $ nothing ! $ nothing ! $ join ! $ nothing ! $ join ! $ nothing ! $ join ! $ nothing ! $ join ! $ nothing ! $ join ! $ nothing ! $ join ! $ nothing ! $ join ! $ nothing ! $ join ! $
    move ! (3 ∷ 0 ∷ 1 ∷ []) $ group ! 3 $ frame ! $
    show ! (λ (w : PartSlot). sep 𝓤 (sem 𝓛 (lies_at R full_share (block_ptr b o) w)) (fact 𝓤 (IsOpenedRow text.now (record { 0 = m }) n k num most w.part))) r $ says ! told $ done !))))))))
