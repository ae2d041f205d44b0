-- `kaffe_read` lends what lies at the address for a lifetime of the call, gives the array on for good, and has what lies there back as it was.
use Rattle.std.proofs.Common.{◌≡◌, ℕ, [], ◌∷◌, ◌++◌, refl, w32, w64}
use mir.Syntax.{named}
use mir.Val.{vptr}
use base.Fraction.{full_share}
use base.Logic.{id⊢}
use base.Fml.{Lft, ftrue, fsep, flft, flent}
use prog.Wp.{WpFn}
use types.SemTy.{Body}
use types.Part.{whole, sub, agg}
use types.Kit.{‵, raw, ◌⊛◌, some, later, prop, at_ret, ◌$◌, ◌∵◌, !, qed, done, move, keep, use1, use2, use3, split, join, fsplit, fsplit3, fjoin, feq_l, pick, await, regoal, rewrite, suffices, frame, group}
use types.Tokens.{lft_new, lft_end}
use types.Run.{enter, of_opd, addr, from, fld, hop, stop, no_more, and_then, first, blocks, exec, returns}
use types.ByLocal.{alloc_all, pass_all, free_all, look_at, look_in_at, get, get_in, through, sets, sets_last, lands_as, env}
use contract.Monad.{fact}
use contract.Running.{tables}
use denote.Builtin.{u8, u32, usize}
use denote.Exit.{yes}
use denote.Laws.{Is, shows}
use denote.Lend.{lends_ref, ref_back}
use denote.Memory.{mem, part_of}
use denote.Plain.{uint_vals, uint_Tells, uint_Lawful}
use denote.RawPtr.{Ptr, RawPtr, block_ptr, lies_at, in_a_block, rawptr_vals, rawptr_Tells}
use denote.Ref.{MutRef}
use denote.Signature.{plain}
use denote.Slice.{MutSlice, mut_slice_vals, mut_slice_Tells, mut_slice_Lawful}
use denote.Steps.{nothing, peeks, heard}
use denote.Triple.Call.{calls_at}
use denote.Triple.Clauses.{Lasts, lasts}
use denote.Triple.Spec.{triple_of}
use denote.Triple.Table.{framed}
use denote.Triple.Walked.{says, Stays, walk_of, stay_dropped, gave_slice, Goes-dropped, Goes-gave_slice, ends_at}
use Rattle.std.proofs.raw_atomic.Walks.{proved}
use Rattle.k_embed.specs.contracts.serving.Slot.{the_row as R}
use Rattle.k_embed.specs.declared.serving.Slot.{Slot}
use Rattle.k_embed.specs.Served.{IsRead}
use Rattle.k_c.specs.contracts.kaffe_read as f
use Rattle.k_c.specs.contracts.read_at as s
use Rattle.k_c.proofs.read_at.Met.{met}
use Rattle.k_c.proofs.kaffe_read.Statement.{statement}
use Rattle.k_c.proofs.kaffe_read.Code as code

abbrev stayed : Stays f.ended.signature.params f.ended.kept
stayed = (stay_dropped _ yes, (stay_dropped _ yes, (stay_dropped _ yes, (gave_slice (0 ∷ []) tt (plain (λ _. u8)), tt))))

pub kaffe_read_spec : {M : Type 1} → statement M
unfolding part_of
kaffe_read_spec 𝓤 𝓛 𝓜 𝓡 wired =
    let c = f.clauses 𝓛 𝓜.mem 𝓡.returns in let W = walk_of 𝓛 f.ended stayed c in let 𝓣 = tables 𝓤 𝓛.H 𝓜 𝓡 𝓡.env in
    proved 𝓛 f.ended stayed c 𝓜 𝓡 (
      Goes-dropped 𝓛 1 (plain (λ _. RawPtr)) yes (λ κs x w. refl),
      (Goes-dropped 𝓛 1 (plain (λ _. u32)) yes (λ κs x w. refl), (Goes-dropped 𝓛 1 (plain (λ _. usize)) yes (λ κs x w. refl), (Goes-gave_slice 𝓛 1 0 tt (plain (λ _. u8)), tt))),
    )
    f.Key.name code.function (code.unfolded 𝓤 𝓛.H 𝓜 𝓡 wired)
    (λ κs. (rawptr_vals, (uint_vals w32, (uint_vals w64, (mut_slice_vals, tt))))) (λ κs. (rawptr_Tells, (uint_Tells w32, (uint_Tells w64, (mut_slice_Tells (named 0) κs.0 u8, tt))))) (λ κs qs bounds a g are.
    let which = a.1.0 in let place = a.1.1.0 in let into = a.1.1.1.0 in
    let ms = uint_vals w32 which in let ns = uint_vals w64 place in let vs = mut_slice_vals into in let S = MutSlice (named 0) κs.0 u8 in
    let y : Ptr → W.Ghost = λ p. ((κs, qs, bounds, (p, (which, (place, (into, tt)))), (rawptr_vals p, (ms, (ns, (vs, tt))))), g) in
    qed 𝓛 (((‵ (flft κs.0 qs.0) ⊛ ‵ ftrue) ⊛ ‵ (fsep (RawPtr.own_val a.0 (rawptr_vals a.0)) (fsep (u32.own_val which ms) (fsep (usize.own_val place ns) (fsep (S.own_val into vs) ftrue))))) ∷ ‵ (lies_at R full_share a.0 g) ∷ []) ∵
    split ! $ move ! (1 ∷ []) $ fsplit3 ! $ move ! (2 ∷ []) $ fsplit3 ! $ keep ! (6 ∷ 1 ∷ 5 ∷ 0 ∷ 4 ∷ []) $
    -- [what lies there; the slice; the tokens; the place; which text]
    in_a_block ! a.0 (λ p. lies_at R full_share p g) (id⊢ 𝓤 _) (λ b o e.
    regoal ! (λ p. prop (WpFn 𝓤 𝓛.H 𝓣.C 𝓣.Λ code.function (rawptr_vals p ++ (ms ++ (ns ++ (vs ++ [])))) (W.post (y p)))) e refl $
    enter ! _ _ _ _ _ $ alloc_all ! (λ l. pass_all ! refl ((tt, tt), ((tt, record { fits = are.1.0.1 }), ((tt, record { fits = are.1.1.0.1 }), (mut_slice_Lawful 𝓛 (named 0) κs.0 u8).typed into vs are.1.1.1.0))) $
    first ! $ blocks ! $ sets ! (of_opd ! (get ! refl)) refl (tt, tt) $ sets_last ! (addr ! (through ! refl (stop !))) refl (tt, tt) $
    exec ! 𝓣.C 𝓣.Λ (env code.Mir.locals l) code.Mir.t-2 (at_ret _ (W.post (y (block_ptr b o)))) $
    sets ! (of_opd ! (get ! refl)) refl (tt, tt) $ sets ! (addr ! (through ! refl (stop !))) refl (tt, tt) $
    sets ! (addr ! (from ! (fld ! refl (hop ! (look_in_at ! 4 (sub ! 0 refl (whole !))) (stop !))))) refl (tt, tt) $
    sets ! (agg ! (and_then ! (get ! refl) (and_then ! (get_in ! (fld ! refl (stop !)) (sub ! 1 refl (whole !))) (no_more !)))) refl (tt, (tt, (record { fits = are.1.1.1.0.0.1.0 }, tt))) $
    lft_new ! tt (λ α. let κ : Lft = α ∷ [] in move ! (1 ∷ []) $
    use1 𝓛 (later (some (λ (γ : ℕ). ‵ ((MutRef (named 0) κ R).own_val (record { ref_ptr = (b, o); ghost_name = γ; now = g }) (vptr b o ∷ [])) ⊛ ‵ (flent κ (Body (mem R) b o γ)))))
    (lends_ref 𝓛 R (named 0) κ g b o) $ await ! tt $ pick ! (λ γ. split ! $
    -- [the loan; what comes back; its token; the slice; the tokens; the place; which text]
    let G = triple_of 𝓛 s.signature (s.spec 𝓛 𝓜.mem 𝓡.returns) in
    let z : G.Ghost = (((κ, (κs.0, tt)), (full_share, (qs.0, tt)), tt, (record { ref_ptr = (b, o); ghost_name = γ; now = g }, (which, (place, (into, tt)))), (vptr b o ∷ [], (ms, (ns, (vs, tt))))), tt) in
    nothing ! $ move ! (4 ∷ 0 ∷ []) $ join ! $ move ! (5 ∷ 0 ∷ []) $ join ! $ move ! (5 ∷ 0 ∷ []) $ join ! $ move ! (1 ∷ 0 ∷ []) $ join ! $
    move ! (2 ∷ 3 ∷ []) $ join ! $ join ! $ nothing ! $ move ! (1 ∷ 0 ∷ []) $ use2 𝓛 (raw (G.pre z)) (id⊢ 𝓤 _) $
    calls_at ! (framed 𝓤 𝓛.H 𝓜 𝓣) G (met 𝓤 𝓛 𝓜 𝓡 (code.calls-k_c::read_at 𝓡.env wired)) z
    (and_then ! (get ! refl) (and_then ! (get ! refl) (and_then ! (get ! refl) (and_then ! (get ! refl) (no_more !))))) (λ u.
    use1 𝓛 (later (some (λ (r : ℕ). ((‵ (flft κ full_share) ⊛ (‵ (flft κs.0 qs.0) ⊛ ‵ ftrue)) ⊛ ‵ (usize.own_val r (u ∷ []))) ⊛
    some (λ (ws : Lasts s.ended z.0.0 z.0.3). ‵ (lasts s.ended z.0.0 z.0.3 ws) ⊛ raw (fact 𝓤 ((ws.0 ≡ g) × IsRead g which place into.now ws.1.1.1.0 r)))))) (id⊢ 𝓤 _) $
    await ! tt $ pick ! (λ r. split ! $ split ! $ split ! $ lft_end ! tt $ move ! (2 ∷ []) $
    peeks ! usize (Is usize) (shows 𝓛 usize) r (u ∷ []) (λ is. lands_as ! refl refl ((uint_Lawful 𝓛 w64).typed r (u ∷ []) is).0 $
    move ! (3 ∷ []) $ pick ! (λ ws. split ! $ move ! (1 ∷ []) $ heard ! ((ws.0 ≡ g) × IsRead g which place into.now ws.1.1.1.0 r) (λ told. fsplit ! $ fsplit ! $
    -- [the loan's last value; its borrow; the rest; the answer; the lifetime is over; the tokens; what comes back]
    move ! (4 ∷ 6 ∷ 0 ∷ []) $ use3 𝓛 (later (‵ ((mem R).own_at ws.0 b o))) (ref_back 𝓛 R κ γ ws.0 b o) $ await ! tt $
    rewrite ! 0 (λ (w : Slot). ‵ ((mem R).own_at w b o)) told.0 refl $
    move ! (2 ∷ []) $ fsplit3 ! $ move ! (2 ∷ []) $ fsplit ! $ fsplit ! $ fsplit ! $ move ! (1 ∷ []) $ feq_l ! (λ many. fjoin ! $
    returns ! (look_at ! 0 refl) $ free_all ! refl $ keep ! (0 ∷ 7 ∷ 6 ∷ 4 ∷ []) $
    suffices ! _ (ends_at 𝓛 f.ended stayed c (y (block_ptr b o)) u r (tt, (tt, (tt, (ws.1.1.1.0, tt)))) (tt, (tt, (tt, (many, tt))))) $
    nothing ! $ move ! (1 ∷ 0 ∷ []) $ join ! $ nothing ! $ join ! $ nothing ! $ join ! $ nothing ! $ join ! $ move ! (1 ∷ 0 ∷ []) $ group ! 3 $ frame ! $ says ! told.1 $ done !)))))))))))
