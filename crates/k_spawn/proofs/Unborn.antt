-- A process of which a history has no operation has null registers, no share, no object and no exit item.
use Rattle.std.proofs.Common.{◌≡◌, ◌⊎◌, ◌∙◌, ℕ, zero, suc, ◌+◌, ◌<◌, ◌==◌, ◌&&◌, not, Bool, true, false, cond, List, [], ◌∷◌, ◌++◌, filter, length, replicate, get_or, set, get_or-set_other, Option, Some, None, refl, sym, ap, subst, arith, inl, inr, eq-eqb, IsTrue, IsFalse}
use Rattle.std.proofs.lemmas.Bool.{and_parts, cases_eq, false≢true, false_from_ne_true, or_cases}
use Rattle.k_types.specs.declared.names.Name.{Name}
use Rattle.k_types.specs.declared.op.Op.{Op}
use Rattle.k_types.specs.declared.op.Op.TheVariants.{New, KNew, SNew, Store, Load, Move, Clear, Dir, Put, Get, Collect, KCollect, Share, Freeze, Attach, Exit, Kill, Resize}
use Rattle.k_types.specs.declared.event.Fault.{Fault}
use Rattle.k_types.specs.declared.event.Event.{Event}
use Rattle.k_types.specs.declared.event.Event.TheVariants.{Done, Ended, Absorbed as AbsorbedEvent, Closing}
use Rattle.k_types.specs.Bounds.{register_count}
use Rattle.k_types.specs.Names.{among, heap_eq, name_eq}
use Rattle.k_types.specs.Trace.{Trace, process_count}
use Rattle.k_types.specs.State.{State, ExitItem, Sharing, has, has_exit, has_share, opening, register}
use Rattle.k_types.specs.Owners.{user}
use Rattle.k_types.specs.Replies.{faults, first_fault}
use Rattle.k_types.specs.Updates.{count_done, set_register, create, open_scan, close, set_phase, add_share, set_max, clear_registers, end_process, keep_shares, turn_exits, keep_objects, keep_exits, close_scan}
use Rattle.k_types.specs.Effects.{step, effect, effect_unless, after_operation, after_end_of, after_kill, after_ended, after_absorbed, after_closing, share_stays}
use Rattle.k_types.specs.Steps.{IsLegalHistory, done_by, run, state_after}
use Rattle.k_types.specs.Sound.{IsSound}
use Rattle.k_laws.proofs.Kept.{any-fewer}
use Rattle.k_laws.proofs.Rest.{store_rest, put_rest, freeze_rest}
use Rattle.k_laws.specs.Counts.{exit_count, one_if, stores_by, stores_in}
use Rattle.k_laws.proofs.BoundsLaws.{exit_items_are_at_most_the_stores-user}
use Rattle.k_laws.proofs.Sizes.{get_or-same}
use Rattle.k_laws.proofs.SoundSharing.{share_cases}

-- the process holds nothing, shares nothing and has made nothing
pub record IsUnborn (st : State) (c : ℕ) : Type 0 where
  pub registers : get_or st.registers c [] ≡ replicate register_count None
  pub shares : (t : ℕ) → IsFalse (has_share st.shares c t)
  pub made : get_or st.made (c + 1) 0 ≡ 0

-- the first process is another
abbrev IsOther : ℕ → ℕ → Type 0
IsOther p c = c ≡ p → ⊥

module _ (trace : Trace) (c : ℕ) where
  held : (st : State) (p r : ℕ) (v : Option Name) → IsOther p c → IsUnborn st c → IsUnborn (set_register p r v st) c
  unfolding set_register
  held st p r v other none = record { registers = get_or-set_other st.registers p c (set (get_or st.registers p []) r v) [] other ∙ none.registers; shares = none.shares; made = none.made }

  no_share : (st : State) (p t : ℕ) → IsOther p c → IsUnborn st c → IsUnborn (add_share p t st) c
  unfolding add_share
  no_share st p t other none = record { registers = none.registers; shares = λ u. go u (has_share st.shares p t); made = none.made }
    where
      go : (u : ℕ) (b : Bool) → IsFalse (has_share (cond b st.shares (st.shares ++ record { process = p; heap = t } ∷ [])) c u)
      go u true = none.shares u
      go u false = false_from_ne_true _ (λ shared. elim (share_cases st.shares p t c u shared) [
        | inl old ↦ false≢true (sym (none.shares u) ∙ old)
        | inr new ↦ other new.0
      ])

  fewer : (st : State) (stays : Sharing → Bool) → ((t : ℕ) → IsFalse (has_share st.shares c t)) → (t : ℕ) → IsFalse (has_share (filter stays st.shares) c t)
  fewer st stays none t = false_from_ne_true _ (λ u. false≢true (sym (none t) ∙ any-fewer (λ e. (e.process == c) && (e.heap == t)) stays st.shares u))

  -- the end of another, or its own
  ended : (st : State) (p : ℕ) → IsUnborn st c → IsUnborn (after_end_of trace p st) c
  unfolding after_end_of end_process clear_registers keep_shares turn_exits
  ended st p none = record { registers = go (cases_eq c p); shares = fewer st (λ e. not (e.process == p)) none.shares; made = none.made }
    where
      cleared : (rs : List (List (Option Name))) (k : ℕ) → get_or rs k [] ≡ replicate register_count None → get_or (set rs k (replicate register_count None)) k [] ≡ replicate register_count None
      cleared [] k e = e
      cleared (r ∷ rs) zero e = refl
      cleared (r ∷ rs) (suc k) e = cleared rs k e

      go : (c ≡ p) ⊎ (c ≡ p → ⊥) → get_or (set st.registers p (replicate register_count None)) c [] ≡ replicate register_count None
      go (inl same) = ap (λ q. get_or (set st.registers q (replicate register_count None)) c []) (sym same) ∙ cleared st.registers c none.registers
      go (inr ne) = get_or-set_other st.registers p c (replicate register_count None) [] ne ∙ none.registers

  killed : (st : State) (q : ℕ) → IsUnborn st c → IsUnborn (after_kill trace q st) c
  unfolding after_kill
  killed st q none = elim (among q st.ended) as (λ b. IsUnborn (cond b st (after_end_of trace q st)) c) [ true ↦ none | false ↦ ended st q none ]

  made_other : (made : List ℕ) (seg n : ℕ) → (c + 1 ≡ seg → ⊥) → get_or made (c + 1) 0 ≡ 0 → get_or (set made seg n) (c + 1) 0 ≡ 0
  made_other made seg n other e = get_or-set_other made seg (c + 1) n 0 other ∙ e

  module _ (known : c < process_count trace) (p : ℕ) (other : IsOther p c) where
    acted : (st : State) (op : Op) → IsUnborn st c → IsUnborn (effect trace p op st) c
    unfolding effect create open_scan set_phase set_max
    acted st (New r ty) none =
        let mine : c + 1 ≡ p + 1 → ⊥ = λ e. other (omega (arith, e)) in
        held _ p r.0 _ other (record { registers = none.registers; shares = none.shares; made = made_other st.made (p + 1) _ mine none.made })
    acted st (KNew r ty) none =
        let mine : c + 1 ≡ 0 → ⊥ = λ e. absurd (omega (arith, e)) in
        held _ p r.0 _ other (record { registers = none.registers; shares = none.shares; made = made_other st.made 0 _ mine none.made })
    acted st (SNew r t ty) none =
        let mine : c + 1 ≡ 1 + process_count trace + t.0 → ⊥ = λ e. absurd (omega (arith, e, known)) in
        held _ p r.0 _ other (record { registers = none.registers; shares = none.shares; made = made_other st.made (1 + process_count trace + t.0) _ mine none.made })
    acted st (Store base i value) none =
        let is = store_rest trace st (register st.registers p base.0) i (register st.registers p value.0) in
        subst (λ (z : State). IsUnborn z c) (sym is) (record { registers = none.registers; shares = none.shares; made = none.made })
    acted st (Load r base i) none = held st p r.0 _ other none
    acted st (Move r from) none = held st p r.0 _ other none
    acted st (Clear r) none = held st p r.0 _ other none
    acted st (Dir r) none = held st p r.0 _ other none
    acted st (Put base i number) none =
        let is = put_rest st (register st.registers p base.0) i number in
        subst (λ (z : State). IsUnborn z c) (sym is) (record { registers = none.registers; shares = none.shares; made = none.made })
    acted st (Get base i) none = none
    acted st Collect none = record { registers = none.registers; shares = none.shares; made = none.made }
    acted st KCollect none = record { registers = none.registers; shares = none.shares; made = none.made }
    acted st (Share t) none = no_share _ p t.0 other (record { registers = none.registers; shares = none.shares; made = none.made })
    acted st (Freeze t root) none =
        let is = freeze_rest st t.0 (register st.registers p root.0) in
        subst (λ (z : State). IsUnborn z c) (sym is) (record { registers = none.registers; shares = none.shares; made = none.made })
    acted st (Attach r t) none = held _ p r.0 _ other (no_share st p t.0 other none)
    acted st Exit none = ended st p none
    acted st (Kill q) none = killed st q.0 none
    acted st (Resize m max) none = record { registers = none.registers; shares = none.shares; made = none.made }

    unless : (st : State) (o : Option Fault) (op : Op) → IsUnborn st c → IsUnborn (effect_unless o trace p op st) c
    unless st None op none = acted st op none
    unless st (Some fault) op none = none

    done_unborn : (st : State) (op : Op) → IsUnborn st c → IsUnborn (after_operation trace p op st) c
    unfolding after_operation count_done
    done_unborn st op none = let z = unless st (first_fault (faults trace st p op)) op none in record { registers = z.registers; shares = z.shares; made = z.made }

  -- a step in which it does nothing
  still : (st : State) (event : Event) → c < process_count trace → done_by c (event ∷ []) ≡ [] → IsUnborn st c → IsUnborn (step trace st event) c
  unfolding step after_ended close_scan keep_shares keep_exits keep_objects after_absorbed set_phase after_closing close open_scan
  still st (Done pid op said) known nothing none = done_unborn known pid.0 (λ same. mine (pid.0 == c) (eq-eqb pid.0 c (sym same)) nothing) st op none
    where
      mine : (b : Bool) → b ≡ true → cond b (op ∷ []) [] ≡ [] → ⊥
      mine true e f = cc
      mine false e f = false≢true e
  still st (Ended h a b d e) known nothing none = record { registers = none.registers; shares = fewer st (share_stays trace st h) none.shares; made = none.made }
  still st (AbsorbedEvent t) known nothing none = record { registers = none.registers; shares = none.shares; made = none.made }
  still st Closing known nothing none = record { registers = none.registers; shares = none.shares; made = none.made }

  nothing_first : (event : Event) (events : List Event) → done_by c (event ∷ events) ≡ [] → (done_by c (event ∷ []) ≡ []) × (done_by c events ≡ [])
  nothing_first (Done pid op said) events e = go (pid.0 == c) e
    where
      go : (b : Bool) → cond b (op ∷ done_by c events) (done_by c events) ≡ [] → (cond b (op ∷ []) [] ≡ []) × (done_by c events ≡ [])
      go true e = absurd (cc)
      go false e = (refl, e)
  nothing_first (Ended h a b d o) events e = (refl, e)
  nothing_first (AbsorbedEvent t) events e = (refl, e)
  nothing_first Closing events e = (refl, e)

  unborn_after : (st : State) (events : List Event) → c < process_count trace → done_by c events ≡ [] → IsUnborn st c → IsUnborn (run trace st events) c
  unborn_after st [] known nothing none = none
  unborn_after st (event ∷ events) known nothing none =
      let both = nothing_first event events nothing in
      unborn_after (step trace st event) events known both.1 (still st event known both.0 none)

  abbrev opened : ℕ → List ℕ
  opened n = 1 ∷ replicate n 0

  zeros : (n k : ℕ) → get_or (replicate n (let none : ℕ = 0 in none)) k 0 ≡ 0
  zeros zero k = refl
  zeros (suc n) zero = refl
  zeros (suc n) (suc k) = zeros n k

  none_made : (n k : ℕ) → get_or (opened n) (k + 1) 0 ≡ 0
  none_made n k = let next : k + 1 ≡ suc k = omega arith in ap (λ i. get_or (opened n) i 0) next ∙ zeros n k

  -- behind a history without an operation of it
  pub unborn : (history : List Event) → c < process_count trace → done_by c history ≡ [] → IsUnborn (state_after trace history) c
  unborn history known nothing = unborn_after (opening trace) history known nothing (record {
    registers = get_or-same (process_count trace) c (replicate register_count None) [] known;
    shares = λ t. refl;
    made = none_made (length trace.procs + trace.shared_heaps) c;
  })

  counted : (n : Name) (exits : List ExitItem) → has_exit exits (user c) n ≡ true → 0 < exit_count exits (user c)
  counted n [] t = absurd (false≢true t)
  counted n (e ∷ exits) t = elim (or_cases (heap_eq e.heap (user c) && name_eq e.target n) (has_exit exits (user c) n) t) [
    | inl here ↦ let one = ap one_if (and_parts (heap_eq e.heap (user c)) (name_eq e.target n) here).0 in omega (arith, one)
    | inr there ↦ let rest = counted n exits there in omega (arith, rest)
  ]

  pub no_exits : (history : List Event) → IsLegalHistory trace history → done_by c history ≡ [] → (n : Name) → IsFalse (has_exit (state_after trace history).exits (user c) n)
  no_exits history legal nothing n = false_from_ne_true _ (λ t.
      let most = exit_items_are_at_most_the_stores-user trace c history legal in
      let none : stores_by c history ≡ 0 = ap stores_in nothing in
      let some = counted n (state_after trace history).exits t in
      absurd (omega (arith, most, none, some)))

  -- no object is in its segment
  pub no_objects : (st : State) → IsSound trace st → IsUnborn st c → (n : Name) → IsTrue (has st.objects n) → n.seg.0 ≡ c + 1 → ⊥
  no_objects st sound none n there e =
      let low = sound.names.numbered n there in
      let placed = (sound.shape.placed n there).0 in
      let gone : get_or st.made n.seg.0 0 ≡ 0 = ap (λ seg. get_or st.made seg 0) e ∙ none.made in
      absurd (omega (arith, low, placed, gone))
