-- The exit items of a shared heap are at most the stores of the process that took it.
use Rattle.std.proofs.Common.{◌≡◌, ◌≢◌, ℕ, ◌+◌, ◌≤◌, ◌<◌, ◌⊎◌, not, Bool, true, false, refl, sym, ap, ◌∙◌, inl, inr, List, [], ◌∷◌, ◌++◌, None, arith, eq-eqb, IsTrue, IsFalse, subst, le_trans, zero-le}
use Rattle.std.specs.List.{list_any}
use Rattle.std.proofs.lemmas.Bool.{false≢true, or_left, or_right}
use Rattle.std.proofs.lemmas.List.Folds.{list_any-append}
use Rattle.k_types.specs.declared.names.Pid.{Pid}
use Rattle.k_types.specs.declared.names.Phase.{Phase}
use Rattle.k_types.specs.declared.names.Phase.TheVariants.{Unmade, Populating, Frozen, Absorbed}
use Rattle.k_types.specs.declared.op.Op.{Op}
use Rattle.k_types.specs.declared.event.Fault.{Fault}
use Rattle.k_types.specs.declared.event.Fault.TheVariants.{NotSharer}
use Rattle.k_types.specs.declared.event.Reply.{Reply}
use Rattle.k_types.specs.declared.event.Event.{Event}
use Rattle.k_types.specs.declared.event.Event.TheVariants.{Done, Ended, Absorbed as AbsorbedEvent, Closing}
use Rattle.k_types.specs.TraceRules.{AreLimits}
use Rattle.k_types.specs.Trace.{Trace, process_count}
use Rattle.k_types.specs.State.{State, has_share}
use Rattle.k_types.specs.Owners.{shared, phase_of, is_absorbed}
use Rattle.k_types.specs.Replies.{fault_where, is_frozen}
use Rattle.k_types.specs.Effects.{step, after_operation}
use Rattle.k_types.specs.Steps.{IsPossible, IsLegalHistory, state_after, done_by}
use Rattle.k_types.specs.Sound.{IsSound}
use Rattle.k_laws.specs.Counts.{exit_count, stores_in, stores_by, is_share_of, MadeBy}
use Rattle.k_laws.proofs.ExitBounds.{StoresInto, done_cases, ended_fewer, absorbed_fewer, closing_fewer, stores_more, own_store}
use Rattle.k_laws.proofs.Phases.{Phased, Stays, Taken, IsFrozen, IsAbsorbed, done_phases, absorbed_phases, ended_phases, closing_phases}
use Rattle.k_laws.proofs.OwnerOf.{owner_stands}
use Rattle.k_laws.proofs.Histories.{history_induction, state_next, done_append}
use Rattle.k_laws.proofs.SoundOpening.{all_unmade}
use Rattle.k_laws.proofs.SoundSteps.{legal_sound}

-- a shared heap that stores go into is being populated
populated_by : (phase : Phase) → phase ≢ Unmade → IsFalse (is_frozen phase) → IsFalse (is_absorbed phase) → (q : Pid) × (phase ≡ Populating q)
populated_by Unmade made thawed stands = absurd (made refl)
populated_by (Populating q) made thawed stands = (q, refl)
populated_by (Frozen root) made thawed stands = absurd (false≢true (sym thawed))
populated_by Absorbed made thawed stands = absurd (false≢true (sym stands))

shares_it : (b : Bool) (f : Fault) → fault_where (not b) f ≡ None → IsTrue b
unfolding fault_where
shares_it true f e = refl
shares_it false f e = absurd (cc e)

none_left : (c d : ℕ) → d ≤ c → c ≡ 0 → d ≡ 0
none_left c d less none = omega (arith, less, none)

module _ (trace : Trace) (s : ℕ) where
  -- what holds of the shared heap's exit items after a history
  record Bound (history : List Event) : Type 0 where
    none : phase_of (state_after trace history).phases s ≡ Unmade → exit_count (state_after trace history).exits (shared s) ≡ 0
    made : (q : Pid) → phase_of (state_after trace history).phases s ≡ Populating q → MadeBy trace s history (exit_count (state_after trace history).exits (shared s)) q.0
    bound : (exit_count (state_after trace history).exits (shared s) ≡ 0) ⊎ ((p : ℕ) × MadeBy trace s history (exit_count (state_after trace history).exits (shared s)) p)

  module _ (history : List Event) (event : Event) (held : Bound history) where
    abbrev before : State
    before = state_after trace history

    abbrev after : State
    after = state_after trace (history ++ event ∷ [])

    more : (p : ℕ) → stores_by p history ≤ stores_by p (history ++ event ∷ [])
    more p = omega (arith, stores_more p history event)

    still : (p : ℕ) → IsTrue (list_any (is_share_of s) (done_by p history)) → IsTrue (list_any (is_share_of s) (done_by p (history ++ event ∷ [])))
    still p t = ap (list_any (is_share_of s)) (done_append p history (event ∷ [])) ∙ list_any-append (is_share_of s) (done_by p history) (done_by p (event ∷ [])) ∙ or_left _ _ t

    newly : (p : ℕ) → IsTrue (list_any (is_share_of s) (done_by p (event ∷ []))) → IsTrue (list_any (is_share_of s) (done_by p (history ++ event ∷ [])))
    newly p t = ap (list_any (is_share_of s)) (done_append p history (event ∷ [])) ∙ list_any-append (is_share_of s) (done_by p history) (done_by p (event ∷ [])) ∙ or_right (list_any (is_share_of s) (done_by p history)) _ t

    keep : (p c d : ℕ) → d ≤ c → MadeBy trace s history c p → MadeBy trace s (history ++ event ∷ []) d p
    keep p c d less m = (m.0, still p m.1, le_trans less (le_trans m.2 (more p)))

    keep_bound : (c d : ℕ) → d ≤ c → (c ≡ 0) ⊎ ((p : ℕ) × MadeBy trace s history c p) → (d ≡ 0) ⊎ ((p : ℕ) × MadeBy trace s (history ++ event ∷ []) d p)
    keep_bound c d less b = elim b [ inl none ↦ inl (none_left c d less none) | inr m ↦ inr (m.0, keep m.0 c d less m.1) ]

    -- after an event that adds no exit item of the heap
    fewer : (p : ℕ) (ops : List Op) → Phased s (phase_of before.phases s) (phase_of after.phases s) ops p → (IsTrue (list_any (is_share_of s) ops) → (p < process_count trace) × IsTrue (list_any (is_share_of s) (done_by p (event ∷ [])))) →
        exit_count after.exits (shared s) ≤ exit_count before.exits (shared s) → Bound (history ++ event ∷ [])
    fewer p ops (Stays same) known less = record {
      none = λ e. none_left _ _ less (held.none (sym same ∙ e));
      made = λ q e. keep q.0 _ _ less (held.made q (sym same ∙ e));
      bound = keep_bound _ _ less held.bound;
    }
    fewer p ops (Taken q same unmade populating shares) known less =
        let zero' = none_left _ _ less (held.none unmade) in record {
          none = λ e. absurd (cc (populating, e));
          made = λ r e.
              let is : q ≡ r = cc (sym populating ∙ e) in
              let at : r.0 ≡ p = ap (λ (k : Pid). k.0) (sym is) ∙ same in
              subst (λ k. MadeBy trace s (history ++ event ∷ []) (exit_count after.exits (shared s)) k) (sym at)
              ((known shares).0, newly p (known shares).1, subst (λ k. k ≤ stores_by p (history ++ event ∷ [])) (sym zero') zero-le);
          bound = inl zero';
        }
    fewer p ops (IsFrozen root frozen) known less = record {
      none = λ e. absurd (cc (frozen, e));
      made = λ q e. absurd (cc (frozen, e));
      bound = keep_bound _ _ less held.bound;
    }
    fewer p ops (IsAbsorbed absorbed) known less = record {
      none = λ e. absurd (cc (absorbed, e));
      made = λ q e. absurd (cc (absorbed, e));
      bound = keep_bound _ _ less held.bound;
    }

    -- after a store into one of its objects
    grown : (pid : Pid) (op : Op) (said : Reply) → event ≡ Done pid op said → IsSound trace before → StoresInto trace before (shared s) pid op →
        Phased s (phase_of before.phases s) (phase_of after.phases s) (op ∷ []) pid.0 → exit_count after.exits (shared s) ≤ exit_count before.exits (shared s) + 1 → Bound (history ++ event ∷ [])
    grown pid op said is sound into phased less =
        let there = sound.no_dangling.registers pid.0 into.base into.held in
        let made : phase_of before.phases s ≢ Unmade = λ e. sound.phases.unmade_objects s into.base e there into.own in
        let stands = owner_stands (process_count trace) before.ended before.phases into.base.seg.0 s into.own in
        let phase = populated_by (phase_of before.phases s) made into.thawed stands in
        let sharer = shares_it (has_share before.shares pid.0 s) (NotSharer (record { 0 = s })) into.shares in
        let own = sound.phases.populating s phase.0 pid.0 phase.1 sharer in
        let was = subst (λ k. MadeBy trace s history (exit_count before.exits (shared s)) k) (sym own) (held.made phase.0 phase.1) in
        let one = ap (λ e. stores_in (done_by pid.0 (e ∷ []))) is ∙ own_store pid pid.0 op said refl into.store in
        let now : MadeBy trace s (history ++ event ∷ []) (exit_count after.exits (shared s)) pid.0 =
        (was.0, still pid.0 was.1, let m = stores_more pid.0 history event in let b = was.2 in omega arith) in
        record {
          none = λ e. absurd (never phase.0 phase.1 e phased);
          made = λ q e. subst (λ k. MadeBy trace s (history ++ event ∷ []) (exit_count after.exits (shared s)) k) (own ∙ same_pid phase.0 q phase.1 e phased) now;
          bound = inr (pid.0, now);
        }
      where
        never : (q : Pid) → phase_of before.phases s ≡ Populating q → phase_of after.phases s ≡ Unmade → Phased s (phase_of before.phases s) (phase_of after.phases s) (op ∷ []) pid.0 → ⊥
        never q phase e (Stays same) = cc (phase, sym same ∙ e)
        never q phase e (Taken r t unmade populating u) = cc (phase, unmade)
        never q phase e (IsFrozen root frozen) = cc (frozen, e)
        never q phase e (IsAbsorbed absorbed) = cc (absorbed, e)

        same_pid : (q r : Pid) → phase_of before.phases s ≡ Populating q → phase_of after.phases s ≡ Populating r → Phased s (phase_of before.phases s) (phase_of after.phases s) (op ∷ []) pid.0 → q.0 ≡ r.0
        same_pid q r phase e (Stays same) = let is : q ≡ r = cc (sym phase ∙ sym same ∙ e) in ap (λ (k : Pid). k.0) is
        same_pid q r phase e (Taken u t unmade populating v) = absurd (cc (phase, unmade))
        same_pid q r phase e (IsFrozen root frozen) = absurd (cc (frozen, e))
        same_pid q r phase e (IsAbsorbed absorbed) = absurd (cc (absorbed, e))

  next : AreLimits trace → (history : List Event) (event : Event) → IsLegalHistory trace history → IsPossible trace (state_after trace history) event → Bound history → Bound (history ++ event ∷ [])
  unfolding step
  next limits history event legal may held = go event refl may
    where
      at : (P : State → Type 0) → P (step trace (state_after trace history) event) → P (state_after trace (history ++ event ∷ []))
      at P t = subst P (sym (state_next trace history event)) t

      never_shares : (e : Event) (ops : List Op) → ops ≡ [] → IsTrue (list_any (is_share_of s) ops) → (0 < process_count trace) × IsTrue (list_any (is_share_of s) (done_by 0 (e ∷ [])))
      never_shares e ops none t = absurd (false≢true (ap (list_any (is_share_of s)) (sym none) ∙ t))

      go : (e : Event) → e ≡ event → IsPossible trace (state_after trace history) e → Bound (history ++ event ∷ [])
      go (Done pid op said) is may =
          let st = state_after trace history in
          let there : step trace st event ≡ after_operation trace pid.0 op st = ap (step trace st) (sym is) in
          let phased : Phased s (phase_of st.phases s) (phase_of (state_after trace (history ++ event ∷ [])).phases s) (op ∷ []) pid.0 =
          at (λ su. Phased s (phase_of st.phases s) (phase_of su.phases s) (op ∷ []) pid.0) (subst (λ su. Phased s (phase_of st.phases s) (phase_of su.phases s) (op ∷ []) pid.0) (sym there) (done_phases trace st pid.0 op s)) in
          elim (done_cases trace st (shared s) refl pid op) [
            | inl less ↦ fewer history event held pid.0 (op ∷ []) phased (λ t. (may.known, by_event pid op said is t))
                (at (λ su. exit_count su.exits (shared s) ≤ exit_count st.exits (shared s)) (subst (λ su. exit_count su.exits (shared s) ≤ exit_count st.exits (shared s)) (sym there) less))
            | inr into ↦ grown history event held pid op said (sym is) (legal_sound trace history limits legal) into.0 phased
                (at (λ su. exit_count su.exits (shared s) ≤ exit_count st.exits (shared s) + 1) (subst (λ su. exit_count su.exits (shared s) ≤ exit_count st.exits (shared s) + 1) (sym there) into.1))
          ]
        where
          by_event : (pid : Pid) (op : Op) (said : Reply) → Done pid op said ≡ event → IsTrue (list_any (is_share_of s) (op ∷ [])) → IsTrue (list_any (is_share_of s) (done_by pid.0 (event ∷ [])))
          by_event pid op said is t = subst (λ e. IsTrue (list_any (is_share_of s) (done_by pid.0 (e ∷ [])))) is (rw (eq-eqb pid.0 pid.0 refl) t)
      go (Ended h a b c d) is may =
          let st = state_after trace history in
          fewer history event held 0 [] (at (λ su. Phased s (phase_of st.phases s) (phase_of su.phases s) [] 0) (subst (λ e. Phased s (phase_of st.phases s) (phase_of (step trace st e).phases s) [] 0) is (Stays (ap (λ phases. phase_of phases s) (ended_phases trace st h)))))
          (never_shares event [] refl)
          (at (λ su. exit_count su.exits (shared s) ≤ exit_count st.exits (shared s)) (subst (λ e. exit_count (step trace st e).exits (shared s) ≤ exit_count st.exits (shared s)) is (ended_fewer trace st (shared s) refl h)))
      go (AbsorbedEvent t) is may =
          let st = state_after trace history in
          fewer history event held 0 [] (at (λ su. Phased s (phase_of st.phases s) (phase_of su.phases s) [] 0) (subst (λ e. Phased s (phase_of st.phases s) (phase_of (step trace st e).phases s) [] 0) is (absorbed_phases trace st t.0 s 0 [])))
          (never_shares event [] refl)
          (at (λ su. exit_count su.exits (shared s) ≤ exit_count st.exits (shared s)) (subst (λ e. exit_count (step trace st e).exits (shared s) ≤ exit_count st.exits (shared s)) is (absorbed_fewer trace st (shared s) refl t.0)))
      go Closing is may =
          let st = state_after trace history in
          fewer history event held 0 [] (at (λ su. Phased s (phase_of st.phases s) (phase_of su.phases s) [] 0) (subst (λ e. Phased s (phase_of st.phases s) (phase_of (step trace st e).phases s) [] 0) is (Stays (ap (λ phases. phase_of phases s) (closing_phases trace st)))))
          (never_shares event [] refl)
          (at (λ su. exit_count su.exits (shared s) ≤ exit_count st.exits (shared s)) (subst (λ e. exit_count (step trace st e).exits (shared s) ≤ exit_count st.exits (shared s)) is (closing_fewer trace st (shared s) refl)))

  first : Bound []
  first = record {
    none = λ e. refl;
    made = λ q e. absurd (cc (all_unmade trace.shared_heaps s, e));
    bound = inl refl;
  }

  pub shared_exits : AreLimits trace → (history : List Event) → IsLegalHistory trace history →
      (exit_count (state_after trace history).exits (shared s) ≡ 0) ⊎ ((p : ℕ) × MadeBy trace s history (exit_count (state_after trace history).exits (shared s)) p)
  shared_exits limits history legal = (history_induction trace Bound first (next limits) history legal).bound

  -- an unmade heap has no exit items
  pub unmade_exits : AreLimits trace → (history : List Event) → IsLegalHistory trace history → phase_of (state_after trace history).phases s ≡ Unmade → exit_count (state_after trace history).exits (shared s) ≡ 0
  unmade_exits limits history legal e = (history_induction trace Bound first (next limits) history legal).none e
