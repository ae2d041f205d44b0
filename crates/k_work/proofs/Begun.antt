-- The event that began an open collection, and the credit for its end.
use Rattle.std.proofs.Common.{◌≡◌, ℕ, ◌&&◌, not, true, false, refl, sym, ap, ◌∙◌, subst, inl, inr, List, [], ◌∷◌, ◌++◌, Option, None, IsTrue, append_assoc}
use Rattle.std.specs.List.{list_all}
use Rattle.std.proofs.lemmas.Bool.{and_parts, cases_Bool, false≢true, not-true}
use Rattle.std.proofs.lemmas.List.Folds.{list_all-append}
use Rattle.k_types.specs.declared.event.Event.{Event}
use Rattle.k_types.specs.declared.event.Event.TheVariants.{Done, Ended, Absorbed, Closing}
use Rattle.k_types.specs.declared.names.Heap.{Heap}
use Rattle.k_types.specs.declared.names.Heap.TheVariants.{Kernel, User, Shared}
use Rattle.k_types.specs.declared.op.Op.TheVariants.{KCollect}
use Rattle.k_types.specs.Cells.{cells_touched, other_cells}
use Rattle.k_types.specs.Effects.{step}
use Rattle.k_types.specs.State.{State, is_scanned, opening}
use Rattle.k_types.specs.Steps.{IsLegalHistory, IsPossible, IsRun, state_after}
use Rattle.k_types.specs.Trace.{Trace}
use Rattle.k_laws.proofs.Histories.{history_induction, legal_front, legal_rest, state_next}
use Rattle.k_work.specs.Beginnings.{Beginning, IsAskedBy, IsCredited, is_end_of}
use Rattle.k_work.specs.Crediting.{kernel_after}
use Rattle.k_work.specs.Credits.{asker_of, credits, credits_from, kernel_asker, work_in}
use Rattle.k_work.proofs.Credited.{asker_append, from_append}
use Rattle.k_work.proofs.Scanned.{not_ended, opened_by, opener_asks, stays_scanned}

module _ (trace : Trace) (h : Heap) where
  -- one event more, which is not the end
  longer : (history : List Event) (event : Event) → is_end_of h event ≡ false → Beginning trace history h → Beginning trace (history ++ event ∷ []) h
  longer history event other began =
      record {
        before = began.before;
        event = began.event;
        since = began.since ++ event ∷ [];
        place = ap (λ (es : List Event). es ++ event ∷ []) began.place ∙ append_assoc began.before (began.event ∷ began.since) (event ∷ []);
        idle = began.idle;
        scanned = began.scanned;
        unended = list_all-append (λ e. not (is_end_of h e)) began.since (event ∷ []) ∙ ap (λ b. b && (not (is_end_of h event) && true)) began.unended ∙ ap (λ b. not b && true) other;
      }

  -- an open collection was begun by an event
  pub has_begun : (history : List Event) → IsLegalHistory trace history → IsTrue (is_scanned (state_after trace history).scans h) → Beginning trace history h
  has_begun history legal scanned =
      history_induction trace (λ (es : List Event). IsTrue (is_scanned (state_after trace es).scans h) → Beginning trace es h) (λ scanned. absurd (false≢true scanned)) next history legal scanned
    where
      next : (before : List Event) (event : Event) → IsLegalHistory trace before → IsPossible trace (state_after trace before) event → (IsTrue (is_scanned (state_after trace before).scans h) → Beginning trace before h) →
          IsTrue (is_scanned (state_after trace (before ++ event ∷ [])).scans h) → Beginning trace (before ++ event ∷ []) h
      next before event legal may held after =
          elim (cases_Bool (is_scanned (state_after trace before).scans h)) [
            | inl scanned ↦ longer before event (not_ended trace (state_after trace before) h event (ap (λ (st : State). is_scanned st.scans h) (sym (state_next trace before event)) ∙ after)) (held scanned)
            | inr idle ↦ record { before = before; event = event; since = []; place = refl; idle = idle; scanned = after; unended = refl }
          ]

-- while a collection of the kernel is open nobody asks for another
asker_stays : (trace : Trace) (st : State) (event : Event) (who : Option ℕ) → IsPossible trace st event → is_scanned st.scans Kernel ≡ true → kernel_asker event who ≡ who
unfolding cells_touched other_cells
asker_stays trace st (Done pid KCollect reply) who may scanned =
    let both = and_parts (not (is_scanned st.scans (User pid))) (not (is_scanned st.scans Kernel) && true) may.idle in
    let kernel = and_parts (not (is_scanned st.scans Kernel)) true both.1 in
    absurd (false≢true (sym (not-true _ kernel.0) ∙ scanned))
asker_stays trace st (Done pid op reply) who may scanned = refl
asker_stays trace st (Ended g objects bytes exits shares) who may scanned = refl
asker_stays trace st (Absorbed s) who may scanned = refl
asker_stays trace st Closing who may scanned = absurd (false≢true (sym may.idle ∙ scanned))

kernel_stays : (trace : Trace) (st : State) (events : List Event) (who : Option ℕ) → IsRun trace st events → is_scanned st.scans Kernel ≡ true → list_all (λ e. not (is_end_of Kernel e)) events ≡ true → kernel_after who events ≡ who
kernel_stays trace st [] who legal scanned unended = refl
kernel_stays trace st (event ∷ events) who legal scanned unended =
    let parts = and_parts (not (is_end_of Kernel event)) (list_all (λ e. not (is_end_of Kernel e)) events) unended in
    ap (λ w. kernel_after w events) (asker_stays trace st event who legal.0 scanned)
    ∙ kernel_stays trace (step trace st event) events who legal.1 (stays_scanned trace st Kernel event (not-true _ parts.0) scanned) parts.1

-- so whom an open collection is credited to stays
credited_stays : (trace : Trace) (st : State) (h : Heap) (events : List Event) (who : Option ℕ) → IsRun trace st events → is_scanned st.scans h ≡ true → list_all (λ e. not (is_end_of h e)) events ≡ true →
    asker_of (kernel_after who events) h ≡ asker_of who h
credited_stays trace st Kernel events who legal scanned unended = kernel_stays trace st events who legal scanned unended
credited_stays trace st (User p) events who legal scanned unended = refl
credited_stays trace st (Shared s) events who legal scanned unended = refl

module _ (trace : Trace) (known rest : List Event) (h : Heap) (objects bytes exits shares : ℕ) where
  -- the end is credited to who is the asker then
  pub end_credited : IsCredited trace known (Ended h objects bytes exits shares) rest h (asker_of (kernel_after None known) h)
  end_credited =
      record {
        later = credits_from trace (step trace (state_after trace known) (Ended h objects bytes exits shares)) (kernel_after None known) rest;
        next =
            from_append trace (opening trace) None known (Ended h objects bytes exits shares ∷ rest)
            ∙ ap (λ (st : State). credits trace known ++ record { to = asker_of (kernel_after None known) h; work = work_in trace st h } ∷ credits_from trace (step trace (state_after trace known) (Ended h objects bytes exits shares)) (kernel_after None known) rest)
            (sym (state_next trace known (Ended h objects bytes exits shares)));
      }

  -- an end has a beginning
  pub end_began : IsLegalHistory trace (known ++ Ended h objects bytes exits shares ∷ rest) → Beginning trace known h
  end_began legal =
      has_begun trace h known (legal_front trace (opening trace) known (Ended h objects bytes exits shares ∷ rest) legal)
      (legal_rest trace (opening trace) known (Ended h objects bytes exits shares ∷ rest) legal).0.scanned

  -- and is credited to who asked by it
  pub beginner_credited : (began : Beginning trace known h) → IsLegalHistory trace (known ++ Ended h objects bytes exits shares ∷ rest) →
      (who : Option ℕ) × IsAskedBy began.event who × IsCredited trace known (Ended h objects bytes exits shares) rest h who
  beginner_credited began legal = (asker_of (kernel_after None known) h, subst (IsAskedBy began.event) (sym same) asks, end_credited)
    where
      st : State
      st = state_after trace began.before

      who : Option ℕ
      who = kernel_asker began.event (kernel_after None began.before)

      front : IsLegalHistory trace known
      front = legal_front trace (opening trace) known (Ended h objects bytes exits shares ∷ rest) legal

      placed : IsRun trace st (began.event ∷ began.since)
      placed = legal_rest trace (opening trace) began.before (began.event ∷ began.since) (subst (IsLegalHistory trace) began.place front)

      after : is_scanned (step trace st began.event).scans h ≡ true
      after = ap (λ (su : State). is_scanned su.scans h) (sym (state_next trace began.before began.event)) ∙ began.scanned

      asks : IsAskedBy began.event (asker_of who h)
      asks = opener_asks began.event h (kernel_after None began.before) (opened_by trace st h began.event began.idle after)

      same : asker_of (kernel_after None known) h ≡ asker_of who h
      same =
          ap (λ (es : List Event). asker_of (kernel_after None es) h) began.place
          ∙ ap (λ w. asker_of w h) (asker_append None began.before (began.event ∷ began.since))
          ∙ credited_stays trace (step trace st began.event) h began.since who placed.1 after began.unended
