-- A collection is begun by one event.
use Rattle.std.proofs.Common.{◌≡◌, not, true, false, refl, sym, ap, ap₂, ◌∙◌, List, [], ◌∷◌, ◌++◌}
use Rattle.std.specs.List.{list_all}
use Rattle.std.proofs.lemmas.Bool.{and_parts, false≢true, not-true}
use Rattle.std.proofs.lemmas.List.Folds.{list_all-append}
use Rattle.k_types.specs.declared.event.Event.{Event}
use Rattle.k_types.specs.declared.names.Heap.{Heap}
use Rattle.k_types.specs.Effects.{step}
use Rattle.k_types.specs.State.{State, is_scanned, opening}
use Rattle.k_types.specs.Steps.{run, state_after}
use Rattle.k_types.specs.Trace.{Trace}
use Rattle.k_laws.proofs.Histories.{state_next}
use Rattle.k_work.specs.Beginnings.{Beginning, is_end_of}
use Rattle.k_work.proofs.Scanned.{stays_scanned}

module _ (trace : Trace) (h : Heap) where
  -- it is open as long as no event ends it
  open_through : (st : State) (events : List Event) → is_scanned st.scans h ≡ true → list_all (λ e. not (is_end_of h e)) events ≡ true → is_scanned (run trace st events).scans h ≡ true
  open_through st [] scanned unended = scanned
  open_through st (event ∷ events) scanned unended =
      let parts = and_parts (not (is_end_of h event)) (list_all (λ e. not (is_end_of h e)) events) unended in
      open_through (step trace st event) events (stays_scanned trace st h event (not-true _ parts.0) scanned) parts.1

  -- so none begins while it is
  never_again : (st : State) (first second : Event) (since before after : List Event) → since ≡ before ++ second ∷ after → is_scanned (step trace st first).scans h ≡ true → list_all (λ e. not (is_end_of h e)) since ≡ true →
      is_scanned (run trace (step trace st first) before).scans h ≡ false → ⊥
  never_again st first second since before after place scanned unended idle =
      let all = sym (list_all-append (λ e. not (is_end_of h e)) before (second ∷ after)) ∙ ap (list_all (λ e. not (is_end_of h e))) (sym place) ∙ unended in
      let front = (and_parts (list_all (λ e. not (is_end_of h e)) before) (list_all (λ e. not (is_end_of h e)) (second ∷ after)) all).0 in
      false≢true (sym idle ∙ open_through (step trace st first) before scanned front)

  one_from : (st : State) (xs ys : List Event) (x y : Event) (after_x after_y : List Event) → xs ++ x ∷ after_x ≡ ys ++ y ∷ after_y →
      is_scanned (run trace st xs).scans h ≡ false → is_scanned (step trace (run trace st xs) x).scans h ≡ true → list_all (λ e. not (is_end_of h e)) after_x ≡ true →
      is_scanned (run trace st ys).scans h ≡ false → is_scanned (step trace (run trace st ys) y).scans h ≡ true → list_all (λ e. not (is_end_of h e)) after_y ≡ true →
      (xs ≡ ys) × (x ≡ y)
  one_from st [] [] x y after_x after_y same idle_x open_x unended_x idle_y open_y unended_y = (refl, cc same)
  one_from st [] (z ∷ ys) x y after_x after_y same idle_x open_x unended_x idle_y open_y unended_y =
      let first : x ≡ z = cc same in
      let rest : after_x ≡ ys ++ y ∷ after_y = cc same in
      absurd (never_again st x y after_x ys after_y rest open_x unended_x (ap (λ (e : Event). is_scanned (run trace (step trace st e) ys).scans h) first ∙ idle_y))
  one_from st (z ∷ xs) [] x y after_x after_y same idle_x open_x unended_x idle_y open_y unended_y =
      let first : y ≡ z = cc same in
      let rest : after_y ≡ xs ++ x ∷ after_x = cc same in
      absurd (never_again st y x after_y xs after_x rest open_y unended_y (ap (λ (e : Event). is_scanned (run trace (step trace st e) xs).scans h) first ∙ idle_x))
  one_from st (z ∷ xs) (w ∷ ys) x y after_x after_y same idle_x open_x unended_x idle_y open_y unended_y =
      let first : w ≡ z = cc same in
      let rest : xs ++ x ∷ after_x ≡ ys ++ y ∷ after_y = cc same in
      let more = one_from (step trace st z) xs ys x y after_x after_y rest idle_x open_x unended_x
      (ap (λ (e : Event). is_scanned (run trace (step trace st e) ys).scans h) (sym first) ∙ idle_y)
      (ap (λ (e : Event). is_scanned (step trace (run trace (step trace st e) ys) y).scans h) (sym first) ∙ open_y)
      unended_y in
      (ap₂ (λ e es. e ∷ es) (sym first) more.0, more.1)

-- two events that began it are one
pub one_beginning : (trace : Trace) (history : List Event) (h : Heap) (began other : Beginning trace history h) → (began.before ≡ other.before) × (began.event ≡ other.event)
one_beginning trace history h began other =
    one_from trace h (opening trace) began.before other.before began.event other.event began.since other.since (sym began.place ∙ other.place)
    began.idle (after began) began.unended other.idle (after other) other.unended
  where
    after : (b : Beginning trace history h) → is_scanned (step trace (state_after trace b.before) b.event).scans h ≡ true
    after b = ap (λ (st : State). is_scanned st.scans h) (sym (state_next trace b.before b.event)) ∙ b.scanned
