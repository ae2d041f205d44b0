-- Histories that follow one another.
use Rattle.std.proofs.Common.{◌≡◌, ℕ, ◌+◌, ◌==◌, cond, true, false, refl, ap, sym, subst, List, [], ◌∷◌, ◌++◌, append-nil, arith}
use Rattle.std.proofs.lemmas.List.{append_assoc}
use Rattle.k_types.specs.declared.event.Event.{Event}
use Rattle.k_types.specs.declared.event.Event.TheVariants.{Done, Ended, Absorbed, Closing}
use Rattle.k_types.specs.Trace.{Trace}
use Rattle.k_types.specs.State.{State, opening}
use Rattle.k_types.specs.Effects.{step}
use Rattle.k_types.specs.Cells.{Cell}
use Rattle.k_types.specs.Steps.{IsRun, IsPossible, IsLegalHistory, run, state_after, touch_count_from, done_by}

pub run_append : (trace : Trace) (st : State) (xs ys : List Event) → run trace st (xs ++ ys) ≡ run trace (run trace st xs) ys
run_append trace st [] ys = refl
run_append trace st (x ∷ xs) ys = run_append trace (step trace st x) xs ys

pub legal_front : (trace : Trace) (st : State) (xs ys : List Event) → IsRun trace st (xs ++ ys) → IsRun trace st xs
legal_front trace st [] ys legal = tt
legal_front trace st (x ∷ xs) ys legal = (legal.0, legal_front trace (step trace st x) xs ys legal.1)

pub legal_rest : (trace : Trace) (st : State) (xs ys : List Event) → IsRun trace st (xs ++ ys) → IsRun trace (run trace st xs) ys
legal_rest trace st [] ys legal = legal
legal_rest trace st (x ∷ xs) ys legal = legal_rest trace (step trace st x) xs ys legal.1

pub legal_append : (trace : Trace) (st : State) (xs ys : List Event) → IsRun trace st xs → IsRun trace (run trace st xs) ys → IsRun trace st (xs ++ ys)
legal_append trace st [] ys front rest = rest
legal_append trace st (x ∷ xs) ys front rest = (front.0, legal_append trace (step trace st x) xs ys front.1 rest)

pub touches_append : (trace : Trace) (st : State) (c : Cell) (xs ys : List Event) →
    touch_count_from trace st c (xs ++ ys) ≡ touch_count_from trace st c xs + touch_count_from trace (run trace st xs) c ys
touches_append trace st c [] ys = omega arith
touches_append trace st c (x ∷ xs) ys = omega (arith, touches_append trace (step trace st x) c xs ys)

done_step : (p : ℕ) (x : Event) (xs ys : List Event) → done_by p (xs ++ ys) ≡ done_by p xs ++ done_by p ys → done_by p (x ∷ xs ++ ys) ≡ done_by p (x ∷ xs) ++ done_by p ys
done_step p (Done pid op said) xs ys ih = elim (pid.0 == p) as (λ b. cond b (op ∷ done_by p (xs ++ ys)) (done_by p (xs ++ ys)) ≡ cond b (op ∷ done_by p xs) (done_by p xs) ++ done_by p ys) [
  | true ↦ ap (λ ops. op ∷ ops) ih
  | false ↦ ih
]
done_step p (Ended h a b c d) xs ys ih = ih
done_step p (Absorbed s) xs ys ih = ih
done_step p Closing xs ys ih = ih

pub done_append : (p : ℕ) (xs ys : List Event) → done_by p (xs ++ ys) ≡ done_by p xs ++ done_by p ys
done_append p [] ys = refl
done_append p (x ∷ xs) ys = done_step p x xs ys (done_append p xs ys)

-- what holds of the empty history, and after an event where it held before it, holds of every legal history
pub history_induction : (trace : Trace) (P : List Event → Type 0) → P [] →
    ((history : List Event) (event : Event) → IsLegalHistory trace history → IsPossible trace (state_after trace history) event → P history → P (history ++ event ∷ [])) →
    (history : List Event) → IsLegalHistory trace history → P history
history_induction trace P first next history legal = go [] history tt legal first
  where
    go : (front rest : List Event) → IsLegalHistory trace front → IsRun trace (state_after trace front) rest → P front → P (front ++ rest)
    go front [] before legal held = subst P (sym (append-nil front)) held
    go front (event ∷ rest) before legal held =
        subst P (append_assoc front (event ∷ []) rest)
        (go (front ++ event ∷ []) rest
        (legal_append trace (opening trace) front (event ∷ []) before (legal.0, tt))
        (subst (λ st. IsRun trace st rest) (sym (run_append trace (opening trace) front (event ∷ []))) legal.1)
        (next front event before legal.0 held))

-- the state after one more event
pub state_next : (trace : Trace) (history : List Event) (event : Event) → state_after trace (history ++ event ∷ []) ≡ step trace (state_after trace history) event
state_next trace history event = run_append trace (opening trace) history (event ∷ [])
