-- Credits of more events.
use Rattle.std.proofs.Common.{◌≡◌, ℕ, refl, sym, ap, ◌∙◌, List, [], ◌∷◌, ◌++◌, Option, None, arith, append_assoc}
use Rattle.std.proofs.lemmas.List.{append-nil}
use Rattle.k_types.specs.declared.event.Event.{Event}
use Rattle.k_types.specs.declared.event.Event.TheVariants.{Done, Ended, Absorbed, Closing}
use Rattle.k_types.specs.Effects.{step}
use Rattle.k_types.specs.State.{State, opening}
use Rattle.k_types.specs.Steps.{run, state_after}
use Rattle.k_types.specs.Totals.{total}
use Rattle.k_types.specs.Trace.{Trace}
use Rattle.k_laws.proofs.Histories.{state_next}
use Rattle.k_work.specs.Crediting.{kernel_after}
use Rattle.k_work.specs.Credits.{credit_of, credits, credits_from, kernel_asker}
use Rattle.k_work.specs.Tables.{ends_in}

pub asker_append : (who : Option ℕ) (xs ys : List Event) → kernel_after who (xs ++ ys) ≡ kernel_after (kernel_after who xs) ys
asker_append who [] ys = refl
asker_append who (x ∷ xs) ys = asker_append (kernel_asker x who) xs ys

pub from_append : (trace : Trace) (st : State) (who : Option ℕ) (xs ys : List Event) →
    credits_from trace st who (xs ++ ys) ≡ credits_from trace st who xs ++ credits_from trace (run trace st xs) (kernel_after who xs) ys
from_append trace st who [] ys = refl
from_append trace st who (x ∷ xs) ys =
    ap (λ cs. credit_of trace (step trace st x) who x ++ cs) (from_append trace (step trace st x) (kernel_asker x who) xs ys)
    ∙ sym (append_assoc (credit_of trace (step trace st x) who x) (credits_from trace (step trace st x) (kernel_asker x who) xs)
    (credits_from trace (run trace (step trace st x) xs) (kernel_after (kernel_asker x who) xs) ys))

pub asker_next : (who : Option ℕ) (events : List Event) (event : Event) → kernel_after who (events ++ event ∷ []) ≡ kernel_asker event (kernel_after who events)
asker_next who events event = asker_append who events (event ∷ [])

-- one event more
pub credits_next : (trace : Trace) (history : List Event) (event : Event) →
    credits trace (history ++ event ∷ []) ≡ credits trace history ++ credit_of trace (state_after trace (history ++ event ∷ [])) (kernel_after None history) event
credits_next trace history event =
    from_append trace (opening trace) None history (event ∷ [])
    ∙ ap (λ cs. credits trace history ++ cs) (append-nil (credit_of trace (step trace (state_after trace history) event) (kernel_after None history) event))
    ∙ ap (λ st. credits trace history ++ credit_of trace st (kernel_after None history) event) (sym (state_next trace history event))

ends_from : (trace : Trace) (st : State) (who : Option ℕ) (events : List Event) → total (λ c. 1) (credits_from trace st who events) ≡ total ends_in events
ends_from trace st who [] = refl
ends_from trace st who (Done pid op reply ∷ events) = omega (arith, ends_from trace (step trace st (Done pid op reply)) (kernel_asker (Done pid op reply) who) events)
ends_from trace st who (Ended h objects bytes exits shares ∷ events) =
    omega (arith, ends_from trace (step trace st (Ended h objects bytes exits shares)) who events)
ends_from trace st who (Absorbed s ∷ events) = omega (arith, ends_from trace (step trace st (Absorbed s)) who events)
ends_from trace st who (Closing ∷ events) = omega (arith, ends_from trace (step trace st Closing) None events)

-- there is a credit for each end of a collection
pub ends_are_credited : (trace : Trace) (history : List Event) → total (λ c. 1) (credits trace history) ≡ total ends_in history
ends_are_credited trace history = ends_from trace (opening trace) None history
