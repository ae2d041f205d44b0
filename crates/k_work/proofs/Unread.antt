-- The work of a history goes by the setup of its trace alone.
use Rattle.std.proofs.Common.{◌≡◌, ℕ, refl, sym, ap, ap₂, ◌∙◌, List, [], ◌∷◌, ◌++◌, Option, None}
use Rattle.k_types.specs.declared.event.Event.{Event}
use Rattle.k_types.specs.declared.event.Event.TheVariants.{Done, Ended, Absorbed, Closing}
use Rattle.k_types.specs.Effects.{step}
use Rattle.k_types.specs.State.{State, opening}
use Rattle.k_types.specs.Trace.{Trace, process_count}
use Rattle.k_solo.proofs.Unread.{step_unread}
use Rattle.k_state.specs.Setups.{setup_of}
use Rattle.k_work.specs.Credits.{Credit, credit_of, credits_from, kernel_asker}
use Rattle.k_work.specs.Tables.{table_of, work_of}

credit_unread : (trace : Trace) (st : State) (who : Option ℕ) (event : Event) → credit_of (setup_of trace) st who event ≡ credit_of trace st who event
credit_unread trace st who (Done pid op reply) = refl
credit_unread trace st who (Ended h objects bytes exits shares) = refl
credit_unread trace st who (Absorbed s) = refl
credit_unread trace st who Closing = refl

from_unread : (trace : Trace) (st : State) (who : Option ℕ) (events : List Event) → credits_from (setup_of trace) st who events ≡ credits_from trace st who events
from_unread trace st who [] = refl
from_unread trace st who (event ∷ events) =
    let next : step (setup_of trace) st event ≡ step trace st event = sym (step_unread trace st event) in
    ap (λ (after : State). credit_of (setup_of trace) after who event ++ credits_from (setup_of trace) after (kernel_asker event who) events) next
    ∙ ap₂ (λ (cs ds : List Credit). cs ++ ds) (credit_unread trace (step trace st event) who event) (from_unread trace (step trace st event) (kernel_asker event who) events)

pub work_unread : (trace : Trace) (history : List Event) → work_of (setup_of trace) history ≡ work_of trace history
work_unread trace history = ap (table_of (process_count trace)) (from_unread trace (opening trace) None history)
