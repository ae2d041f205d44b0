-- Who is credited is a process of the trace, or the closing.
use Rattle.std.proofs.Common.{ℕ, List, [], ◌∷◌, ◌++◌, Option, None}
use Rattle.std.specs.List.{AllByRecursion}
use Rattle.k_types.specs.declared.event.Event.{Event}
use Rattle.k_types.specs.declared.event.Event.TheVariants.{Done, Ended, Absorbed, Closing}
use Rattle.k_types.specs.declared.names.Heap.{Heap}
use Rattle.k_types.specs.declared.names.Heap.TheVariants.{Kernel, User, Shared}
use Rattle.k_types.specs.declared.op.Op.TheVariants.{KCollect}
use Rattle.k_types.specs.Effects.{step}
use Rattle.k_types.specs.Known.{IsKnownEvent}
use Rattle.k_types.specs.State.{State, opening}
use Rattle.k_types.specs.Steps.{IsLegalHistory}
use Rattle.k_types.specs.Trace.{IsHeap, Trace, process_count}
use Rattle.k_types.specs.TraceRules.{AreLimits}
use Rattle.k_laws.proofs.KnownLaws.{events_are_known}
use Rattle.k_work.specs.Crediting.{IsAmong, kernel_after}
use Rattle.k_work.specs.Credits.{Credit, asker_of, credit_of, credits, credits_from, kernel_asker}

-- the asker of a known event is known
pub asker_among : (trace : Trace) (event : Event) (who : Option ℕ) → IsKnownEvent trace event → IsAmong (process_count trace) who → IsAmong (process_count trace) (kernel_asker event who)
asker_among trace (Done pid KCollect reply) who known among = known.0
asker_among trace (Ended h objects bytes exits shares) who known among = among
asker_among trace (Absorbed s) who known among = among
asker_among trace Closing who known among = tt
asker_among trace (Done pid _ reply) who known among = among

pub after_among : (trace : Trace) (events : List Event) (who : Option ℕ) → AllByRecursion (IsKnownEvent trace) events → IsAmong (process_count trace) who → IsAmong (process_count trace) (kernel_after who events)
after_among trace [] who known among = among
after_among trace (event ∷ events) who known among = after_among trace events (kernel_asker event who) known.1 (asker_among trace event who known.0 among)

heap_among : (trace : Trace) (h : Heap) (who : Option ℕ) → IsHeap trace h → IsAmong (process_count trace) who → IsAmong (process_count trace) (asker_of who h)
heap_among trace Kernel who known among = among
heap_among trace (User p) who known among = known
heap_among trace (Shared s) who known among = tt

-- so is who is credited for it
pub credit_among : (trace : Trace) (st : State) (event : Event) (who : Option ℕ) → IsKnownEvent trace event → IsAmong (process_count trace) who →
    AllByRecursion (λ (c : Credit). IsAmong (process_count trace) c.to) (credit_of trace st who event)
credit_among trace st (Done pid op reply) who known among = tt
credit_among trace st (Ended h objects bytes exits shares) who known among = (heap_among trace h who known among, tt)
credit_among trace st (Absorbed s) who known among = tt
credit_among trace st Closing who known among = tt

both : {A : Type 0} (P : A → Type 0) (xs ys : List A) → AllByRecursion P xs → AllByRecursion P ys → AllByRecursion P (xs ++ ys)
both P [] ys all more = more
both P (x ∷ xs) ys all more = (all.0, both P xs ys all.1 more)

from_among : (trace : Trace) (st : State) (who : Option ℕ) (events : List Event) → AllByRecursion (IsKnownEvent trace) events → IsAmong (process_count trace) who →
    AllByRecursion (λ (c : Credit). IsAmong (process_count trace) c.to) (credits_from trace st who events)
from_among trace st who [] known among = tt
from_among trace st who (event ∷ events) known among =
    both (λ (c : Credit). IsAmong (process_count trace) c.to) (credit_of trace (step trace st event) who event) (credits_from trace (step trace st event) (kernel_asker event who) events)
    (credit_among trace (step trace st event) event who known.0 among)
    (from_among trace (step trace st event) (kernel_asker event who) events known.1 (asker_among trace event who known.0 among))

pub credits_among : (trace : Trace) (history : List Event) → AreLimits trace → IsLegalHistory trace history → AllByRecursion (λ (c : Credit). IsAmong (process_count trace) c.to) (credits trace history)
credits_among trace history limits legal = from_among trace (opening trace) None history (events_are_known trace history limits legal) tt
