-- The work of a history that is not long fits.
use Rattle.std.proofs.Common.{◌≡◌, ℕ, ◌*◌, ◌<◌, ◌≤◌, ◌^◌, ap, ◌∙◌, List, [], ◌∷◌, ◌++◌, Option, None, length, arith}
use Rattle.k_types.specs.declared.event.Event.{Event}
use Rattle.k_types.specs.declared.event.Event.TheVariants.{Done, Ended, Absorbed, Closing}
use Rattle.k_types.specs.declared.names.Heap.{Heap}
use Rattle.k_types.specs.State.{State, opening}
use Rattle.k_types.specs.Steps.{IsLegalHistory, state_after}
use Rattle.k_types.specs.Totals.{total}
use Rattle.k_types.specs.Trace.{Trace, process_count}
use Rattle.k_types.specs.TraceRules.{AreLimits}
use Rattle.k_types.proofs.Lists.{length_push}
use Rattle.k_types.proofs.Sums.{ones, total_append}
use Rattle.k_laws.proofs.Histories.{history_induction, legal_append}
use Rattle.k_laws.proofs.SoundSteps.{legal_sound}
use Rattle.k_solo.proofs.Rooms.{history_room}
use Rattle.k_state.specs.Setups.{AreSetupRules}
use Rattle.k_work.specs.Crediting.{AreSmall, kernel_after}
use Rattle.k_work.specs.Credits.{Credit, credit_of, credits, work_in}
use Rattle.k_work.specs.Tables.{ends_in, total_row, work_of}
use Rattle.k_work.proofs.Among.{credits_among}
use Rattle.k_work.proofs.Credited.{credits_next, ends_are_credited}
use Rattle.k_work.proofs.Fields.{work_low}
use Rattle.k_work.proofs.Summed.{rows_collections, rows_work}

-- the work of one collection, where there are fewer than 2 ^ 29 events: at most seventeen times 2 ^ 29
pub one_small : (trace : Trace) (history : List Event) (h : Heap) → AreSetupRules trace → IsLegalHistory trace history → length history < 2 ^ 29 → work_in trace (state_after trace history) h ≤ 9126805504
one_small trace history h rules legal few =
    let room = history_room 3758096383 trace history (omega (arith, few)) in
    omega (arith, room.objects, work_low trace (state_after trace history) h rules (legal_sound trace history rules.limits legal))

credit_small : (trace : Trace) (st : State) (who : Option ℕ) (event : Event) → ((h : Heap) → work_in trace st h ≤ 9126805504) → total (λ c. c.work) (credit_of trace st who event) ≤ 9126805504
credit_small trace st who (Done pid op reply) small = omega arith
credit_small trace st who (Ended h objects bytes exits shares) small = omega (arith, small h)
credit_small trace st who (Absorbed s) small = omega arith
credit_small trace st who Closing small = omega arith

-- all work
pub all_small : (trace : Trace) (history : List Event) → AreSetupRules trace → IsLegalHistory trace history → length history < 2 ^ 29 → total (λ c. c.work) (credits trace history) ≤ 9126805504 * length history
all_small trace history rules legal few =
    history_induction trace (λ (h : List Event). length h < 2 ^ 29 → total (λ c. c.work) (credits trace h) ≤ 9126805504 * length h) (λ small. omega arith)
    (λ before event legal possible held few.
    let next : IsLegalHistory trace (before ++ event ∷ []) = legal_append trace (opening trace) before (event ∷ []) legal (possible, tt) in
    let longer = length_push before event in
    let more = ap (λ (cs : List Credit). total (λ c. c.work) cs) (credits_next trace before event) in
    let apart = total_append (λ (c : Credit). c.work) (credits trace before) (credit_of trace (state_after trace (before ++ event ∷ [])) (kernel_after None before) event) in
    let here = credit_small trace (state_after trace (before ++ event ∷ [])) (kernel_after None before) event (λ h. one_small trace (before ++ event ∷ []) h rules next few) in
    omega (arith, more, apart, here, longer, held (omega (arith, few, longer))))
    history legal few

ends_few : (events : List Event) → total ends_in events ≤ length events
ends_few [] = omega arith
ends_few (Done pid op reply ∷ events) = omega (arith, ends_few events)
ends_few (Ended h objects bytes exits shares ∷ events) = omega (arith, ends_few events)
ends_few (Absorbed s ∷ events) = omega (arith, ends_few events)
ends_few (Closing ∷ events) = omega (arith, ends_few events)

pub few_credits : (trace : Trace) (history : List Event) → length (credits trace history) ≤ length history
few_credits trace history = omega (arith, ones (credits trace history), ends_are_credited trace history, ends_few history)

-- each end of a collection is in one row
pub ends_in_rows : (trace : Trace) (history : List Event) → AreLimits trace → IsLegalHistory trace history → (total_row (work_of trace history)).collections ≡ total ends_in history
ends_in_rows trace history limits legal =
    rows_collections (process_count trace) (credits trace history) (credits_among trace history limits legal) ∙ ends_are_credited trace history

pub work_in_rows : (trace : Trace) (history : List Event) → AreLimits trace → IsLegalHistory trace history → (total_row (work_of trace history)).work ≡ total (λ c. c.work) (credits trace history)
work_in_rows trace history limits legal = rows_work (process_count trace) (credits trace history) (credits_among trace history limits legal)

-- the table is small
pub table_small : (trace : Trace) (history : List Event) → AreSetupRules trace → IsLegalHistory trace history → length history < 2 ^ 29 → AreSmall (work_of trace history)
table_small trace history rules legal few =
    record {
      collections = omega (arith, ends_in_rows trace history rules.limits legal, ends_few history, few);
      work = omega (arith, work_in_rows trace history rules.limits legal, all_small trace history rules legal few, few);
    }
