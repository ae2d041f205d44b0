-- The charges of all processes have a small sum.
use Rattle.std.proofs.Common.{ℕ, zero, suc, ◌+◌, ◌*◌, ◌<◌, ◌≤◌, ◌^◌, List, arith}
use Rattle.k_types.specs.declared.event.Event.{Event}
use Rattle.k_types.specs.Numbers.{numbers_from}
use Rattle.k_types.specs.Owners.{charge_of}
use Rattle.k_types.specs.Steps.{IsLegalHistory, state_after}
use Rattle.k_types.specs.Totals.{total}
use Rattle.k_types.specs.Trace.{Trace, process_count}
use Rattle.k_types.specs.TraceRules.{KeepsRules}
use Rattle.k_solo.proofs.Known.{charge_small}
use Rattle.k_big.specs.Summary.{HasSmallCharges}

sum_small : (f : ℕ → ℕ) (most first n : ℕ) → ((p : ℕ) → p < first + n → f p ≤ most) → total f (numbers_from first n) ≤ n * most
sum_small f most first zero small = omega arith
sum_small f most first (suc n) small =
    let here = small first (omega arith) in
    let rest = sum_small f most (suc first) n (λ p low. small p (omega (arith, low))) in
    omega (arith, here, rest)

pub charges_small : (trace : Trace) (history : List Event) → KeepsRules trace → IsLegalHistory trace history → HasSmallCharges trace (state_after trace history)
charges_small trace history rules legal =
    let sum = sum_small (charge_of trace (state_after trace history)) (2 ^ 40) 0 (process_count trace)
    (λ p low. let one = charge_small trace history p rules legal (omega (arith, low)) in omega (arith, one)) in
    let few = rules.processes in
    omega (arith, sum, few)
