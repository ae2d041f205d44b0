-- A history that does first operations of a trace does no more than the trace has, and each is spelled as in a line.
use Rattle.std.proofs.Common.{◌≡◌, ℕ, suc, ◌+◌, ◌<◌, ◌≤◌, ◌==◌, nat_lt, Bool, true, false, cond, refl, sym, subst, ap, ◌∙◌, inl, inr, List, [], ◌∷◌, ◌++◌, length, get_or, arith, eq-eqb, ne_eqb, ltb-true, IsTrue}
use Rattle.std.specs.List.{AllByRecursion, list_all}
use Rattle.std.proofs.lemmas.Bool.{and_from, and_parts, cases_eq}
use Rattle.std.proofs.lemmas.List.{length-append}
use Rattle.k_types.specs.declared.event.Event.{Event}
use Rattle.k_types.specs.declared.event.Event.TheVariants.{Done, Ended, Absorbed, Closing}
use Rattle.k_types.specs.Bounds.{most_operations}
use Rattle.k_types.specs.Numbers.{numbers_below}
use Rattle.k_types.specs.Totals.{total}
use Rattle.k_types.specs.Trace.{Trace, operations_of, process_count}
use Rattle.k_types.specs.TraceRules.{AreOperations, is_spelled}
use Rattle.k_types.specs.State.{State, opening}
use Rattle.k_types.specs.Effects.{step}
use Rattle.k_types.specs.Steps.{IsLegalHistory, IsRun, done_by, state_after}
use Rattle.k_types.proofs.Numbered.{occurrences, occurrences_count}
use Rattle.k_types.proofs.Sums.{one_counts, sum_both, sum_same, zeros, same_below, less_below}
use Rattle.k_laws.specs.Counts.{allocation_count, has_allocated_in, is_operation, one_if, operation_count}
use Rattle.k_laws.proofs.ByProcess.{operations_by_process}
use Rattle.k_laws.proofs.Counting.{one_if_low}
use Rattle.k_laws.proofs.SerialBounds.{serials_at_most_allocations}
use Rattle.k_laws.specs.Fits.{DoesOperationsOf, IsSpelledEvent}

-- each number of a list is counted once where all are below the bound
counted_once : (n : ℕ) (qs : List ℕ) → IsTrue (list_all (λ q. nat_lt q n) qs) → total (λ p. occurrences p qs) (numbers_below n) ≡ length qs
counted_once n [] all = zeros (numbers_below n)
counted_once n (q ∷ qs) all =
    let parts = and_parts (nat_lt q n) (list_all (λ q. nat_lt q n) qs) all in
    sum_same (λ p. occurrences p (q ∷ qs)) (λ p. cond (p == q) 1 0 + occurrences p qs) (λ p. once p) (numbers_below n)
    ∙ sum_both (λ p. cond (p == q) 1 0) (λ p. occurrences p qs) (numbers_below n)
    ∙ ap (λ k. k + total (λ p. occurrences p qs) (numbers_below n)) (one_counts (λ c. 1) q 0 n (omega arith) (omega (arith, ltb-true q n parts.0)))
    ∙ one_more (counted_once n qs parts.1)
  where
    one_more : {k l : ℕ} → k ≡ l → 1 + k ≡ suc l
    one_more e = omega (arith, e)

    once : (p : ℕ) → occurrences p (q ∷ qs) ≡ cond (p == q) 1 0 + occurrences p qs
    once p = elim (cases_eq p q) [
      | inl same ↦ rw (eq-eqb p q same, eq-eqb q p (sym same)) (omega arith)
      | inr apart ↦ rw (ne_eqb p q apart, ne_eqb q p (λ e. apart (sym e))) (omega arith)
    ]

pub all_ordered : (trace : Trace) → AreOperations trace → total (λ p. length (operations_of trace p)) (numbers_below (process_count trace)) ≡ length trace.order
all_ordered trace rules =
    same_below (λ p. length (operations_of trace p)) (λ p. occurrences p trace.order) 0 (process_count trace)
    (λ p inside. sym (occurrences_count p trace.order ∙ rules.counted p (omega (arith, inside))))
    ∙ counted_once (process_count trace) trace.order rules.ordered

pub operations_bounded : (trace : Trace) (history : List Event) → AreOperations trace → IsLegalHistory trace history → DoesOperationsOf trace history → operation_count history ≤ length trace.order
operations_bounded trace history rules legal does =
    omega (
      arith,
      operations_by_process trace history legal,
      all_ordered trace rules,
      less_below (λ p. length (done_by p history)) (λ p. length (operations_of trace p)) 0 (process_count trace) (λ p inside. fewer p (omega (arith, inside))),
    )
  where
    fewer : (p : ℕ) → p < process_count trace → length (done_by p history) ≤ length (operations_of trace p)
    fewer p inside = let first = does p inside in omega (arith, length-append (done_by p history) first.0, ap length first.1)

allocations_low : (trace : Trace) (seg : ℕ) (history : List Event) → allocation_count trace seg history ≤ operation_count history
allocations_low trace seg [] = omega arith
allocations_low trace seg (event ∷ events) = omega (arith, one event, allocations_low trace seg events)
  where
    one : (event : Event) → one_if (has_allocated_in trace seg event) ≤ one_if (is_operation event)
    one (Done pid op said) = one_if_low _
    one (Ended h a b c d) = omega arith
    one (Absorbed s) = omega arith
    one Closing = omega arith

pub serials_bounded : (trace : Trace) (history : List Event) (seg : ℕ) → AreOperations trace → IsLegalHistory trace history → DoesOperationsOf trace history → get_or (state_after trace history).made seg 0 ≤ 1 + most_operations
serials_bounded trace history seg rules legal does =
    omega (arith, serials_at_most_allocations trace history seg, one_if_low (seg == 0), allocations_low trace seg history, operations_bounded trace history rules legal does, rules.room)

all_front : {A : Type 0} (test : A → Bool) (xs ys : List A) → IsTrue (list_all test (xs ++ ys)) → IsTrue (list_all test xs)
all_front test [] ys all = refl
all_front test (x ∷ xs) ys all =
    let parts = and_parts (test x) (list_all test (xs ++ ys)) all in
    and_from (test x) (list_all test xs) parts.0 (all_front test xs ys parts.1)

-- a run whose operations pass a test, process by process, has events that do
spelled_run : (trace : Trace) (st : State) (events : List Event) → IsRun trace st events → ((p : ℕ) → p < process_count trace → IsTrue (list_all is_spelled (done_by p events))) → AllByRecursion IsSpelledEvent events
spelled_run trace st [] legal all = tt
spelled_run trace st (Done pid op said ∷ events) legal all =
    ((and_parts (is_spelled op) (list_all is_spelled (done_by pid.0 events)) own).0, spelled_run trace (step trace st (Done pid op said)) events legal.1 (λ p inside. later p (pid.0 == p) (all p inside)))
  where
    own : IsTrue (list_all is_spelled (op ∷ done_by pid.0 events))
    own = ap (λ b. list_all is_spelled (cond b (op ∷ done_by pid.0 events) (done_by pid.0 events))) (sym (eq-eqb pid.0 pid.0 refl)) ∙ all pid.0 legal.0.known

    later : (p : ℕ) (b : Bool) → IsTrue (list_all is_spelled (cond b (op ∷ done_by p events) (done_by p events))) → IsTrue (list_all is_spelled (done_by p events))
    later p true t = (and_parts (is_spelled op) (list_all is_spelled (done_by p events)) t).1
    later p false t = t
spelled_run trace st (Ended h a b c d ∷ events) legal all = (tt, spelled_run trace (step trace st (Ended h a b c d)) events legal.1 all)
spelled_run trace st (Absorbed s ∷ events) legal all = (tt, spelled_run trace (step trace st (Absorbed s)) events legal.1 all)
spelled_run trace st (Closing ∷ events) legal all = (tt, spelled_run trace (step trace st Closing) events legal.1 all)

pub spelled_history : (trace : Trace) (history : List Event) → AreOperations trace → IsLegalHistory trace history → DoesOperationsOf trace history → AllByRecursion IsSpelledEvent history
spelled_history trace history rules legal does =
    spelled_run trace (opening trace) history legal
    (λ p inside. let first = does p inside in all_front is_spelled (done_by p history) first.0 (subst (λ ops. IsTrue (list_all is_spelled ops)) (sym first.1) (rules.spelled p inside)))
