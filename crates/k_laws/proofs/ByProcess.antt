-- What a history counts, process by process.
use Rattle.std.proofs.Common.{◌≡◌, ℕ, ◌+◌, ◌≤◌, ◌==◌, Bool, true, false, cond, refl, sym, ap, ◌∙◌, List, [], ◌∷◌, ◌++◌, length, arith, subst, zero, suc, take, drop, get_or, ap₂}
use Rattle.std.proofs.lemmas.Bool.{false≢true}
use Rattle.std.proofs.lemmas.Bool.Decides.{nat_tests}
use Rattle.k_types.specs.declared.op.Op.{Op}
use Rattle.k_types.specs.declared.event.Event.{Event}
use Rattle.k_types.specs.declared.event.Event.TheVariants.{Done, Ended, Absorbed, Closing}
use Rattle.k_types.specs.Totals.{total}
use Rattle.k_types.specs.Numbers.{numbers_below}
use Rattle.k_types.specs.Trace.{Trace, process_count, operations_of}
use Rattle.k_types.specs.State.{State, opening}
use Rattle.k_types.specs.Effects.{step}
use Rattle.k_types.specs.Steps.{IsRun, IsLegalHistory, done_by, state_after}
use Rattle.k_types.specs.Complete.{IsPrefixOf}
use Rattle.k_types.specs.Following.{FollowsOwn}
use Rattle.k_laws.specs.Counts.{one_if, of_operation, is_store, store_count, stores_by, operation_count, allocation_count, allocates_in, has_stored, has_allocated_in, is_operation}
use Rattle.k_laws.proofs.Dones.{done_count}
use Rattle.k_types.proofs.Sums.{sum_same, sum_both, one_counts, total_append, zeros, ones}

-- of the first elements no more is counted than of all
pub prefix_less : {A : Type 0} (f : A → ℕ) (xs ys : List A) → IsPrefixOf xs ys → total f xs ≤ total f ys
prefix_less f xs ys p = subst (λ zs. total f xs ≤ total f zs) p.1 (omega (arith, total_append f xs p.0))

module _ (trace : Trace) (f : ℕ → Op → ℕ) where
  -- what the operations of all processes count
  abbrev each : List Event → ℕ
  each history = total (λ p. total (f p) (done_by p history)) (numbers_below (process_count trace))

  one_more : (q : ℕ) (op : Op) (p : ℕ) (rest : List Op) → total (f p) (cond (q == p) (op ∷ rest) rest) ≡ cond (p == q) (f p op) 0 + total (f p) rest
  one_more q op p rest =
      turned (q == p) (p == q) (same q p)
    where
      same : (a b : ℕ) → (a == b) ≡ (b == a)
      same a b = grind (arith, nat_tests)

      turned : (b c : Bool) → b ≡ c → total (f p) (cond b (op ∷ rest) rest) ≡ cond c (f p op) 0 + total (f p) rest
      turned true true e = refl
      turned false false e = omega arith
      turned true false e = absurd (false≢true (sym e))
      turned false true e = absurd (false≢true e)

  pub by_process : (st : State) (history : List Event) → IsRun trace st history → total (of_operation f) history ≡ each history
  by_process st [] legal = sym (zeros (numbers_below (process_count trace)))
  by_process st (Done pid op said ∷ history) legal =
      let rest = by_process (step trace st (Done pid op said)) history legal.1 in
      let split = sum_same (λ p. total (f p) (done_by p (Done pid op said ∷ history))) (λ p. cond (p == pid.0) (f p op) 0 + total (f p) (done_by p history)) (λ p. one_more pid.0 op p (done_by p history)) (numbers_below (process_count trace))
      ∙ sum_both (λ p. cond (p == pid.0) (f p op) 0) (λ p. total (f p) (done_by p history)) (numbers_below (process_count trace)) in
      let one = one_counts (λ p. f p op) pid.0 0 (process_count trace) (omega arith) (omega (arith, legal.0.known)) in
      omega (arith, rest, split, one)
  by_process st (Ended h a b c d ∷ history) legal = omega (arith, by_process (step trace st (Ended h a b c d)) history legal.1)
  by_process st (Absorbed s ∷ history) legal = omega (arith, by_process (step trace st (Absorbed s)) history legal.1)
  by_process st (Closing ∷ history) legal = omega (arith, by_process (step trace st Closing) history legal.1)

same_store : (event : Event) → one_if (has_stored event) ≡ of_operation (λ p op. one_if (is_store op)) event
same_store (Done pid op said) = refl
same_store (Ended h a b c d) = refl
same_store (Absorbed s) = refl
same_store Closing = refl

same_operation : (event : Event) → one_if (is_operation event) ≡ of_operation (λ p op. 1) event
same_operation (Done pid op said) = refl
same_operation (Ended h a b c d) = refl
same_operation (Absorbed s) = refl
same_operation Closing = refl

same_allocation : (trace : Trace) (seg : ℕ) (event : Event) → one_if (has_allocated_in trace seg event) ≡ of_operation (λ p op. one_if (allocates_in trace seg p op)) event
same_allocation trace seg (Done pid op said) = refl
same_allocation trace seg (Ended h a b c d) = refl
same_allocation trace seg (Absorbed s) = refl
same_allocation trace seg Closing = refl

pub stores_by_process : (trace : Trace) (history : List Event) → IsLegalHistory trace history → store_count history ≡ total (λ p. stores_by p history) (numbers_below (process_count trace))
stores_by_process trace history legal =
    sum_same (λ event. one_if (has_stored event)) (of_operation (λ p op. one_if (is_store op))) same_store history ∙ by_process trace (λ p op. one_if (is_store op)) (opening trace) history legal

pub operations_by_process : (trace : Trace) (history : List Event) → IsLegalHistory trace history → operation_count history ≡ total (λ p. length (done_by p history)) (numbers_below (process_count trace))
operations_by_process trace history legal =
    sum_same (λ event. one_if (is_operation event)) (of_operation (λ p op. 1)) same_operation history ∙ by_process trace (λ p op. 1) (opening trace) history legal
    ∙ sum_same (λ p. total (λ op. 1) (done_by p history)) (λ p. length (done_by p history)) (λ p. ones (done_by p history)) (numbers_below (process_count trace))

pub allocations_by_process : (trace : Trace) (seg : ℕ) (history : List Event) → IsLegalHistory trace history →
    allocation_count trace seg history ≡ total (λ p. total (λ op. one_if (allocates_in trace seg p op)) (done_by p history)) (numbers_below (process_count trace))
allocations_by_process trace seg history legal =
    sum_same (λ event. one_if (has_allocated_in trace seg event)) (of_operation (λ p op. one_if (allocates_in trace seg p op))) (same_allocation trace seg) history
    ∙ by_process trace (λ p op. one_if (allocates_in trace seg p op)) (opening trace) history legal

taken : {A : Type 0} (xs rest : List A) → take (length xs) (xs ++ rest) ≡ xs
taken [] rest = take_none rest
  where
    take_none : {A : Type 0} (rest : List A) → take 0 rest ≡ []
    take_none [] = refl
    take_none (x ∷ rest) = refl
taken (x ∷ xs) rest = ap (λ ys. x ∷ ys) (taken xs rest)

-- the operations of a process that stand first in the trace are those up to done
pub follows_own : (trace : Trace) (p : ℕ) (history : List Event) → IsLegalHistory trace history → IsPrefixOf (done_by p history) (operations_of trace p) → FollowsOwn trace p history
follows_own trace p history legal front =
    sym (ap₂ (λ n ops. take n ops) (done_count trace p history legal) (sym front.1) ∙ taken (done_by p history) front.0)

pub first_of : (trace : Trace) (p : ℕ) (history : List Event) → FollowsOwn trace p history → IsPrefixOf (done_by p history) (operations_of trace p)
first_of trace p history own = (
  drop (get_or (state_after trace history).done p 0) (operations_of trace p),
  ap (λ ops. ops ++ drop (get_or (state_after trace history).done p 0) (operations_of trace p)) own ∙ take_drop (get_or (state_after trace history).done p 0) (operations_of trace p),
)
  where
    take_drop : {A : Type 0} (n : ℕ) (xs : List A) → take n xs ++ drop n xs ≡ xs
    take_drop zero [] = refl
    take_drop zero (x ∷ xs) = refl
    take_drop (suc n) [] = refl
    take_drop (suc n) (x ∷ xs) = ap (λ ys. x ∷ ys) (take_drop n xs)
