-- Sums over the processes of a trace, and over the first of them.
use Rattle.std.proofs.Common.{◌≡◌, ℕ, zero, suc, ◌+◌, ◌*◌, ◌<◌, ◌≤◌, refl, sym, ap, ◌∙◌, List, [], ◌∷◌, length, take, get_or, arith}
use Rattle.std.proofs.lemmas.List.{take_more}
use Rattle.k_types.specs.declared.op.Op.{Op}
use Rattle.k_types.specs.Numbers.{numbers_below, numbers_from}
use Rattle.k_types.specs.Totals.{total}
use Rattle.k_types.specs.Trace.{Trace, operations_of, process_count}
use Rattle.k_types.specs.TraceRules.{KeepsRules}
use Rattle.k_types.proofs.Sums.{total_push, total_at_most}
use Rattle.k_laws.specs.Counts.{stores_in}
use Rattle.k_laws.proofs.Counting.{count_low}
use Rattle.k_agree.specs.Rooms.{event_room, exit_room, over_processes}
use Rattle.k_laws.proofs.KnownCounted.{all_ordered}
use Rattle.k_types.proofs.Totals.{total_within}

shifted : (f : ℕ → ℕ) (first n : ℕ) → total f (numbers_from (suc first) n) ≡ total (λ p. f (suc p)) (numbers_from first n)
shifted f first zero = refl
shifted f first (suc n) = ap (λ m. f (suc first) + m) (shifted f (suc first) n)

rows : (g : List Op → ℕ) (xs : List (List Op)) → total (λ p. g (get_or xs p [])) (numbers_below (length xs)) ≡ total g xs
rows g [] = refl
rows g (x ∷ xs) = ap (λ m. g x + m) (shifted (λ p. g (get_or (x ∷ xs) p [])) 0 (length xs) ∙ rows g xs)

-- a sum over some of the first and one more is at most that over all
pub front_low : {A : Type 0} (f : A → ℕ) (xs : List A) (k : ℕ) (d : A) → k < length xs → total f (take k xs) + f (get_or xs k d) ≤ total f xs
front_low f [] k d inside = absurd (omega (arith, inside))
front_low f (x ∷ xs) zero d inside = omega arith
front_low f (x ∷ xs) (suc k) d inside = omega (arith, front_low f xs k d (omega (arith, inside)))

pub front_next : {A : Type 0} (f : A → ℕ) (xs : List A) (k : ℕ) (d : A) → k < length xs → total f (take (k + 1) xs) ≡ total f (take k xs) + f (get_or xs k d)
front_next f xs k d inside = ap (total f) (take_more xs k d inside) ∙ total_push f (take k xs) (get_or xs k d)

module _ (trace : Trace) (rules : KeepsRules trace) where
  pub over_lists : (g : List Op → ℕ) → over_processes trace (λ p. g (operations_of trace p)) ≡ total g trace.operations
  over_lists g = ap (λ n. total (λ p. g (operations_of trace p)) (numbers_below n)) (sym rules.operations.each) ∙ rows g trace.operations

  pub all_few : over_processes trace (λ p. length (operations_of trace p)) ≡ length trace.order
  all_few = all_ordered trace rules.operations

  pub event_room_is : event_room trace ≡ 2 * length trace.order + trace.shared_heaps + 2
  event_room_is = ap (λ n. 2 * n + trace.shared_heaps + 2) all_few

  stores_low : (ops : List Op) → stores_in ops ≤ length ops
  stores_low ops = count_low _ ops

  pub exit_room_low : exit_room trace ≤ 200000
  exit_room_low =
      let low = total_at_most (λ p. stores_in (operations_of trace p)) (λ p. length (operations_of trace p)) (λ p. stores_low (operations_of trace p)) (numbers_below (process_count trace)) in
      omega (arith, low, all_few, rules.operations.room)

  -- one process's operations
  pub own_few : (p : ℕ) → p < process_count trace → length (operations_of trace p) ≤ 200000
  own_few p known = omega (arith, total_within (λ q. length (operations_of trace q)) p (process_count trace) known, all_few, rules.operations.room)

  -- the stores of the first processes and of one more
  pub stores_next : (k : ℕ) (own : List Op) → k < length trace.operations → get_or trace.operations k [] ≡ own → total stores_in (take (k + 1) trace.operations) ≡ total stores_in (take k trace.operations) + stores_in own
  stores_next k own inside is = front_next stores_in trace.operations k [] inside ∙ ap (λ ops. total stores_in (take k trace.operations) + stores_in ops) is

  pub stores_few : (k : ℕ) (own : List Op) → k < length trace.operations → get_or trace.operations k [] ≡ own → total stores_in (take k trace.operations) + stores_in own ≤ 200000
  stores_few k own inside is =
      let e : stores_in (get_or trace.operations k []) ≡ stores_in own = ap stores_in is in
      omega (arith, front_low stores_in trace.operations k [] inside, e, over_lists stores_in, exit_room_low)
