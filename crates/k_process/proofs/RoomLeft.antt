-- An operation that comes next is one of the trace's that the history has not done.
use Rattle.std.proofs.Common.{◌≡◌, ℕ, ◌+◌, ◌<◌, ◌≤◌, ◌==◌, cond, Bool, true, false, refl, sym, ap, subst, List, [], ◌∷◌, ◌++◌, length, arith, get_or, eqb-true, inl, inr}
use Rattle.std.proofs.lemmas.Bool.{false≢true, or_cases, or_left, or_right}
use Rattle.std.specs.List.{list_any}
use Rattle.k_types.specs.declared.event.Event.{Event}
use Rattle.k_types.specs.declared.op.Op.{Op}
use Rattle.k_types.specs.Numbers.{numbers_below}
use Rattle.k_types.specs.Owners.{shared, user}
use Rattle.k_types.specs.Steps.{IsLegalHistory, done_by, state_after}
use Rattle.k_types.specs.Totals.{total}
use Rattle.k_types.specs.Trace.{Trace, operations_of, process_count}
use Rattle.k_types.specs.TraceRules.{AreLimits, KeepsRules}
use Rattle.k_types.proofs.Sums.{less_below, ones, one_counts, passing_within, sum-filter, sum_both, sum_same, total_append}
use Rattle.k_laws.specs.Counts.{allocates_in, exit_count, is_share_of, is_store, MadeBy, one_if, stores_in}
use Rattle.k_laws.proofs.AllExits.{exits_at_most_stores}
use Rattle.k_laws.proofs.ByProcess.{allocations_by_process, operations_by_process, prefix_less, stores_by_process}
use Rattle.k_laws.proofs.Dones.{length_at_most}
use Rattle.k_laws.proofs.ExitBounds.{user_exits}
use Rattle.k_laws.proofs.SerialBounds.{serials_at_most_allocations}
use Rattle.k_laws.proofs.SharedBounds.{shared_exits}
use Rattle.k_commit.specs.k_agree.Rooms.{AreFirst, IsNext, event_room, exit_room, over_processes, serial_room}
use Rattle.k_process.specs.Rooms.{HasRoomLeft, shared_exit_room}

module _ (trace : Trace) (history : List Event) (p : ℕ) (op : Op) (first : AreFirst trace history) (known : p < process_count trace) (next : IsNext trace p history op) where
  -- what is counted of the process's own operations with the next one
  own_more : (f : Op → ℕ) → total f (done_by p history) + f op ≤ total f (operations_of trace p)
  own_more f = subst (λ ops. total f (done_by p history) + f op ≤ total f ops) (sym next.1) (omega (arith, total_append f (done_by p history) (op ∷ next.0)))

  -- and of all processes' operations
  pub one_more : (count : ℕ → Op → ℕ) → over_processes trace (λ q. total (count q) (done_by q history)) + count p op ≤ over_processes trace (λ q. total (count q) (operations_of trace q))
  one_more count =
      let both = sum_both (λ q. total (count q) (done_by q history)) (λ q. cond (q == p) (count p op) 0) (numbers_below (process_count trace)) in
      let one = one_counts (λ q. count p op) p 0 (process_count trace) (omega arith) (omega (arith, known)) in
      let less = less_below (λ q. total (count q) (done_by q history) + cond (q == p) (count p op) 0) (λ q. total (count q) (operations_of trace q)) 0 (process_count trace) (λ q h. each q (omega (arith, h))) in
      omega (arith, both, one, less)
    where
      each_by : (q : ℕ) → q < process_count trace → (b : Bool) → (q == p) ≡ b → total (count q) (done_by q history) + cond b (count p op) 0 ≤ total (count q) (operations_of trace q)
      each_by q h true e =
          let is : p ≡ q = sym (eqb-true q p e) in
          subst (λ k. total (count k) (done_by k history) + count p op ≤ total (count k) (operations_of trace k)) is (own_more (count p))
      each_by q h false e = omega (arith, prefix_less (count q) _ _ (first q h))

      each : (q : ℕ) → q < process_count trace → total (count q) (done_by q history) + cond (q == p) (count p op) 0 ≤ total (count q) (operations_of trace q)
      each q h = each_by q h (q == p) refl

  module _ (keeps : KeepsRules trace) (legal : IsLegalHistory trace history) where
    events_left : length history + 1 < event_room trace
    events_left =
        let most = length_at_most trace keeps.limits history legal in
        let each = operations_by_process trace history legal in
        let more = one_more (λ q o. 1) in
        let done = sum_same (λ q. total (λ (o : Op). 1) (done_by q history)) (λ q. length (done_by q history)) (λ q. ones (done_by q history)) (numbers_below (process_count trace)) in
        let all = sum_same (λ q. total (λ (o : Op). 1) (operations_of trace q)) (λ q. length (operations_of trace q)) (λ q. ones (operations_of trace q)) (numbers_below (process_count trace)) in
        omega (arith, most, each, more, done, all)

    counts_one : (b : Bool) → b ≡ true → one_if b ≡ 1
    counts_one b e = ap one_if e

    exits_left : is_store op ≡ true → length (state_after trace history).exits < exit_room trace
    exits_left store =
        let most = exits_at_most_stores trace history in
        let each = stores_by_process trace history legal in
        let more = one_more (λ q o. one_if (is_store o)) in
        omega (arith, most, each, more, counts_one (is_store op) store)

    own_exits_left : is_store op ≡ true → exit_count (state_after trace history).exits (user p) < stores_in (operations_of trace p)
    own_exits_left store =
        let most = user_exits trace p history legal in
        let more = own_more (λ o. one_if (is_store o)) in
        omega (arith, most, more, counts_one (is_store op) store)

    serials_left : (seg : ℕ) → allocates_in trace seg p op ≡ true → get_or (state_after trace history).made seg 0 < serial_room trace seg
    serials_left seg allocates =
        let most = serials_at_most_allocations trace history seg in
        let each = allocations_by_process trace seg history legal in
        let more = one_more (λ q o. one_if (allocates_in trace seg q o)) in
        omega (arith, most, each, more, counts_one (allocates_in trace seg p op) allocates)

    pub room_left : HasRoomLeft trace history p op
    room_left = record { events = events_left; exits = exits_left; own_exits = own_exits_left; serials = serials_left }

share_more : (s : ℕ) (done rest : List Op) → list_any (is_share_of s) done ≡ true → list_any (is_share_of s) (done ++ rest) ≡ true
share_more s [] rest t = absurd (false≢true t)
share_more s (op ∷ done) rest t =
    elim (or_cases (is_share_of s op) (list_any (is_share_of s) done) t) [
      | inl here ↦ or_left _ _ here
      | inr there ↦ or_right (is_share_of s op) _ (share_more s done rest there)
    ]

-- the process may make the shared heap
abbrev may_make : Trace → ℕ → ℕ → Bool
may_make trace s q = list_any (is_share_of s) (operations_of trace q)

-- a shared heap has at most as many exit items as its maker has done stores
pub shared_room : (trace : Trace) (history : List Event) (s : ℕ) → AreLimits trace → IsLegalHistory trace history → AreFirst trace history →
    exit_count (state_after trace history).exits (shared s) < shared_exit_room trace s
shared_room trace history s limits legal first =
    elim (shared_exits trace s limits history legal) [ inl none ↦ omega (arith, none) | inr made ↦ by_maker made.0 made.1 ]
  where
    by_maker : (q : ℕ) → MadeBy trace s history (exit_count (state_after trace history).exits (shared s)) q → exit_count (state_after trace history).exits (shared s) < shared_exit_room trace s
    by_maker q made =
        let front = first q made.0 in
        let takes : may_make trace s q ≡ true = subst (λ ops. list_any (is_share_of s) ops ≡ true) front.1 (share_more s (done_by q history) front.0 made.1) in
        let fewer = prefix_less (λ op. one_if (is_store op)) (done_by q history) (operations_of trace q) front in
        let one = passing_within (λ p. stores_in (operations_of trace p)) (may_make trace s) q 0 (process_count trace) takes (omega arith) (omega (arith, made.0)) in
        let all = sum-filter (may_make trace s) (λ p. stores_in (operations_of trace p)) (numbers_below (process_count trace)) in
        omega (arith, made.2, fewer, one, all)
