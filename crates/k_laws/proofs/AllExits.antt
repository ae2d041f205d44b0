-- No history has more exit items than stores.
use Rattle.std.proofs.Common.{◌≡◌, ℕ, ◌+◌, ◌≤◌, Bool, true, false, cond, refl, List, [], ◌∷◌, ◌++◌, length, Option, Some, None, arith, le_refl, zero-le}
use Rattle.k_types.specs.declared.names.Name.{Name}
use Rattle.k_types.specs.declared.names.Heap.{Heap}
use Rattle.k_types.specs.declared.names.Heap.TheVariants.{Kernel, Shared, User}
use Rattle.k_types.specs.declared.op.Op.{Op}
use Rattle.k_types.specs.declared.op.Op.TheVariants.{Store, Put, Freeze, Exit, Kill}
use Rattle.k_types.specs.declared.event.Fault.{Fault}
use Rattle.k_types.specs.declared.event.Event.{Event}
use Rattle.k_types.specs.declared.event.Event.TheVariants.{Done, Ended, Absorbed, Closing}
use Rattle.k_types.specs.Names.{heap_eq, among}
use Rattle.k_types.specs.Totals.{total}
use Rattle.k_types.specs.Trace.{Trace}
use Rattle.k_types.specs.State.{State, ExitItem, opening, has_exit, register}
use Rattle.k_types.specs.Owners.{owner_of, user}
use Rattle.k_types.specs.Replies.{first_fault, faults}
use Rattle.k_types.specs.Updates.{count_done, set_register, create, write, add_exit, with_exit, open_scan, set_phase, add_share, keep_objects, keep_exits, keep_shares, close_scan, clear_registers, end_process, turn_exits, close, set_max}
use Rattle.k_types.specs.Effects.{step, effect, effect_unless, after_operation, after_store, after_put, with_exit_of_store, after_freeze, after_end_of, exit_after, passes_to_kernel, leads_back, after_ended, after_absorbed, after_closing, exit_stays, stays_after_absorb, after_kill}
use Rattle.k_types.specs.Steps.{run, state_after}
use Rattle.k_laws.specs.Counts.{one_if, is_store, has_stored, store_count, exit_count}
use Rattle.k_laws.proofs.Counting.{total_turned, total_fewer, option_count, one_if_low}
use Rattle.k_types.proofs.Sums.{total_push, ones, sum_both, total_at_most}

-- each exit item counts
abbrev one : ExitItem → ℕ
one e = 1

count_is_length : (xs : List ExitItem) → total one xs ≡ length xs
count_is_length [] = refl
count_is_length (x ∷ xs) = omega (arith, count_is_length xs)

module _ (trace : Trace) where
  added : (g : Heap) (y : Name) (xs : List ExitItem) → total one (with_exit g y xs) ≤ total one xs + 1
  added g y xs = elim (has_exit xs g y) as (λ b. total one (cond b xs (xs ++ record { heap = g; target = y } ∷ [])) ≤ total one xs + 1) [
    | true ↦ omega arith
    | false ↦ omega (arith, total_push one xs (record { heap = g; target = y }))
  ]

  linked : (st : State) (x : Name) (v : Option Name) → total one (with_exit_of_store trace x v st).exits ≤ total one st.exits + 1
  unfolding with_exit_of_store add_exit
  linked st x None = omega arith
  linked st x (Some y) =
      elim (heap_eq (owner_of trace st x.seg.0) (owner_of trace st y.seg.0)) as (λ b. total one (cond b st (add_exit (owner_of trace st x.seg.0) y st)).exits ≤ total one st.exits + 1) [
        | true ↦ omega arith
        | false ↦ added (owner_of trace st x.seg.0) y st.exits
      ]

  stored : (st : State) (b : Option Name) (i : ℕ) (v : Option Name) → total one (after_store trace b i v st).exits ≤ total one st.exits + 1
  unfolding after_store write
  stored st None i v = omega arith
  stored st (Some x) i v = linked st x v

  put : (st : State) (b : Option Name) (i n : ℕ) → total one (after_put b i n st).exits ≤ total one st.exits
  unfolding after_put write
  put st None i n = le_refl (total one st.exits)
  put st (Some x) i n = le_refl (total one st.exits)

  frozen : (st : State) (s : ℕ) (b : Option Name) → total one (after_freeze s b st).exits ≤ total one st.exits
  unfolding after_freeze set_phase
  frozen st s None = le_refl (total one st.exits)
  frozen st s (Some x) = le_refl (total one st.exits)

  turned : (st : State) (p : ℕ) (e : ExitItem) → option_count one (exit_after trace st p e) ≤ one e
  turned st p e = cases (heap_eq e.heap (user p)) (passes_to_kernel trace st e.target) (leads_back trace st p e)
    where
      cases : (a b c : Bool) → option_count one (cond a (cond b (Some (record e { heap = Kernel })) None) (cond c None (Some e))) ≤ 1
      cases true true c = omega arith
      cases true false c = zero-le
      cases false b true = zero-le
      cases false b false = omega arith

  killed : (st : State) (q : ℕ) → total one (after_kill trace q st).exits ≤ total one st.exits
  unfolding after_kill after_end_of end_process clear_registers keep_shares turn_exits
  killed st q = elim (among q st.ended) as (λ b. total one (cond b st (after_end_of trace q st)).exits ≤ total one st.exits) [
    | true ↦ le_refl (total one st.exits)
    | false ↦ total_turned one one (exit_after trace st q) (turned st q) st.exits
  ]

  effect_exits : (st : State) (p : ℕ) (op : Op) → total one (effect trace p op st).exits ≤ total one st.exits + one_if (is_store op)
  unfolding effect set_register create open_scan add_share set_phase after_end_of end_process clear_registers keep_shares turn_exits set_max
  effect_exits st p (Store base i value) = stored st (register st.registers p base.0) i (register st.registers p value.0)
  effect_exits st p (Put base i number) = omega (arith, put st (register st.registers p base.0) i number)
  effect_exits st p (Freeze s root) = omega (arith, frozen st s.0 (register st.registers p root.0))
  effect_exits st p Exit = omega (arith, total_turned one one (exit_after trace st p) (turned st p) st.exits)
  effect_exits st p (Kill q) = omega (arith, killed st q.0)
  effect_exits st p _ = omega arith

  unless_exits : (f : Option Fault) (st : State) (p : ℕ) (op : Op) → total one (effect_unless f trace p op st).exits ≤ total one st.exits + one_if (is_store op)
  unless_exits None st p op = effect_exits st p op
  unless_exits (Some f) st p op = omega arith

  step_exits : (st : State) (event : Event) → total one (step trace st event).exits ≤ total one st.exits + one_if (has_stored event)
  unfolding step after_operation count_done after_ended after_absorbed after_closing close_scan keep_shares keep_exits keep_objects close set_phase open_scan
  step_exits st (Done pid op said) = unless_exits (first_fault (faults trace st pid.0 op)) st pid.0 op
  step_exits st (Ended h a b c d) = omega (arith, total_fewer one (exit_stays trace st h) st.exits)
  step_exits st (Absorbed s) = omega (arith, total_fewer one (stays_after_absorb trace st s.0) st.exits)
  step_exits st Closing = omega arith

  run_exits : (st : State) (events : List Event) → total one (run trace st events).exits ≤ total one st.exits + store_count events
  run_exits st [] = omega arith
  run_exits st (event ∷ events) = omega (arith, run_exits (step trace st event) events, step_exits st event)

pub exits_at_most_stores : (trace : Trace) (history : List Event) → length (state_after trace history).exits ≤ store_count history
exits_at_most_stores trace history =
    let bound = run_exits trace (opening trace) history in
    omega (arith, bound, count_is_length (state_after trace history).exits)

-- an exit item is of one heap
pub one_heap : (h : Heap) (q : ℕ) → one_if (heap_eq h (user q)) + one_if (heap_eq h Kernel) ≤ 1
one_heap Kernel q = omega arith
one_heap (User r) q = omega (arith, one_if_low (heap_eq (User r) (user q)))
one_heap (Shared s) q = omega arith

-- the exit items of a process's heap and of the kernel's are among all
pub exits_together : (exits : List ExitItem) (q : ℕ) → exit_count exits (user q) + exit_count exits Kernel ≤ length exits
exits_together exits q =
    let both = sum_both (λ (e : ExitItem). one_if (heap_eq e.heap (user q))) (λ (e : ExitItem). one_if (heap_eq e.heap Kernel)) exits in
    let most = total_at_most (λ (e : ExitItem). one_if (heap_eq e.heap (user q)) + one_if (heap_eq e.heap Kernel)) (λ (e : ExitItem). 1) (λ (e : ExitItem). one_heap e.heap q) exits in
    let all = ones exits in
    omega (arith, both, most, all)
