-- How many exit items a heap has after an event.
use Rattle.std.proofs.Common.{ℕ, ◌+◌, ◌≤◌, Bool, true, false, cond, [], ◌∷◌, ◌++◌, Option, Some, None, arith, IsFalse, le_refl, zero-le}
use Rattle.k_types.specs.declared.names.Name.{Name}
use Rattle.k_types.specs.declared.names.Heap.{Heap}
use Rattle.k_types.specs.declared.names.Heap.TheVariants.{Kernel}
use Rattle.k_types.specs.declared.op.Op.{Op}
use Rattle.k_types.specs.declared.op.Op.TheVariants.{Store, Put, Freeze, Exit, Kill}
use Rattle.k_types.specs.Names.{heap_eq, among}
use Rattle.k_types.specs.Trace.{Trace}
use Rattle.k_types.specs.State.{State, ExitItem, has_exit, register}
use Rattle.k_types.specs.Owners.{owner_of, user}
use Rattle.k_types.specs.Updates.{set_register, create, write, add_exit, with_exit, open_scan, set_phase, add_share, keep_shares, clear_registers, end_process, turn_exits, set_max}
use Rattle.k_types.specs.Effects.{effect, after_store, after_put, with_exit_of_store, after_freeze, after_end_of, exit_after, passes_to_kernel, leads_back, after_kill}
use Rattle.k_laws.specs.Counts.{one_if, exit_count}
use Rattle.k_laws.proofs.Counting.{total_turned, option_count}
use Rattle.k_types.proofs.Sums.{total_push}

abbrev pub weight : Heap → ExitItem → ℕ
weight h e = one_if (heap_eq e.heap h)

-- the heap to whose object a store writes
abbrev pub writes_to : Trace → State → Heap → Option Name → ℕ
writes_to trace st h None = 0
writes_to trace st h (Some x) = one_if (heap_eq (owner_of trace st x.seg.0) h)

abbrev pub stores_to : Trace → State → Heap → ℕ → Op → ℕ
stores_to trace st h p (Store base i value) = writes_to trace st h (register st.registers p base.0)
stores_to trace st h p _ = 0

module _ (trace : Trace) (st : State) (h : Heap) where
  added : (g : Heap) (y : Name) → exit_count (with_exit g y st.exits) h ≤ exit_count st.exits h + one_if (heap_eq g h)
  added g y = elim (has_exit st.exits g y) as (λ b. exit_count (cond b st.exits (st.exits ++ record { heap = g; target = y } ∷ [])) h ≤ exit_count st.exits h + one_if (heap_eq g h)) [
    | true ↦ omega arith
    | false ↦ omega (arith, total_push (weight h) st.exits (record { heap = g; target = y }))
  ]

  linked : (x : Name) (v : Option Name) → exit_count (with_exit_of_store trace x v st).exits h ≤ exit_count st.exits h + one_if (heap_eq (owner_of trace st x.seg.0) h)
  unfolding with_exit_of_store add_exit
  linked x None = omega arith
  linked x (Some y) =
      elim (heap_eq (owner_of trace st x.seg.0) (owner_of trace st y.seg.0)) as (λ b. exit_count (cond b st (add_exit (owner_of trace st x.seg.0) y st)).exits h ≤ exit_count st.exits h + one_if (heap_eq (owner_of trace st x.seg.0) h)) [
        | true ↦ omega arith
        | false ↦ added (owner_of trace st x.seg.0) y
      ]

  stored : (b : Option Name) (i : ℕ) (v : Option Name) → exit_count (after_store trace b i v st).exits h ≤ exit_count st.exits h + writes_to trace st h b
  unfolding after_store write
  stored None i v = omega arith
  stored (Some x) i v = linked x v

  put : (b : Option Name) (i n : ℕ) → exit_count (after_put b i n st).exits h ≤ exit_count st.exits h
  unfolding after_put write
  put None i n = le_refl (exit_count st.exits h)
  put (Some x) i n = le_refl (exit_count st.exits h)

  frozen : (s : ℕ) (b : Option Name) → exit_count (after_freeze s b st).exits h ≤ exit_count st.exits h
  unfolding after_freeze set_phase
  frozen s None = le_refl (exit_count st.exits h)
  frozen s (Some x) = le_refl (exit_count st.exits h)

  turned : (p : ℕ) → IsFalse (heap_eq Kernel h) → (e : ExitItem) → option_count (weight h) (exit_after trace st p e) ≤ weight h e
  turned p apart e =
      cases (heap_eq e.heap (user p)) (passes_to_kernel trace st e.target) (leads_back trace st p e)
    where
      cases : (a b c : Bool) → option_count (weight h) (cond a (cond b (Some (record e { heap = Kernel })) None) (cond c None (Some e))) ≤ weight h e
      cases true true c = rw apart zero-le
      cases true false c = zero-le
      cases false b true = zero-le
      cases false b false = le_refl (weight h e)

  killed : (q : ℕ) → IsFalse (heap_eq Kernel h) → exit_count (after_kill trace q st).exits h ≤ exit_count st.exits h
  unfolding after_kill after_end_of end_process clear_registers keep_shares turn_exits
  killed q apart = elim (among q st.ended) as (λ b. exit_count (cond b st (after_end_of trace q st)).exits h ≤ exit_count st.exits h) [
    | true ↦ le_refl (exit_count st.exits h)
    | false ↦ total_turned (weight h) (weight h) (exit_after trace st q) (turned q apart) st.exits
  ]

  pub effect_exits : (p : ℕ) (op : Op) → IsFalse (heap_eq Kernel h) → exit_count (effect trace p op st).exits h ≤ exit_count st.exits h + stores_to trace st h p op
  unfolding effect set_register create open_scan add_share set_phase after_end_of end_process clear_registers keep_shares turn_exits set_max
  effect_exits p (Store base i value) apart = stored (register st.registers p base.0) i (register st.registers p value.0)
  effect_exits p (Put base i number) apart = omega (arith, put (register st.registers p base.0) i number)
  effect_exits p (Freeze s root) apart = omega (arith, frozen s.0 (register st.registers p root.0))
  effect_exits p Exit apart = omega (arith, total_turned (weight h) (weight h) (exit_after trace st p) (turned p apart) st.exits)
  effect_exits p (Kill q) apart = omega (arith, killed q.0 apart)
  effect_exits p _ apart = omega arith
