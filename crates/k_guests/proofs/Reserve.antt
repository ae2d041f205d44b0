-- The exit items of the kernel's heap, and those that are kept back for the ends of processes, after an event.
use Rattle.std.proofs.Common.{◌≡◌, ℕ, ◌+◌, ◌*◌, ◌<◌, ◌≤◌, ◌==◌, ◌||◌, Bool, true, false, cond, refl, sym, ap, ap₂, ◌∙◌, subst, inl, inr, List, [], ◌∷◌, ◌++◌, Option, Some, None, arith, eq-eqb, eqb-true, ne_eqb, zero-le, IsTrue, IsFalse}
use Rattle.std.proofs.lemmas.Bool.{cases_Bool, cases_eq, false≢true, ltb-true}
use Rattle.std.proofs.lemmas.List.Folds.{list_any-append}
use Rattle.std.specs.List.{list_any}
use Rattle.k_types.specs.declared.names.Name.{Name}
use Rattle.k_types.specs.declared.names.Heap.{Heap}
use Rattle.k_types.specs.declared.names.Heap.TheVariants.{Kernel, Shared, User}
use Rattle.k_types.specs.declared.names.Pid.{Pid}
use Rattle.k_types.specs.declared.names.Reg.{Reg}
use Rattle.k_types.specs.declared.op.Op.{Op}
use Rattle.k_types.specs.declared.op.Op.TheVariants.{Store, Put, Freeze, Exit, Kill}
use Rattle.k_types.specs.declared.event.Fault.{Fault}
use Rattle.k_types.specs.declared.event.Reply.{Reply}
use Rattle.k_types.specs.declared.event.Event.{Event}
use Rattle.k_types.specs.declared.event.Event.TheVariants.{Done, Ended, Absorbed, Closing}
use Rattle.k_types.specs.Agree.{BookValue, CellValue}
use Rattle.k_types.specs.Local.{AreLocal, is_local, is_local_store}
use Rattle.k_types.specs.Cells.{access_cell, base_cell, cells_touched, other_cells, touches}
use Rattle.k_types.specs.Names.{heap_eq, among}
use Rattle.k_types.specs.Numbers.{numbers_below}
use Rattle.k_types.specs.Trace.{Trace, process_count}
use Rattle.k_types.specs.State.{State, ExitItem, has_exit, opening, register}
use Rattle.k_types.specs.Owners.{owner_of, user}
use Rattle.k_types.specs.Replies.{first_fault, faults}
use Rattle.k_types.specs.Updates.{count_done, set_register, create, write, add_exit, with_exit, open_scan, set_phase, add_share, keep_objects, keep_exits, keep_shares, close_scan, clear_registers, end_process, turn_exits, close, set_max}
use Rattle.k_types.specs.Effects.{step, effect, effect_unless, after_operation, after_store, after_put, with_exit_of_store, after_freeze, after_end_of, exit_after, passes_to_kernel, leads_back, after_ended, after_absorbed, after_closing, exit_stays, stays_after_absorb, after_kill}
use Rattle.k_types.specs.Steps.{IsPossible, IsRun, in_range, run, state_after}
use Rattle.k_laws.specs.Counts.{one_if, exit_count}
use Rattle.k_laws.proofs.Counting.{total_turned, total_fewer, option_count}
use Rattle.k_laws.proofs.ExitCounts.{weight, writes_to}
use Rattle.k_laws.proofs.Histories.{legal_rest, run_append, state_next}
use Rattle.k_laws.proofs.Tails.{local_touches}
use Rattle.k_types.proofs.Sums.{one_counts, sum_both, sum_same, total_push}
use Rattle.k_shares.specs.Sharers.{living_of}
use Rattle.k_tie.specs.Values.{JournalValue, NoteValue}
use Rattle.k_agree.specs.Agreement.{Agrees, BookAgrees}
use Rattle.k_agree.specs.Meeting.{Fits}
use Rattle.k_agree.proofs.Meetings.{meeting}
use Rattle.k_guests.specs.Reserve.{Spares, SparesByOp, kept_for}

more : (a b c : ℕ) → a ≤ b → a + c ≤ b + c
more a b c less = omega (arith, less)

-- what is kept back for one makes up for its own
made_up : (a b own each l m all : ℕ) → a ≤ b + own → own ≤ each → m ≡ l + 1 → b + each * m ≤ all → a + each * l ≤ all
made_up a b own each l m all more few one kept =
    let spread : each * m ≡ each * l + each = ap (λ n. each * n) one ∙ omega arith in
    omega (arith, more, few, spread, kept)

-- one process more has ended
among_more : (q p : ℕ) (ended : List ℕ) → among q (ended ++ p ∷ []) ≡ (among q ended || (p == q))
among_more q p ended = list_any-append (λ m. m == q) ended (p ∷ []) ∙ ap (λ b. among q ended || b) (or_none (p == q))
  where
    or_none : (b : Bool) → (b || false) ≡ b
    or_none true = refl
    or_none false = refl

counts_less : (old same : Bool) → (IsTrue same → IsFalse old) → cond old 0 1 ≡ cond (old || same) 0 1 + cond same 1 0
counts_less true true lives = absurd (false≢true (sym (lives refl)))
counts_less true false lives = refl
counts_less false true lives = refl
counts_less false false lives = refl

pub one_fewer : (ended : List ℕ) (p n : ℕ) → IsFalse (among p ended) → p < n → living_of ended n ≡ living_of (ended ++ p ∷ []) n + 1
one_fewer ended p n lives inside =
    sum_same (λ q. cond (among q ended) 0 1) (λ q. cond (among q (ended ++ p ∷ [])) 0 1 + cond (q == p) 1 0) each (numbers_below n)
    ∙ sum_both (λ q. cond (among q (ended ++ p ∷ [])) 0 1) (λ q. cond (q == p) 1 0) (numbers_below n)
    ∙ ap (λ k. living_of (ended ++ p ∷ []) n + k) (one_counts (λ q. 1) p 0 n zero-le (omega (arith, inside)))
  where
    turned : (a b : ℕ) → (a == b) ≡ (b == a)
    turned a b = elim (cases_eq a b) [
      | inl same ↦ eq-eqb a b same ∙ sym (eq-eqb b a (sym same))
      | inr apart ↦ ne_eqb a b apart ∙ sym (ne_eqb b a (λ e. apart (sym e)))
    ]

    each : (q : ℕ) → cond (among q ended) 0 1 ≡ cond (among q (ended ++ p ∷ [])) 0 1 + cond (q == p) 1 0
    each q =
        counts_less (among q ended) (p == q) (λ e. ap (λ r. among r ended) (sym (eqb-true p q e)) ∙ lives)
        ∙ ap₂ (λ b e. cond b 0 1 + cond e 1 0) (sym (among_more q p ended)) (turned p q)

module _ (trace : Trace) (st : State) where
  abbrev now : ℕ
  now = exit_count st.exits Kernel

  -- a store adds at most one, and none where it writes to no object of the kernel's heap
  added : (g : Heap) (y : Name) → exit_count (with_exit g y st.exits) Kernel ≤ now + one_if (heap_eq g Kernel)
  added g y = elim (has_exit st.exits g y) as (λ b. exit_count (cond b st.exits (st.exits ++ record { heap = g; target = y } ∷ [])) Kernel ≤ now + one_if (heap_eq g Kernel)) [
    | true ↦ omega arith
    | false ↦ omega (arith, total_push (weight Kernel) st.exits (record { heap = g; target = y }))
  ]

  linked : (x : Name) (v : Option Name) → exit_count (with_exit_of_store trace x v st).exits Kernel ≤ now + one_if (heap_eq (owner_of trace st x.seg.0) Kernel)
  unfolding with_exit_of_store add_exit
  linked x None = omega arith
  linked x (Some y) =
      elim (heap_eq (owner_of trace st x.seg.0) (owner_of trace st y.seg.0)) as (λ b. exit_count (cond b st (add_exit (owner_of trace st x.seg.0) y st)).exits Kernel ≤ now + one_if (heap_eq (owner_of trace st x.seg.0) Kernel)) [
        | true ↦ omega arith
        | false ↦ added (owner_of trace st x.seg.0) y
      ]

  stored : (b : Option Name) (i : ℕ) (v : Option Name) → exit_count (after_store trace b i v st).exits Kernel ≤ now + writes_to trace st Kernel b
  unfolding after_store write
  stored None i v = omega arith
  stored (Some x) i v = linked x v

  -- of an exit item of the process that ends, and of one of the kernel, at most one is left to the kernel
  turned : (p : ℕ) (e : ExitItem) → option_count (weight Kernel) (exit_after trace st p e) ≤ weight Kernel e + weight (user p) e
  turned p e = cases (heap_eq e.heap (user p)) refl (passes_to_kernel trace st e.target) (leads_back trace st p e)
    where
      cases : (a : Bool) → heap_eq e.heap (user p) ≡ a → (b c : Bool) →
          option_count (weight Kernel) (cond a (cond b (Some (record e { heap = Kernel })) None) (cond c None (Some e))) ≤ weight Kernel e + weight (user p) e
      cases true own true c = let one = ap one_if own in omega (arith, one)
      cases true own false c = zero-le
      cases false own b true = zero-le
      cases false own b false = omega arith

  after_end : (p : ℕ) → exit_count (after_end_of trace p st).exits Kernel ≤ now + exit_count st.exits (user p)
  unfolding after_end_of end_process clear_registers keep_shares turn_exits
  after_end p =
      let less = total_turned (λ e. weight Kernel e + weight (user p) e) (weight Kernel) (exit_after trace st p) (turned p) st.exits in
      let both = sum_both (weight Kernel) (weight (user p)) st.exits in
      omega (arith, less, both)

  ended_by : (p : ℕ) → (after_end_of trace p st).ended ≡ st.ended ++ p ∷ []
  unfolding after_end_of end_process clear_registers keep_shares turn_exits
  ended_by p = refl

  store_ended : (b : Option Name) (i : ℕ) (v : Option Name) → (after_store trace b i v st).ended ≡ st.ended
  unfolding after_store write with_exit_of_store add_exit
  store_ended None i v = refl
  store_ended (Some x) i None = refl
  store_ended (Some x) i (Some y) =
      elim (heap_eq (owner_of trace st x.seg.0) (owner_of trace st y.seg.0)) as (λ b. (cond b st (add_exit (owner_of trace st x.seg.0) y st)).ended ≡ st.ended) [
        | true ↦ refl
        | false ↦ refl
      ]

module _ (trace : Trace) (each all : ℕ) (st : State) (kept : kept_for trace each st ≤ all) where
  put_kept : (b : Option Name) (i n : ℕ) → kept_for trace each (after_put b i n st) ≤ all
  unfolding after_put write
  put_kept None i n = kept
  put_kept (Some x) i n = kept

  freeze_kept : (s : ℕ) (b : Option Name) → kept_for trace each (after_freeze s b st) ≤ all
  unfolding after_freeze set_phase
  freeze_kept s None = kept
  freeze_kept s (Some x) = kept

  end_kept : (p : ℕ) → p < process_count trace → IsFalse (among p st.ended) → exit_count st.exits (user p) ≤ each → kept_for trace each (after_end_of trace p st) ≤ all
  end_kept p known lives few =
      subst (λ ended. exit_count (after_end_of trace p st).exits Kernel + each * living_of ended (process_count trace) ≤ all) (sym (ended_by trace st p))
      (made_up (exit_count (after_end_of trace p st).exits Kernel) (exit_count st.exits Kernel) (exit_count st.exits (user p)) each (living_of (st.ended ++ p ∷ []) (process_count trace)) (living_of st.ended (process_count trace)) all
      (after_end trace st p) few (one_fewer st.ended p (process_count trace) lives known) kept)

  -- a store that touches the kernel's cell finds one more free
  written : (p : ℕ) (b : Option Name) → (IsTrue (list_any (λ c. heap_eq c Kernel) (access_cell trace st p b)) → kept_for trace each st < all) → kept_for trace each st + writes_to trace st Kernel b ≤ all
  written p None spares = omega (arith, kept)
  written p (Some x) spares = go (owner_of trace st x.seg.0) spares
    where
      go : (h : Heap) → (IsTrue (list_any (λ c. heap_eq c Kernel) (base_cell st p h)) → kept_for trace each st < all) → kept_for trace each st + one_if (heap_eq h Kernel) ≤ all
      go Kernel spares = let left = spares refl in omega (arith, left)
      go (User q) spares = omega (arith, kept)
      go (Shared s) spares = omega (arith, kept)

  store_kept : (pid : Pid) (base value : Reg) (i : ℕ) (said : Reply) → (IsTrue (touches trace st (Done pid (Store base i value) said) Kernel) → kept_for trace each st < all) →
      kept_for trace each (after_store trace (register st.registers pid.0 base.0) i (register st.registers pid.0 value.0) st) ≤ all
  unfolding cells_touched other_cells
  store_kept pid base value i said spares =
      let most = stored trace st (register st.registers pid.0 base.0) i (register st.registers pid.0 value.0) in
      let fits = written pid.0 (register st.registers pid.0 base.0) spares in
      subst (λ ended. exit_count (after_store trace (register st.registers pid.0 base.0) i (register st.registers pid.0 value.0) st).exits Kernel + each * living_of ended (process_count trace) ≤ all)
      (sym (store_ended trace st (register st.registers pid.0 base.0) i (register st.registers pid.0 value.0)))
      (omega (arith, most, fits))

  kill_kept : (q : ℕ) → q < process_count trace → (IsFalse (among q st.ended) → exit_count st.exits (user q) ≤ each) → kept_for trace each (after_kill trace q st) ≤ all
  unfolding after_kill
  kill_kept q known spares = elim (cases_Bool (among q st.ended)) [
    | inl ended ↦ rw ended kept
    | inr lives ↦ rw lives (end_kept q known lives (spares lives))
  ]

  effect_kept : (pid : Pid) (op : Op) (said : Reply) → pid.0 < process_count trace → IsFalse (among pid.0 st.ended) → IsTrue (in_range trace op) → SparesByOp trace each all st pid.0 op (Done pid op said) →
      kept_for trace each (effect trace pid.0 op st) ≤ all
  unfolding effect set_register create open_scan add_share set_phase set_max in_range
  effect_kept pid (Store base i value) said known lives inside spares = store_kept pid base value i said spares
  effect_kept pid (Put base i number) said known lives inside spares = put_kept (register st.registers pid.0 base.0) i number
  effect_kept pid (Freeze s root) said known lives inside spares = freeze_kept s.0 (register st.registers pid.0 root.0)
  effect_kept pid Exit said known lives inside spares = end_kept pid.0 known lives spares
  effect_kept pid (Kill q) said known lives inside spares = kill_kept q.0 (ltb-true q.0 (process_count trace) inside) spares
  effect_kept pid _ said known lives inside spares = kept

  -- what is kept back is so still after an event that takes none of it
  pub event_kept : (event : Event) → IsPossible trace st event → Spares trace each all st event → kept_for trace each (step trace st event) ≤ all
  unfolding step after_operation count_done after_ended after_absorbed after_closing close_scan keep_shares keep_exits keep_objects close set_phase open_scan
  event_kept (Done pid op said) may spares = go (first_fault (faults trace st pid.0 op))
    where
      go : (f : Option Fault) → kept_for trace each (effect_unless f trace pid.0 op st) ≤ all
      go None = effect_kept pid op said may.known may.lives may.in_range spares
      go (Some f) = kept
  event_kept (Ended h a b c d) may spares = omega (arith, total_fewer (weight Kernel) (exit_stays trace st h) st.exits, kept)
  event_kept (Absorbed s) may spares = omega (arith, total_fewer (weight Kernel) (stays_after_absorb trace st s.0) st.exits, kept)
  event_kept Closing may spares = kept

-- a local operation takes none
local_spares : (trace : Trace) (each all : ℕ) (st : State) (pid : Pid) (op : Op) (said : Reply) → pid.0 < process_count trace → IsFalse (among pid.0 st.ended) → IsTrue (is_local st pid.0 op) → SparesByOp trace each all st pid.0 op (Done pid op said)
unfolding is_local
local_spares trace each all st pid (Store base i value) said known lives l =
    λ touched. absurd (false≢true (sym (local_touches trace st pid (Store base i value) said Kernel known lives (local_store l)) ∙ touched))
  where
    local_store : IsTrue (is_local_store st pid.0 (register st.registers pid.0 base.0) i (register st.registers pid.0 value.0)) → IsTrue (is_local st pid.0 (Store base i value))
    local_store l = l
local_spares trace each all st pid Exit said known lives l = absurd (false≢true l)
local_spares trace each all st pid (Kill q) said known lives l = absurd (false≢true l)
local_spares trace each all st pid _ said known lives l = tt

-- the events of a process inside its heap take none
pub inside_kept : (trace : Trace) (each all p : ℕ) (events : List Event) (st : State) → AreLocal trace p st events → IsRun trace st events → kept_for trace each st ≤ all → kept_for trace each (run trace st events) ≤ all
inside_kept trace each all p [] st local runs kept = kept
inside_kept trace each all p (Done pid op said ∷ events) st local runs kept =
    let here = ap (λ q. is_local st q op) local.0 ∙ local.1 in
    inside_kept trace each all p events (step trace st (Done pid op said)) local.2 runs.1
    (event_kept trace each all st kept (Done pid op said) runs.0 (local_spares trace each all st pid op said runs.0.known runs.0.lives here))
inside_kept trace each all p (Ended h a b c d ∷ events) st local runs kept = absurd local
inside_kept trace each all p (Absorbed s ∷ events) st local runs kept = absurd local
inside_kept trace each all p (Closing ∷ events) st local runs kept = absurd local

-- so it is once a process has published what it did inside its heap
pub published_kept : (trace : Trace) (each all : ℕ) (journal : JournalValue) (book : BookValue) (pid : Pid) (note : NoteValue) (value : CellValue) → Agrees trace (User pid) note value → BookAgrees trace journal book → Fits journal note →
    kept_for trace each (state_after trace journal.list) ≤ all → kept_for trace each (state_after trace (journal.list ++ value.tail)) ≤ all
published_kept trace each all journal book pid note value agrees book_agrees fits kept =
    let met = (meeting trace journal book (User pid) note value agrees book_agrees fits).agrees in
    subst (λ st. kept_for trace each st ≤ all) (sym (run_append trace (opening trace) journal.list value.tail))
    (inside_kept trace each all pid.0 value.tail (state_after trace journal.list) met.tail (legal_rest trace (opening trace) journal.list value.tail met.legal) kept)

-- and so it is once such an event is appended
pub appended_kept : (trace : Trace) (each all : ℕ) (history : List Event) (event : Event) → IsPossible trace (state_after trace history) event → Spares trace each all (state_after trace history) event →
    kept_for trace each (state_after trace history) ≤ all → kept_for trace each (state_after trace (history ++ event ∷ [])) ≤ all
appended_kept trace each all history event may spares kept =
    subst (λ st. kept_for trace each st ≤ all) (sym (state_next trace history event)) (event_kept trace each all (state_after trace history) kept event may spares)
