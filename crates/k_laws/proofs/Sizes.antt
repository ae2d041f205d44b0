-- The lists of a state keep their lengths, whatever happens.
use Rattle.std.proofs.Common.{◌≡◌, ℕ, zero, suc, ◌+◌, ◌<◌, cond, true, false, refl, ap, sym, ◌∙◌, inl, inr, List, [], ◌∷◌, length, replicate, Option, Some, None, arith, get_or, set, length-set}
use Rattle.k_types.specs.declared.names.Name.{Name}
use Rattle.k_types.specs.declared.names.TypeId.{TypeId}
use Rattle.k_types.specs.declared.names.Heap.{Heap}
use Rattle.k_types.specs.declared.names.Phase.{Phase}
use Rattle.k_types.specs.declared.names.Phase.TheVariants.{Unmade}
use Rattle.k_types.specs.declared.names.Field.{Field}
use Rattle.k_types.specs.declared.names.Heap.TheVariants.{Kernel}
use Rattle.k_types.specs.declared.op.Op.{Op}
use Rattle.k_types.specs.declared.op.Op.TheVariants.{New, KNew, SNew, Store, Load, Move, Clear, Dir, Put, Get, Share, Freeze, Attach, Exit, Kill, Resize}
use Rattle.k_types.specs.declared.event.Fault.{Fault}
use Rattle.k_types.specs.declared.event.Event.{Event}
use Rattle.k_types.specs.declared.event.Event.TheVariants.{Done, Ended, Absorbed, Closing}
use Rattle.k_types.specs.Names.{among, heap_eq}
use Rattle.k_types.specs.Trace.{Trace, process_count}
use Rattle.k_types.specs.State.{State, opening}
use Rattle.k_types.specs.Owners.{owner_of}
use Rattle.k_types.specs.Replies.{first_fault, faults}
use Rattle.k_types.specs.Updates.{count_done, set_register, create, write, add_exit, open_scan, set_phase, add_share, keep_objects, keep_exits, keep_shares, close_scan, clear_registers, end_process, turn_exits, set_max, close}
use Rattle.k_types.specs.Effects.{step, effect, effect_unless, after_operation, after_store, after_put, with_exit_of_store, after_freeze, after_end_of, after_kill, after_ended, after_absorbed, after_closing}
use Rattle.k_types.specs.Steps.{run, state_after}
use Rattle.k_types.specs.Sound.{IsSized}
use Rattle.k_types.proofs.Lists.{get_or-set_cases}
use Rattle.k_types.proofs.Maxima.{maxima_count}

pub length-same : {A : Type 0} (n : ℕ) (x : A) → length (replicate n x) ≡ n
length-same zero x = refl
length-same (suc n) x = ap suc (length-same n x)

pub get_or-same : {A : Type 0} (n k : ℕ) (x d : A) → k < n → get_or (replicate n x) k d ≡ x
get_or-same zero k x d h = absurd (omega arith)
get_or-same (suc n) zero x d h = refl
get_or-same (suc n) (suc k) x d h = get_or-same n k x d (omega (arith, h))

pub zeros_at : (n k : ℕ) → get_or {A = ℕ} (replicate n 0) k 0 ≡ 0
zeros_at zero k = refl
zeros_at (suc n) zero = refl
zeros_at (suc n) (suc k) = zeros_at n k

pub opening_sized : (trace : Trace) → IsSized trace (opening trace)
opening_sized trace = record {
  made = omega (arith, length-same {A = ℕ} (length trace.procs + trace.shared_heaps) 0);
  registers = length-same (process_count trace) _;
  each = λ p known. ap length (get_or-same (process_count trace) p (replicate 16 None) [] known);
  done = length-same {A = ℕ} (process_count trace) 0;
  phases = length-same trace.shared_heaps Unmade;
  maxima = maxima_count trace.limits;
}

module _ (trace : Trace) where
  done_sized : (st : State) (p : ℕ) → IsSized trace st → IsSized trace (count_done p st)
  unfolding count_done
  done_sized st p z = record { made = z.made; registers = z.registers; each = z.each; done = length-set st.done p _ ∙ z.done; phases = z.phases; maxima = z.maxima }

  row_sized : (st : State) (p : ℕ) (row : List (Option Name)) → ((q : ℕ) → q ≡ p → q < process_count trace → length row ≡ 16) → IsSized trace st → IsSized trace (record st { registers = set st.registers p row })
  row_sized st p row long z = record {
    made = z.made;
    registers = length-set st.registers p row ∙ z.registers;
    each = λ q known. elim (get_or-set_cases st.registers p q row []) [
      | inl same ↦ ap length same ∙ z.each q known
      | inr here ↦ ap length here.1 ∙ long q here.0 known
    ];
    done = z.done;
    phases = z.phases;
    maxima = z.maxima;
  }

  register_sized : (st : State) (p r : ℕ) (v : Option Name) → IsSized trace st → IsSized trace (set_register p r v st)
  unfolding set_register
  register_sized st p r v z = row_sized st p (set (get_or st.registers p []) r v) (λ q e known. length-set (get_or st.registers p []) r v ∙ ap (λ k. length (get_or st.registers k [])) (sym e) ∙ z.each q known) z

  pub create_sized : (st : State) (seg : ℕ) (ty : TypeId) (kinds : List Field) → IsSized trace st → IsSized trace (create seg ty kinds st)
  unfolding create
  create_sized st seg ty kinds z = record { made = length-set st.made seg _ ∙ z.made; registers = z.registers; each = z.each; done = z.done; phases = z.phases; maxima = z.maxima }

  phase_sized : (st : State) (s : ℕ) (phase : Phase) → IsSized trace st → IsSized trace (set_phase s phase st)
  unfolding set_phase
  phase_sized st s phase z = record { made = z.made; registers = z.registers; each = z.each; done = z.done; phases = length-set st.phases s _ ∙ z.phases; maxima = z.maxima }

  pub share_sized : (st : State) (p s : ℕ) → IsSized trace st → IsSized trace (add_share p s st)
  unfolding add_share
  share_sized st p s z = record { made = z.made; registers = z.registers; each = z.each; done = z.done; phases = z.phases; maxima = z.maxima }

  link_sized : (st : State) (x : Name) (v : Option Name) → IsSized trace st → IsSized trace (with_exit_of_store trace x v st)
  unfolding with_exit_of_store add_exit
  link_sized st x None z = z
  link_sized st x (Some y) z = elim (heap_eq (owner_of trace st x.seg.0) (owner_of trace st y.seg.0)) as (λ b. IsSized trace (cond b st (add_exit (owner_of trace st x.seg.0) y st))) [
    | true ↦ z
    | false ↦ record { made = z.made; registers = z.registers; each = z.each; done = z.done; phases = z.phases; maxima = z.maxima }
  ]

  store_sized : (st : State) (x : Option Name) (i : ℕ) (v : Option Name) → IsSized trace st → IsSized trace (after_store trace x i v st)
  unfolding after_store write
  store_sized st None i v z = z
  store_sized st (Some x) i v z = let y = link_sized st x v z in record { made = y.made; registers = y.registers; each = y.each; done = y.done; phases = y.phases; maxima = y.maxima }

  put_sized : (st : State) (x : Option Name) (i n : ℕ) → IsSized trace st → IsSized trace (after_put x i n st)
  unfolding after_put write
  put_sized st None i n z = z
  put_sized st (Some x) i n z = record { made = z.made; registers = z.registers; each = z.each; done = z.done; phases = z.phases; maxima = z.maxima }

  freeze_sized : (st : State) (s : ℕ) (root : Option Name) → IsSized trace st → IsSized trace (after_freeze s root st)
  unfolding after_freeze
  freeze_sized st s None z = z
  freeze_sized st s (Some root) z = phase_sized st s _ z

  scan_sized : (st : State) (h : Heap) (roots : List Name) → IsSized trace st → IsSized trace (open_scan h roots st)
  unfolding open_scan
  scan_sized st h roots z = record { made = z.made; registers = z.registers; each = z.each; done = z.done; phases = z.phases; maxima = z.maxima }

  exit_sized : (st : State) (p : ℕ) → IsSized trace st → IsSized trace (after_end_of trace p st)
  unfolding after_end_of end_process clear_registers keep_shares turn_exits
  exit_sized st p z = let y = row_sized st p (replicate 16 None) (λ q e known. refl) z in record { made = y.made; registers = y.registers; each = y.each; done = y.done; phases = y.phases; maxima = y.maxima }

  kill_sized : (st : State) (q : ℕ) → IsSized trace st → IsSized trace (after_kill trace q st)
  unfolding after_kill
  kill_sized st q z = elim (among q st.ended) as (λ b. IsSized trace (cond b st (after_end_of trace q st))) [ true ↦ z | false ↦ exit_sized st q z ]

  max_sized : (st : State) (m max : ℕ) → IsSized trace st → IsSized trace (set_max m max st)
  unfolding set_max
  max_sized st m max z = record { made = z.made; registers = z.registers; each = z.each; done = z.done; phases = z.phases; maxima = length-set st.maxima m max ∙ z.maxima }

  effect_sized : (st : State) (p : ℕ) (op : Op) → IsSized trace st → IsSized trace (effect trace p op st)
  unfolding effect
  effect_sized st p (New r ty) z = register_sized _ p r.0 _ (create_sized st _ ty _ z)
  effect_sized st p (KNew r ty) z = register_sized _ p r.0 _ (create_sized st _ ty _ z)
  effect_sized st p (SNew r s ty) z = register_sized _ p r.0 _ (create_sized st _ ty _ z)
  effect_sized st p (Store base i value) z = store_sized st _ i _ z
  effect_sized st p (Load r base i) z = register_sized st p r.0 _ z
  effect_sized st p (Move r from) z = register_sized st p r.0 _ z
  effect_sized st p (Clear r) z = register_sized st p r.0 _ z
  effect_sized st p (Dir r) z = register_sized st p r.0 _ z
  effect_sized st p (Put base i number) z = put_sized st _ i number z
  effect_sized st p (Get base i) z = z
  effect_sized st p (Share s) z = share_sized _ p s.0 (phase_sized st s.0 _ z)
  effect_sized st p (Freeze s root) z = freeze_sized st s.0 _ z
  effect_sized st p (Attach r s) z = register_sized _ p r.0 _ (share_sized st p s.0 z)
  effect_sized st p Exit z = exit_sized st p z
  effect_sized st p (Kill q) z = kill_sized st q.0 z
  effect_sized st p (Resize m max) z = max_sized st m.0 max z
  effect_sized st p _ z = scan_sized st _ _ z

  unless_sized : (f : Option Fault) (st : State) (p : ℕ) (op : Op) → IsSized trace st → IsSized trace (effect_unless f trace p op st)
  unless_sized None st p op z = effect_sized st p op z
  unless_sized (Some f) st p op z = z

  pub step_sized : (st : State) (event : Event) → IsSized trace st → IsSized trace (step trace st event)
  unfolding step after_operation after_ended after_absorbed after_closing close_scan keep_shares keep_exits keep_objects close
  step_sized st (Done pid op said) z = done_sized _ pid.0 (unless_sized (first_fault (faults trace st pid.0 op)) st pid.0 op z)
  step_sized st (Ended h a b c d) z = record { made = z.made; registers = z.registers; each = z.each; done = z.done; phases = z.phases; maxima = z.maxima }
  step_sized st (Absorbed s) z = phase_sized _ s.0 _ (record { made = z.made; registers = z.registers; each = z.each; done = z.done; phases = z.phases; maxima = z.maxima })
  step_sized st Closing z = let y = scan_sized st Kernel _ z in record { made = y.made; registers = y.registers; each = y.each; done = y.done; phases = y.phases; maxima = y.maxima }

  pub run_sized : (st : State) (events : List Event) → IsSized trace st → IsSized trace (run trace st events)
  run_sized st [] z = z
  run_sized st (event ∷ events) z = run_sized (step trace st event) events (step_sized st event z)

pub history_sized : (trace : Trace) (history : List Event) → IsSized trace (state_after trace history)
history_sized trace history = run_sized trace (opening trace) history (opening_sized trace)
