-- Whether a collection of a heap is open after an event, and who asked for one that the event began.
use Rattle.std.proofs.Common.{◌≡◌, ℕ, ◌||◌, Bool, true, false, cond, refl, sym, ap, ◌∙◌, inl, inr, ◌∷◌, List, find, Option, Some, None, option_map, is_some, eqb-true}
use Rattle.std.proofs.lemmas.Bool.{cases_Bool, false≢true, or_right}
use Rattle.k_types.specs.declared.event.Event.{Event}
use Rattle.k_types.specs.declared.event.Event.TheVariants.{Done, Ended, Absorbed, Closing}
use Rattle.k_types.specs.declared.event.Fault.{Fault}
use Rattle.k_types.specs.declared.names.Heap.{Heap}
use Rattle.k_types.specs.declared.names.Heap.TheVariants.{Kernel, User, Shared}
use Rattle.k_types.specs.declared.names.Name.{Name}
use Rattle.k_types.specs.declared.names.Pid.{Pid}
use Rattle.k_types.specs.declared.op.Op.{Op}
use Rattle.k_types.specs.declared.op.Op.TheVariants.{Store, Put, Collect, KCollect, Freeze, Kill}
use Rattle.k_types.specs.Effects.{step, effect, effect_unless, after_operation, after_end_of, after_ended, after_absorbed, after_closing}
use Rattle.k_types.specs.Names.{heap_eq}
use Rattle.k_types.specs.Owners.{user}
use Rattle.k_types.specs.Reach.{roots_of}
use Rattle.k_types.specs.Replies.{first_fault, faults}
use Rattle.k_types.specs.State.{State, Scan, register, scan_of, is_scanned}
use Rattle.k_types.specs.Trace.{Trace}
use Rattle.k_types.specs.Updates.{count_done, set_register, create, open_scan, set_phase, add_share, keep_objects, keep_exits, keep_shares, close_scan, clear_registers, end_process, turn_exits, set_max, close}
use Rattle.k_types.proofs.NameTests.{heap_eq_sym}
use Rattle.k_laws.proofs.Kept.{scan_closed}
use Rattle.k_laws.proofs.Rest.{store_rest, put_rest, freeze_rest, kill_rest}
use Rattle.k_work.specs.Beginnings.{IsAskedBy, is_end_of}
use Rattle.k_work.specs.Credits.{asker_of, kernel_asker}

-- the operation of the process opens a collection of the heap
abbrev opens : ℕ → Op → Heap → Bool
opens p Collect h = heap_eq (user p) h
opens p KCollect h = heap_eq Kernel h
opens p _ h = false

-- the event does
abbrev pub opens_by : Event → Heap → Bool
opens_by (Done pid op reply) h = opens pid.0 op h
opens_by Closing h = heap_eq Kernel h
opens_by _ h = false

first_one : (a b : Bool) → b ≡ false → (a || b) ≡ true → a ≡ true
first_one true b none one = refl
first_one false b none one = absurd (false≢true (sym none ∙ one))

opened_scan : (g h : Heap) (roots : List Name) (scans : List Scan) → is_scanned (record { heap = g; roots = roots } ∷ scans) h ≡ (heap_eq g h || is_scanned scans h)
opened_scan g h roots scans =
    elim (heap_eq g h) as (λ b. is_some (option_map (λ (scan : Scan). scan.roots) (cond b (Some (record { heap = g; roots = roots })) (find (λ scan. heap_eq scan.heap h) scans))) ≡ (b || is_scanned scans h)) [
      | true ↦ refl
      | false ↦ refl
    ]

module _ (trace : Trace) (st : State) (h : Heap) where
  effect_scanned : (p : ℕ) (op : Op) → is_scanned (effect trace p op st).scans h ≡ (opens p op h || is_scanned st.scans h)
  unfolding effect set_register create open_scan add_share set_phase after_end_of end_process clear_registers keep_shares turn_exits set_max
  effect_scanned p (Store base i value) = ap (λ (s : State). is_scanned s.scans h) (store_rest trace st (register st.registers p base.0) i (register st.registers p value.0))
  effect_scanned p (Put base i number) = ap (λ (s : State). is_scanned s.scans h) (put_rest st (register st.registers p base.0) i number)
  effect_scanned p Collect = opened_scan (user p) h (roots_of trace st (user p)) st.scans
  effect_scanned p KCollect = opened_scan Kernel h (roots_of trace st Kernel) st.scans
  effect_scanned p (Freeze s root) = ap (λ (s : State). is_scanned s.scans h) (freeze_rest st s.0 (register st.registers p root.0))
  effect_scanned p (Kill q) = ap (λ (s : State). is_scanned s.scans h) (kill_rest trace st q.0)
  effect_scanned p _ = refl

  done_stays : (p : ℕ) (op : Op) → is_scanned st.scans h ≡ true → is_scanned (after_operation trace p op st).scans h ≡ true
  unfolding after_operation count_done
  done_stays p op scanned = go (first_fault (faults trace st p op))
    where
      go : (f : Option Fault) → is_scanned (effect_unless f trace p op st).scans h ≡ true
      go None = effect_scanned p op ∙ or_right (opens p op h) (is_scanned st.scans h) scanned
      go (Some f) = scanned

  done_opens : (p : ℕ) (op : Op) → is_scanned st.scans h ≡ false → is_scanned (after_operation trace p op st).scans h ≡ true → opens p op h ≡ true
  unfolding after_operation count_done
  done_opens p op idle after = go (first_fault (faults trace st p op)) after
    where
      go : (f : Option Fault) → is_scanned (effect_unless f trace p op st).scans h ≡ true → opens p op h ≡ true
      go None after = first_one (opens p op h) (is_scanned st.scans h) idle (sym (effect_scanned p op) ∙ after)
      go (Some f) after = absurd (false≢true (sym idle ∙ after))

  ended_scanned : (g : Heap) → is_scanned (after_ended trace g st).scans h ≡ cond (heap_eq g h) false (is_scanned st.scans h)
  unfolding after_ended close_scan keep_shares keep_exits keep_objects
  ended_scanned g =
      ap (λ (o : Option (List Name)). is_some o) (scan_closed g h st.scans)
      ∙ ap (λ b. is_some (cond b None (scan_of st.scans h))) (heap_eq_sym h g)
      ∙ elim (heap_eq g h) as (λ b. is_some (cond b None (scan_of st.scans h)) ≡ cond b false (is_scanned st.scans h)) [ true ↦ refl | false ↦ refl ]

  closing_scanned : is_scanned (after_closing trace st).scans h ≡ (heap_eq Kernel h || is_scanned st.scans h)
  unfolding after_closing close open_scan
  closing_scanned = opened_scan Kernel h (roots_of trace st Kernel) st.scans

  absorbed_scanned : (s : ℕ) → is_scanned (after_absorbed trace s st).scans h ≡ is_scanned st.scans h
  unfolding after_absorbed set_phase keep_exits
  absorbed_scanned s = refl

  -- it stays open unless the event is its end
  pub stays_scanned : (event : Event) → is_end_of h event ≡ false → is_scanned st.scans h ≡ true → is_scanned (step trace st event).scans h ≡ true
  unfolding step
  stays_scanned (Done pid op reply) other scanned = done_stays pid.0 op scanned
  stays_scanned (Ended g objects bytes exits shares) other scanned = ended_scanned g ∙ ap (λ b. cond b false (is_scanned st.scans h)) other ∙ scanned
  stays_scanned (Absorbed s) other scanned = absorbed_scanned s.0 ∙ scanned
  stays_scanned Closing other scanned = closing_scanned ∙ or_right (heap_eq Kernel h) (is_scanned st.scans h) scanned

  -- where it is open afterwards, the event is not its end
  pub not_ended : (event : Event) → is_scanned (step trace st event).scans h ≡ true → is_end_of h event ≡ false
  unfolding step
  not_ended (Done pid op reply) after = refl
  not_ended (Ended g objects bytes exits shares) after =
      elim (cases_Bool (heap_eq g h)) [
        | inl same ↦ absurd (false≢true (sym (ended_scanned g ∙ ap (λ b. cond b false (is_scanned st.scans h)) same) ∙ after))
        | inr apart ↦ apart
      ]
  not_ended (Absorbed s) after = refl
  not_ended Closing after = refl

  -- where it was not open and is now, the event opened it
  pub opened_by : (event : Event) → is_scanned st.scans h ≡ false → is_scanned (step trace st event).scans h ≡ true → opens_by event h ≡ true
  unfolding step
  opened_by (Done pid op reply) idle after = done_opens pid.0 op idle after
  opened_by (Ended g objects bytes exits shares) idle after =
      absurd (false≢true (sym (ended_scanned g ∙ elim (heap_eq g h) as (λ b. cond b false (is_scanned st.scans h) ≡ false) [ true ↦ refl | false ↦ idle ]) ∙ after))
  opened_by (Absorbed s) idle after = absurd (false≢true (sym (absorbed_scanned s.0 ∙ idle) ∙ after))
  opened_by Closing idle after = first_one (heap_eq Kernel h) (is_scanned st.scans h) idle (sym closing_scanned ∙ after)

own_asker : (pid : Pid) (h : Heap) (who : Option ℕ) → heap_eq (user pid.0) h ≡ true → asker_of who h ≡ Some pid.0
own_asker pid Kernel who same = absurd (false≢true same)
own_asker pid (User q) who same = ap Some (sym (eqb-true pid.0 q.0 same))
own_asker pid (Shared s) who same = absurd (false≢true same)

kernels_asker : (h : Heap) (who : Option ℕ) → heap_eq Kernel h ≡ true → asker_of who h ≡ who
kernels_asker Kernel who same = refl
kernels_asker (User q) who same = absurd (false≢true same)
kernels_asker (Shared s) who same = absurd (false≢true same)

-- who is credited for a collection that the event opened asked by that event
pub opener_asks : (event : Event) (h : Heap) (who : Option ℕ) → opens_by event h ≡ true → IsAskedBy event (asker_of (kernel_asker event who) h)
opener_asks (Done pid Collect reply) h who opened = own_asker pid h who opened
opener_asks (Done pid KCollect reply) h who opened = kernels_asker h (Some pid.0) opened
opener_asks (Done pid op reply) h who opened = absurd (false≢true opened)
opener_asks (Ended g objects bytes exits shares) h who opened = absurd (false≢true opened)
opener_asks (Absorbed s) h who opened = absurd (false≢true opened)
opener_asks Closing h who opened = kernels_asker h None opened
