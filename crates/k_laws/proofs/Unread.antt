-- No definition of the machine reads the operations of the trace.
use Rattle.std.proofs.Common.{◌≡◌, ℕ, refl, ap, sym, subst, ◌∙◌, List, [], ◌∷◌, ◌++◌, not, Option, Some, None, if◌then◌else◌}
use Rattle.std.specs.List.{list_all}
use Rattle.k_types.specs.declared.names.Heap.{Heap}
use Rattle.k_types.specs.declared.names.Heap.TheVariants.{Kernel}
use Rattle.k_types.specs.declared.op.Op.{Op}
use Rattle.k_types.specs.declared.op.Op.TheVariants.{New}
use Rattle.k_types.specs.declared.event.Fault.{Fault}
use Rattle.k_types.specs.declared.event.Event.{Event}
use Rattle.k_types.specs.declared.event.Event.TheVariants.{Done, Ended, Absorbed, Closing}
use Rattle.k_types.specs.Trace.{Trace}
use Rattle.k_types.specs.State.{State, is_scanned}
use Rattle.k_types.specs.Reach.{is_entered, reach_in, roots_of}
use Rattle.k_types.specs.Cells.{Cell, cells_touched, other_cells}
use Rattle.k_types.specs.Replies.{access_faults, answer, faults, passes_barrier, first_fault, reply_to, size_fault}
use Rattle.k_types.specs.Effects.{after_absorbed, after_closing, after_end_of, after_ended, after_kill, after_operation, after_store, effect, effect_unless, exit_stays, share_stays, step, survives, with_exit_of_store}
use Rattle.k_types.specs.Updates.{count_done}
use Rattle.k_types.specs.Complete.{all_ended}
use Rattle.k_types.specs.FileOrder.{absorptions, end_of, events_of, heap_begun, last_events, with_end}
use Rattle.k_types.specs.Steps.{IsPossible, IsRun, in_range, run, waits_for_orphans}
use Rattle.k_laws.specs.Setups.{setup_of}

module _ (trace : Trace) where
  reply_unread : (st : State) (p : ℕ) (op : Op) → reply_to trace st p op ≡ reply_to (setup_of trace) st p op
  unfolding reply_to faults answer access_faults passes_barrier size_fault
  reply_unread st p (New r ty) = refl
  reply_unread st p _ = refl

  faults_unread : (st : State) (p : ℕ) (op : Op) → faults trace st p op ≡ faults (setup_of trace) st p op
  unfolding faults access_faults passes_barrier size_fault
  faults_unread st p (New r ty) = refl
  faults_unread st p _ = refl

  effect_unread : (st : State) (p : ℕ) (op : Op) → effect trace p op st ≡ effect (setup_of trace) p op st
  unfolding effect after_store with_exit_of_store roots_of is_entered after_end_of after_kill
  effect_unread st p (New r ty) = refl
  effect_unread st p _ = refl

  unless_unread : (st : State) (p : ℕ) (op : Op) (fault : Option Fault) → effect_unless fault trace p op st ≡ effect_unless fault (setup_of trace) p op st
  unless_unread st p op None = effect_unread st p op
  unless_unread st p op (Some fault) = refl

  operation_unread : (st : State) (p : ℕ) (op : Op) → after_operation trace p op st ≡ after_operation (setup_of trace) p op st
  unfolding after_operation
  operation_unread st p op =
      ap (λ fs. count_done p (effect_unless (first_fault fs) trace p op st)) (faults_unread st p op)
      ∙ ap (count_done p) (unless_unread st p op (first_fault (faults (setup_of trace) st p op)))

  ended_unread : (st : State) (h : Heap) → after_ended trace h st ≡ after_ended (setup_of trace) h st
  unfolding after_ended survives exit_stays share_stays reach_in
  ended_unread st h = refl

  absorbed_unread : (st : State) (s : ℕ) → after_absorbed trace s st ≡ after_absorbed (setup_of trace) s st
  unfolding after_absorbed
  absorbed_unread st s = refl

  closing_unread : (st : State) → after_closing trace st ≡ after_closing (setup_of trace) st
  unfolding after_closing roots_of is_entered
  closing_unread st = refl

  -- a step goes by the setup alone
  pub step_unread : (st : State) (event : Event) → step trace st event ≡ step (setup_of trace) st event
  unfolding step
  step_unread st (Done pid op said) = operation_unread st pid.0 op
  step_unread st (Ended h a b c d) = ended_unread st h
  step_unread st (Absorbed s) = absorbed_unread st s.0
  step_unread st Closing = closing_unread st

  -- so does a run
  pub run_unread : (st : State) (events : List Event) → run trace st events ≡ run (setup_of trace) st events
  run_unread st [] = refl
  run_unread st (event ∷ events) = ap (λ (su : State). run trace su events) (step_unread st event) ∙ run_unread (step (setup_of trace) st event) events

  range_unread : (op : Op) → in_range trace op ≡ in_range (setup_of trace) op
  unfolding in_range
  range_unread (New r ty) = refl
  range_unread _ = refl

  cells_unread : (st : State) (event : Event) → cells_touched trace st event ≡ cells_touched (setup_of trace) st event
  unfolding cells_touched other_cells
  cells_unread st (Done pid (New r ty) said) = refl
  cells_unread st (Done pid _ said) = refl
  cells_unread st (Ended h a b c d) = refl
  cells_unread st (Absorbed s) = refl
  cells_unread st Closing = refl

  end_unread : (st : State) (h : Heap) → end_of trace st h ≡ end_of (setup_of trace) st h
  unfolding survives exit_stays share_stays reach_in
  end_unread st h = refl

  -- whether an event is possible goes by the setup alone
  pub possible_unread : (st : State) (event : Event) → IsPossible trace st event → IsPossible (setup_of trace) st event
  unfolding survives exit_stays share_stays reach_in
  possible_unread st (Done pid op said) may = record {
    known = may.known;
    lives = may.lives;
    in_range = sym (range_unread op) ∙ may.in_range;
    idle = ap (list_all (λ (c : Cell). not (is_scanned st.scans c))) (sym (cells_unread st (Done pid op said))) ∙ may.idle;
    orphans = may.orphans;
    replied = may.replied ∙ reply_unread st pid.0 op;
  }
  possible_unread st (Ended h a b c d) may = record {
    scanned = may.scanned;
    objects_gone = may.objects_gone;
    bytes_gone = may.bytes_gone;
    exits_gone = may.exits_gone;
    shares_gone = may.shares_gone;
  }
  possible_unread st (Absorbed s) may = record { known = may.known; orphan = may.orphan; idle = may.idle }
  possible_unread st Closing may = record { all_ended = may.all_ended; orphans = may.orphans; idle = may.idle; first = may.first }

  -- and what is possible for the setup is possible for the trace
  pub possible_read : (st : State) (event : Event) → IsPossible (setup_of trace) st event → IsPossible trace st event
  unfolding survives exit_stays share_stays reach_in
  possible_read st (Done pid op said) may = record {
    known = may.known;
    lives = may.lives;
    in_range = range_unread op ∙ may.in_range;
    idle = ap (list_all (λ (c : Cell). not (is_scanned st.scans c))) (cells_unread st (Done pid op said)) ∙ may.idle;
    orphans = may.orphans;
    replied = may.replied ∙ sym (reply_unread st pid.0 op);
  }
  possible_read st (Ended h a b c d) may = record {
    scanned = may.scanned;
    objects_gone = may.objects_gone;
    bytes_gone = may.bytes_gone;
    exits_gone = may.exits_gone;
    shares_gone = may.shares_gone;
  }
  possible_read st (Absorbed s) may = record { known = may.known; orphan = may.orphan; idle = may.idle }
  possible_read st Closing may = record { all_ended = may.all_ended; orphans = may.orphans; idle = may.idle; first = may.first }

  -- so does whether a run is
  pub legal_unread : (st : State) (events : List Event) → IsRun trace st events → IsRun (setup_of trace) st events
  legal_unread st [] legal = tt
  legal_unread st (event ∷ events) legal = (
    possible_unread st event legal.0,
    legal_unread (step (setup_of trace) st event) events (subst (λ (su : State). IsRun trace su events) (step_unread st event) legal.1),
  )

  end_with_unread : (st : State) (event : Event) (begun : Option Heap) → with_end trace st event begun ≡ with_end (setup_of trace) st event begun
  end_with_unread st event None = refl
  end_with_unread st event (Some h) =
      ap (λ (su : State). event ∷ end_of trace su h ∷ []) (step_unread st event)
      ∙ ap (λ e. event ∷ e ∷ []) (end_unread (step (setup_of trace) st event) h)

  after_first : (st : State) (p : ℕ) (op : Op) (first : List Event) →
      first ++ with_end trace (run trace st first) (Done (record { 0 = p }) op (reply_to trace (run trace st first) p op)) (heap_begun p op)
      ≡ first ++ with_end (setup_of trace) (run (setup_of trace) st first) (Done (record { 0 = p }) op (reply_to (setup_of trace) (run (setup_of trace) st first) p op)) (heap_begun p op)
  after_first st p op first =
      ap (λ (su : State). first ++ with_end trace su (Done (record { 0 = p }) op (reply_to trace su p op)) (heap_begun p op)) (run_unread st first)
      ∙ ap (λ said. first ++ with_end trace (run (setup_of trace) st first) (Done (record { 0 = p }) op said) (heap_begun p op)) (reply_unread (run (setup_of trace) st first) p op)
      ∙ ap (λ es. first ++ es) (end_with_unread (run (setup_of trace) st first) (Done (record { 0 = p }) op (reply_to (setup_of trace) (run (setup_of trace) st first) p op)) (heap_begun p op))

  -- the events of an operation go by the setup alone
  pub events_unread : (st : State) (p : ℕ) (op : Option Op) → events_of trace st p op ≡ events_of (setup_of trace) st p op
  events_unread st p None = refl
  events_unread st p (Some op) = after_first st p op (if waits_for_orphans op then absorptions trace st else [])

  last_first : (st : State) (first : List Event) → first ++ with_end trace (run trace st first) Closing (Some Kernel) ≡ first ++ with_end (setup_of trace) (run (setup_of trace) st first) Closing (Some Kernel)
  last_first st first =
      ap (λ (su : State). first ++ with_end trace su Closing (Some Kernel)) (run_unread st first)
      ∙ ap (λ es. first ++ es) (end_with_unread (run (setup_of trace) st first) Closing (Some Kernel))

  -- so do the last events
  pub last_unread : (st : State) → last_events trace st ≡ last_events (setup_of trace) st
  last_unread st = ap (λ es. if all_ended trace st then es else []) (last_first st (absorptions trace st))
