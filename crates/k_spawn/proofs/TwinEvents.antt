-- The events of an operation of the first version in two states that differ only in who has ended among processes without objects.
use Rattle.std.proofs.Common.{◌≡◌, ℕ, Bool, true, false, cond, refl, sym, ap, ◌∙◌, List, [], ◌∷◌, ◌++◌, Option, Some, None, IsTrue, IsFalse, subst}
use Rattle.std.proofs.lemmas.Bool.{false≢true}
use Rattle.k_types.specs.declared.names.Heap.{Heap}
use Rattle.k_types.specs.declared.names.Heap.TheVariants.{Kernel}
use Rattle.k_types.specs.declared.setup.LimitRow.{LimitRow}
use Rattle.k_types.specs.declared.op.Op.{Op}
use Rattle.k_types.specs.declared.op.Op.TheVariants.{New, KNew, SNew, Store, Load, Move, Clear, Dir, Put, Get, Collect, KCollect, Share, Freeze, Attach, Exit, Kill, Resize}
use Rattle.k_types.specs.declared.event.Fault.{Fault}
use Rattle.k_types.specs.declared.event.Event.{Event}
use Rattle.k_types.specs.declared.event.Event.TheVariants.{Done}
use Rattle.k_types.specs.Trace.{Trace}
use Rattle.k_types.specs.TraceRules.{is_of_version, is_exit}
use Rattle.k_types.specs.State.{State, register}
use Rattle.k_types.specs.Replies.{first_fault, faults, reply_to}
use Rattle.k_types.specs.Updates.{count_done, set_register, create, open_scan, set_phase, add_share, clear_registers, end_process, keep_shares, turn_exits, keep_objects, keep_exits, close_scan}
use Rattle.k_types.specs.Effects.{step, effect, effect_unless, after_operation, after_end_of, after_ended}
use Rattle.k_types.specs.Steps.{run, waits_for_orphans}
use Rattle.k_types.specs.FileOrder.{absorptions, end_of, events_of, heap_begun, with_end}
use Rattle.k_laws.proofs.Histories.{run_append}
use Rattle.k_laws.proofs.Rest.{store_rest, put_rest, freeze_rest}
use Rattle.k_spawn.proofs.Twins.{twin, twins_if, AreTwins, OwnsAlike, with_limits, end_same, ended_twin, Absorbs, orphans_absorbed}
use Rattle.k_spawn.proofs.TwinReplies.{ended_by, operation_twin, reply_same}

module _ (trace : Trace) (st : State) (p : ℕ) where
  effect_who : (op : Op) → IsTrue (is_of_version 1 op) → (effect trace p op st).ended ≡ ended_by op p st.ended
  unfolding effect set_register create open_scan add_share set_phase after_end_of end_process clear_registers keep_shares turn_exits
  effect_who (New r ty) first = refl
  effect_who (KNew r ty) first = refl
  effect_who (SNew r s ty) first = refl
  effect_who (Store base i value) first = ap (λ (s : State). s.ended) (store_rest trace st (register st.registers p base.0) i (register st.registers p value.0))
  effect_who (Load r base i) first = refl
  effect_who (Move r from) first = refl
  effect_who (Clear r) first = refl
  effect_who (Dir r) first = refl
  effect_who (Put base i number) first = ap (λ (s : State). s.ended) (put_rest st (register st.registers p base.0) i number)
  effect_who (Get base i) first = refl
  effect_who Collect first = refl
  effect_who KCollect first = refl
  effect_who (Share s) first = refl
  effect_who (Freeze s root) first = ap (λ (s : State). s.ended) (freeze_rest st s.0 (register st.registers p root.0))
  effect_who (Attach r s) first = refl
  effect_who Exit first = refl
  effect_who (Kill q) first = absurd (false≢true first)
  effect_who (Resize m max) first = absurd (false≢true first)

  unless_who : (f : Option Fault) (op : Op) → IsTrue (is_of_version 1 op) → IsFalse (is_exit op) → (effect_unless f trace p op st).ended ≡ ended_by op p st.ended
  unless_who None op first goes = effect_who op first
  unless_who (Some f) op first goes = sym (ap (λ b. cond b (st.ended ++ p ∷ []) st.ended) goes)

  exit_fine : first_fault (faults trace st p Exit) ≡ None
  unfolding faults first_fault
  exit_fine = refl

  -- whom an operation of the first version ends
  pub operation_who : (op : Op) → IsTrue (is_of_version 1 op) → (after_operation trace p op st).ended ≡ ended_by op p st.ended
  unfolding after_operation count_done
  operation_who op first = go (is_exit op) refl
    where
      exits : (op : Op) → IsTrue (is_of_version 1 op) → is_exit op ≡ true → (effect_unless (first_fault (faults trace st p op)) trace p op st).ended ≡ ended_by op p st.ended
      exits Exit first e = ap (λ f. (effect_unless f trace p Exit st).ended) exit_fine ∙ effect_who Exit first
      exits _ first e = absurd (false≢true e)

      go : (b : Bool) → is_exit op ≡ b → (effect_unless (first_fault (faults trace st p op)) trace p op st).ended ≡ ended_by op p st.ended
      go true e = exits op first e
      go false e = unless_who (first_fault (faults trace st p op)) op first e

-- the end of a collection ends no process
collected_who : (trace : Trace) (st : State) (h : Heap) → (after_ended trace h st).ended ≡ st.ended
unfolding after_ended close_scan keep_shares keep_exits keep_objects
collected_who trace st h = refl

begun_goes : (p : ℕ) (op : Op) (h : Heap) → heap_begun p op ≡ Some h → is_exit op ≡ false
begun_goes p Exit h e = absurd (cc e)
begun_goes p (New r ty) h e = refl
begun_goes p (KNew r ty) h e = refl
begun_goes p (SNew r s ty) h e = refl
begun_goes p (Store base i value) h e = refl
begun_goes p (Load r base i) h e = refl
begun_goes p (Move r from) h e = refl
begun_goes p (Clear r) h e = refl
begun_goes p (Dir r) h e = refl
begun_goes p (Put base i number) h e = refl
begun_goes p (Get base i) h e = refl
begun_goes p Collect h e = refl
begun_goes p KCollect h e = refl
begun_goes p (Share s) h e = refl
begun_goes p (Freeze s root) h e = refl
begun_goes p (Attach r s) h e = refl
begun_goes p (Kill q) h e = refl
begun_goes p (Resize m max) h e = refl

-- the state in which a collection has begun has the same objects, registers and exit items
begun_alike : (trace : Trace) (x : State) (ended : List ℕ) (p : ℕ) (op : Op) (h : Heap) → heap_begun p op ≡ Some h → OwnsAlike trace x ended → OwnsAlike trace (after_operation trace p op x) ended
unfolding after_operation count_done faults first_fault effect open_scan
begun_alike trace x ended p Collect h e alike = record { own = alike.own; held = alike.held; exits = alike.exits }
begun_alike trace x ended p KCollect h e alike = record { own = alike.own; held = alike.held; exits = alike.exits }
begun_alike trace x ended p (New r ty) h e alike = absurd (cc e)
begun_alike trace x ended p (KNew r ty) h e alike = absurd (cc e)
begun_alike trace x ended p (SNew r s ty) h e alike = absurd (cc e)
begun_alike trace x ended p (Store base i value) h e alike = absurd (cc e)
begun_alike trace x ended p (Load r base i) h e alike = absurd (cc e)
begun_alike trace x ended p (Move r from) h e alike = absurd (cc e)
begun_alike trace x ended p (Clear r) h e alike = absurd (cc e)
begun_alike trace x ended p (Dir r) h e alike = absurd (cc e)
begun_alike trace x ended p (Put base i number) h e alike = absurd (cc e)
begun_alike trace x ended p (Get base i) h e alike = absurd (cc e)
begun_alike trace x ended p (Share s) h e alike = absurd (cc e)
begun_alike trace x ended p (Freeze s root) h e alike = absurd (cc e)
begun_alike trace x ended p (Attach r s) h e alike = absurd (cc e)
begun_alike trace x ended p Exit h e alike = absurd (cc e)
begun_alike trace x ended p (Kill q) h e alike = absurd (cc e)
begun_alike trace x ended p (Resize m max) h e alike = absurd (cc e)

-- only a collection of the kernel waits for orphans
pub waits_kernel : (op : Op) → waits_for_orphans op ≡ true → op ≡ KCollect
waits_kernel KCollect e = refl
waits_kernel _ e = absurd (false≢true e)

-- the operation, and what ends behind it
abbrev acts : Trace → State → ℕ → Op → Option Heap → List Event
acts trace st p op begun = with_end trace st (Done (record { 0 = p }) op (reply_to trace st p op)) begun

-- both machines have the same events, which leave twins
pub record DoAlike (trace : Trace) (rows : List LimitRow) (x y : State) (p : ℕ) (op : Op) (events others : List Event) : Type 0 where
  pub same : others ≡ events
  pub twins : AreTwins (run trace x events) (run (with_limits trace rows) y events)
  pub who : (run trace x events).ended ≡ ended_by op p x.ended
  pub who_other : (run (with_limits trace rows) y events).ended ≡ ended_by op p y.ended

module _ (trace : Trace) (rows : List LimitRow) (ended done : List ℕ) (p : ℕ) (op : Op) (first : IsTrue (is_of_version 1 op)) where
  abbrev other : Trace
  other = with_limits trace rows

  step_is : (t : Trace) (st : State) (events : List Event) → run t st (Done (record { 0 = p }) op (reply_to t st p op) ∷ events) ≡ run t (after_operation t p op st) events
  unfolding step
  step_is t st events = refl

  step_said : (t : Trace) (st : State) (said : Event) (e : said ≡ Done (record { 0 = p }) op (reply_to t st p op)) → step t st said ≡ after_operation t p op st
  unfolding step
  step_said t st said e = ap (step t st) e

  ends : (t u : Trace) (st su : State) (h : Heap) → step t st (end_of u su h) ≡ after_ended t h st
  unfolding step
  ends t u st su h = refl

  acts_alike : (x : State) → OwnsAlike trace x ended → faults other (twin x ended done) p op ≡ faults trace x p op → (begun : Option Heap) → heap_begun p op ≡ begun →
      DoAlike trace rows x (twin x ended done) p op (acts trace x p op begun) (acts other (twin x ended done) p op begun)
  acts_alike x alike fine None e =
      let y : State = twin x ended done in
      let said = ap (λ said. Done (record { 0 = p }) op said) (reply_same trace rows x ended done alike p op fine) in
      let here : step trace x (Done (record { 0 = p }) op (reply_to trace x p op)) ≡ after_operation trace p op x = step_said trace x _ refl in
      let there : step other y (Done (record { 0 = p }) op (reply_to trace x p op)) ≡ after_operation other p op y = step_said other y _ (sym said) in record {
        same = ap (λ event. event ∷ []) said;
        twins = subst (λ b. AreTwins (run trace x (acts trace x p op None)) b) (sym there) (subst (λ a. AreTwins a (after_operation other p op y)) (sym here) (operation_twin trace rows x ended done alike p op first fine));
        who = ap (λ (s : State). s.ended) here ∙ operation_who trace x p op first;
        who_other = ap (λ (s : State). s.ended) there ∙ operation_who other y p op first;
      }
  acts_alike x alike fine (Some h) e =
      let y : State = twin x ended done in
      let said = ap (λ said. Done (record { 0 = p }) op said) (reply_same trace rows x ended done alike p op fine) in
      let event : Event = Done (record { 0 = p }) op (reply_to trace x p op) in
      let here : step trace x event ≡ after_operation trace p op x = step_said trace x _ refl in
      let there : step other y event ≡ after_operation other p op y = step_said other y _ (sym said) in
      let a : State = after_operation trace p op x in
      let b : State = after_operation other p op y in
      let both : AreTwins a b = operation_twin trace rows x ended done alike p op first fine in
      let goes = begun_goes p op h e in
      let who_b : b.ended ≡ ended = operation_who other y p op first ∙ ap (λ g. cond g (ended ++ p ∷ []) ended) goes in
      let now : OwnsAlike trace a b.ended = subst (OwnsAlike trace a) (sym who_b) (begun_alike trace x ended p op h e alike) in
      let end_b : end_of other b h ≡ end_of trace a h = ap (λ (s : State). end_of other s h) both ∙ end_same trace rows a b.ended b.done now h in
      let over_a : run trace x (acts trace x p op (Some h)) ≡ after_ended trace h a = ends trace trace (step trace x event) (step trace x event) h ∙ ap (after_ended trace h) here in
      let over_b : run other y (acts trace x p op (Some h)) ≡ after_ended other h b = ends other trace (step other y event) (step trace x event) h ∙ ap (after_ended other h) there in
      let left : after_ended other h b ≡ twin (after_ended trace h a) b.ended b.done = ap (after_ended other h) both ∙ ended_twin trace rows a b.ended b.done now h in record {
        same =
            ap (λ d. d ∷ end_of other (step other y d) h ∷ []) said
            ∙ ap (λ end. event ∷ end ∷ []) (ap (λ (s : State). end_of other s h) there ∙ end_b ∙ ap (λ (s : State). end_of trace s h) (sym here));
        twins = subst (λ s. AreTwins (run trace x (acts trace x p op (Some h))) s) (sym over_b)
            (subst (λ s. AreTwins s (after_ended other h b)) (sym over_a) (twins_if (after_ended trace h a) (after_ended other h b) b.ended b.done left));
        who = ap (λ (s : State). s.ended) over_a ∙ collected_who trace a h ∙ operation_who trace x p op first;
        who_other = ap (λ (s : State). s.ended) over_b ∙ collected_who other b h ∙ operation_who other y p op first;
      }

module _ (trace : Trace) (rows : List LimitRow) (x : State) (ended done : List ℕ) (p : ℕ) where
  abbrev others : Trace
  others = with_limits trace rows

  abbrev y : State
  y = twin x ended done

  abbrev opened : Trace → State → Op → Bool → List Event
  opened t st op b = let first = cond b (absorptions t st) [] in first ++ acts t (run t st first) p op (heap_begun p op)

  -- an operation that waits for no orphans
  pub plain_alike : (op : Op) → IsTrue (is_of_version 1 op) → IsFalse (waits_for_orphans op) → OwnsAlike trace x ended → faults others y p op ≡ faults trace x p op →
      DoAlike trace rows x y p op (events_of trace x p (Some op)) (events_of others y p (Some op))
  plain_alike op first waits alike fine =
      subst (λ b. DoAlike trace rows x y p op (opened trace x op b) (opened others y op b)) (sym waits) (acts_alike trace rows ended done p op first x alike fine (heap_begun p op) refl)

  fine_now : (now : State) → faults others (twin now ended done) p KCollect ≡ faults trace now p KCollect
  unfolding faults
  fine_now now = refl

  -- a collection of the kernel waits for them
  pub kernel_alike : OwnsAlike trace x ended → DoAlike trace rows x y p KCollect (events_of trace x p (Some KCollect)) (events_of others y p (Some KCollect))
  kernel_alike alike =
      let absorbed : Absorbs trace rows x ended done (absorptions trace x) = orphans_absorbed trace rows x ended done alike in
      let first : List Event = absorptions trace x in
      let now : State = run trace x first in
      let rest : DoAlike trace rows now (twin now ended done) p KCollect (acts trace now p KCollect (Some Kernel)) (acts others (twin now ended done) p KCollect (Some Kernel)) =
      acts_alike trace rows ended done p KCollect refl now absorbed.alike (fine_now now) (Some Kernel) refl in
      let tail : List Event = acts trace now p KCollect (Some Kernel) in
      let joined_a : run trace x (first ++ tail) ≡ run trace now tail = run_append trace x first tail in
      let joined_b : run others y (first ++ tail) ≡ run others (twin now ended done) tail = run_append others y first tail ∙ ap (λ (s : State). run others s tail) absorbed.twins in record {
        same = ap (λ (s : State). first ++ acts others s p KCollect (Some Kernel)) absorbed.twins ∙ ap (λ events. first ++ events) rest.same;
        twins = subst (λ s. AreTwins (run trace x (first ++ tail)) s) (sym joined_b) (subst (λ s. AreTwins s (run others (twin now ended done) tail)) (sym joined_a) rest.twins);
        who = ap (λ (s : State). s.ended) joined_a ∙ rest.who ∙ ap (ended_by KCollect p) absorbed.who;
        who_other = ap (λ (s : State). s.ended) joined_b ∙ rest.who_other;
      }

  -- any operation of the first version
  pub all_alike : (op : Op) → IsTrue (is_of_version 1 op) → OwnsAlike trace x ended → faults others y p op ≡ faults trace x p op →
      DoAlike trace rows x y p op (events_of trace x p (Some op)) (events_of others y p (Some op))
  all_alike op first alike fine = go (waits_for_orphans op) refl
    where
      go : (b : Bool) → waits_for_orphans op ≡ b → DoAlike trace rows x y p op (events_of trace x p (Some op)) (events_of others y p (Some op))
      go true e = subst (λ op. DoAlike trace rows x y p op (events_of trace x p (Some op)) (events_of others y p (Some op))) (sym (waits_kernel op e)) (kernel_alike alike)
      go false e = plain_alike op first e alike fine
