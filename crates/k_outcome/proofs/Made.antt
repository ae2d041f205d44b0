-- The serials that segments have given are told by the replies of the journal.
use Rattle.std.proofs.Common.{◌≡◌, ℕ, zero, suc, ◌+◌, ◌^◌, ◌<◌, ◌≤◌, ◌==◌, refl, sym, ap, ◌∙◌, subst, List, [], ◌∷◌, get_or, length, take, Option, Some, None, slice_get, arith}
use Rattle.std.specs.Prelude.{IfSome}
use Rattle.std.specs.List.{AllByRecursion}
use Rattle.std.proofs.lemmas.List.{length-take}
use Rattle.std.proofs.lemmas.Option.{slice_get_within}
use Rattle.k_types.specs.declared.event.Event.{Event}
use Rattle.k_types.specs.declared.event.Event.TheVariants.{Absorbed, Closing, Done, Ended}
use Rattle.k_types.specs.declared.event.Fault.{Fault}
use Rattle.k_types.specs.declared.event.Reply.{Reply}
use Rattle.k_types.specs.declared.event.Reply.TheVariants.{Done as DoneReply, Loaded, Made, Refused, Value}
use Rattle.k_types.specs.declared.names.Name.{Name}
use Rattle.k_types.specs.declared.op.Op.{Op}
use Rattle.k_types.specs.declared.op.Op.TheVariants.{Store, Put, Freeze, Kill}
use Rattle.k_types.specs.Effects.{after_absorbed, after_closing, after_end_of, after_ended, after_operation, effect, effect_unless, step}
use Rattle.k_types.specs.Replies.{answer, faults, first_fault, refused_or, reply_to}
use Rattle.k_types.specs.Known.{IsKnownEvent, IsKnownName, IsKnownReply}
use Rattle.k_types.specs.State.{State, opening, register}
use Rattle.k_types.specs.Steps.{IsLegalHistory, IsPossible, IsRun, run, state_after}
use Rattle.k_types.specs.Trace.{Trace}
use Rattle.k_types.specs.Updates.{add_share, clear_registers, close, close_scan, count_done, create, end_process, keep_exits, keep_objects, keep_shares, open_scan, set_max, set_phase, set_register, turn_exits}
use Rattle.k_laws.proofs.Counting.{count_low, one_if_low}
use Rattle.k_laws.proofs.SerialBounds.{serials_at_most_allocations}
use Rattle.k_laws.specs.Counts.{has_allocated_in}
use Rattle.k_types.proofs.Lists.{if_some}
use Rattle.k_laws.proofs.Sizes.{history_sized}
use Rattle.k_laws.proofs.Rest.{freeze_rest, kill_rest, put_rest, store_rest}
use Rattle.k_outcome.specs.Listed.{made_by, made_in_reply, with_given}
use Rattle.k_laws.proofs.SetupShapes.{all_got}

module _ (trace : Trace) where
  effect_given : (st : State) (p : ℕ) (op : Op) → (effect trace p op st).made ≡ with_given (made_in_reply (answer trace st p op)) st.made
  unfolding effect answer set_register create open_scan add_share set_phase after_end_of end_process clear_registers keep_shares turn_exits set_max
  effect_given st p (Store base i value) = ap (λ (s : State). s.made) (store_rest trace st (register st.registers p base.0) i (register st.registers p value.0))
  effect_given st p (Put base i number) = ap (λ (s : State). s.made) (put_rest st (register st.registers p base.0) i number)
  effect_given st p (Freeze s root) = ap (λ (s : State). s.made) (freeze_rest st s.0 (register st.registers p root.0))
  effect_given st p (Kill q) = ap (λ (s : State). s.made) (kill_rest trace st q.0)
  effect_given st p _ = refl

  unless_given : (fault : Option Fault) (st : State) (p : ℕ) (op : Op) → (effect_unless fault trace p op st).made ≡ with_given (made_in_reply (refused_or fault (answer trace st p op))) st.made
  unless_given None st p op = effect_given st p op
  unless_given (Some fault) st p op = refl

  step_given : (st : State) (event : Event) → IsPossible trace st event → (step trace st event).made ≡ with_given (made_by event) st.made
  unfolding step after_operation reply_to count_done after_ended after_absorbed after_closing close_scan keep_shares keep_exits keep_objects close set_phase open_scan
  step_given st (Done pid op said) may =
      unless_given (first_fault (faults trace st pid.0 op)) st pid.0 op ∙ ap (λ (r : Reply). with_given (made_in_reply r) st.made) (sym may.replied)
  step_given st (Ended h a b c d) may = refl
  step_given st (Absorbed s) may = refl
  step_given st Closing may = refl

  run_given : (st : State) (events : List Event) (i : ℕ) (event : Event) → IsRun trace st events → slice_get events i ≡ Some event →
      (run trace st (take (suc i) events)).made ≡ with_given (made_by event) (run trace st (take i events)).made
  run_given st [] i event legal at = absurd (cc at)
  run_given st (first ∷ events) zero event legal at =
      let same : first ≡ event = cc at in
      step_given st first legal.0 ∙ ap (λ (e : Event). with_given (made_by e) st.made) same
  run_given st (first ∷ events) (suc i) event legal at = run_given (step trace st first) events i event legal.1 at

  -- one event more
  pub given_more : (history : List Event) (i : ℕ) (event : Event) → IsLegalHistory trace history → slice_get history i ≡ Some event →
      (state_after trace (take (i + 1) history)).made ≡ with_given (made_by event) (state_after trace (take i history)).made
  given_more history i event legal at =
      let next : suc i ≡ i + 1 = omega arith in
      ap (λ n. (state_after trace (take n history)).made) (sym next) ∙ run_given (opening trace) history i event legal at

  -- a segment has given at most one serial for each event, and one more
  pub given_low : (history : List Event) (seg : ℕ) → get_or (state_after trace history).made seg 0 ≤ 1 + length history
  given_low history seg =
      omega (arith, serials_at_most_allocations trace history seg, count_low (has_allocated_in trace seg) history, one_if_low (seg == 0))

  made_known : (said : Reply) (n : Name) → IsKnownReply trace said → made_in_reply said ≡ Some n → IsKnownName trace n
  made_known DoneReply n known is = absurd (cc is)
  made_known (Made m) n known is = let same : m ≡ n = cc is in subst (IsKnownName trace) same known
  made_known (Loaded r) n known is = absurd (cc is)
  made_known (Value number) n known is = absurd (cc is)
  made_known (Refused fault) n known is = absurd (cc is)

  name_known : (event : Event) (n : Name) → IsKnownEvent trace event → made_by event ≡ Some n → IsKnownName trace n
  name_known (Done pid op said) n known is = made_known said n known.2 is
  name_known (Ended h a b c d) n known is = absurd (cc is)
  name_known (Absorbed s) n known is = absurd (cc is)
  name_known Closing n known is = absurd (cc is)

  -- one more can be counted
  pub can_count : (history : List Event) (made : List ℕ) (i : ℕ) (event : Event) → AllByRecursion (IsKnownEvent trace) history → length history < 2 ^ 31 → slice_get history i ≡ Some event →
      made ≡ (state_after trace (take i history)).made → IfSome (made_by event) (λ n. (n.seg.0 < length made) × (get_or made n.seg.0 0 + 1 < 2 ^ 32))
  can_count history made i event known few at is =
      if_some (λ n. (n.seg.0 < length made) × (get_or made n.seg.0 0 + 1 < 2 ^ 32)) (made_by event) (λ n names. (
        subst (λ k. n.seg.0 < k) (sym (ap length is ∙ (history_sized trace (take i history)).made)) (name_known event n (all_got (IsKnownEvent trace) history i event known at) names),
        omega (arith, ap (λ (xs : List ℕ). get_or xs n.seg.0 0) is, given_low (take i history) n.seg.0, length-take i history, slice_get_within history i event at, few),
      ))
