-- What a legal history does of each process: nothing more once it has ended, and operations that are in range.
use Rattle.std.proofs.Common.{◌≡◌, ◌∙◌, ℕ, ◌+◌, ◌≤◌, Bool, true, false, cond, eqb, nat_lt, List, [], ◌∷◌, ◌++◌, length, refl, sym, ap, subst, arith, inl, inr, eq-eqb, ne_eqb, IsTrue}
use Rattle.std.proofs.lemmas.Bool.{and_from, and_parts, cases_eq, false≢true, lt-ltb, or_left, or_right}
use Rattle.std.proofs.lemmas.List.Folds.{list_any-append}
use Rattle.std.proofs.lemmas.List.Sums.{sum_by-cons}
use Rattle.std.specs.Prelude.{count_by}
use Rattle.std.specs.List.{list_all}
use Rattle.k_types.specs.declared.event.Event.{Event}
use Rattle.k_types.specs.declared.event.Event.TheVariants.{Done, Ended, Absorbed, Closing}
use Rattle.k_types.specs.declared.event.Reply.{Reply}
use Rattle.k_types.specs.declared.names.Pid.{Pid}
use Rattle.k_types.specs.declared.op.Op.{Op}
use Rattle.k_types.specs.declared.op.Op.TheVariants.{Exit, Kill, Resize}
use Rattle.k_types.specs.Effects.{after_end_of, after_operation, effect, step}
use Rattle.k_types.specs.Names.{among}
use Rattle.k_types.specs.Replies.{faults, first_fault}
use Rattle.k_types.specs.State.{State}
use Rattle.k_types.specs.Steps.{IsRun, done_by, in_range}
use Rattle.k_types.specs.Trace.{Trace, process_count}
use Rattle.k_types.specs.TraceRules.{EndsWithExit, is_exit, is_of_version, is_spelled}
use Rattle.k_types.specs.Updates.{clear_registers, count_done, end_process, keep_shares, turn_exits}
use Rattle.k_laws.specs.Counts.{operation_count}
use Rattle.k_laws.proofs.Owning.{step_ended}
use Rattle.k_solo.proofs.Unread.{possible_read, step_unread}
use Rattle.k_state.specs.Setups.{setup_of}
use Rattle.k_spell.specs.Spelled.{is_spelled_event}
use Rattle.k_print.specs.Done.{order_of}

-- one operation more, or none
all_with : (test : Op → Bool) (here : Bool) (op : Op) (ops : List Op) → IsTrue (test op) → IsTrue (list_all test ops) → IsTrue (list_all test (cond here (op ∷ ops) ops))
all_with test true op ops one all = and_from (test op) (list_all test ops) one all
all_with test false op ops one all = all

-- nothing follows an exit where nothing follows the first operation if that is one
ends_first : (op : Op) (ops : List Op) → EndsWithExit ops → (IsTrue (is_exit op) → ops ≡ []) → EndsWithExit (op ∷ ops)
ends_first op ops later none [] x rest parted exit =
    let same : op ≡ x = cc in
    let all : ops ≡ rest = cc in
    sym all ∙ none (ap is_exit same ∙ exit)
ends_first op ops later none (f ∷ first) x rest parted exit = let all : ops ≡ first ++ x ∷ rest = cc in later first x rest all exit

pub ends_none : EndsWithExit []
ends_none [] op rest parted exit = absurd (cc)
ends_none (f ∷ first) op rest parted exit = absurd (cc)

exit_is : (op : Op) → IsTrue (is_exit op) → op ≡ Exit
exit_is Exit exit = refl
exit_is _ exit = absurd (false≢true exit)

-- all operations are of the second version
pub of_second : (op : Op) → is_of_version 2 op ≡ true
of_second (Kill q) = refl
of_second (Resize m max) = refl
of_second _ = refl

pub all_second : (ops : List Op) → IsTrue (list_all (is_of_version 2) ops)
all_second [] = refl
all_second (op ∷ ops) = and_from (is_of_version 2 op) (list_all (is_of_version 2) ops) (of_second op) (all_second ops)

-- the operations of a process are among those of all
pub spelled_each : (p : ℕ) (events : List Event) → IsTrue (list_all is_spelled_event events) → IsTrue (list_all is_spelled (done_by p events))
spelled_each p [] all = refl
spelled_each p (Done pid op said ∷ events) all = let parts = and_parts (is_spelled op) (list_all is_spelled_event events) all in all_with is_spelled (eqb pid.0 p) op (done_by p events) parts.0 (spelled_each p events parts.1)
spelled_each p (Ended h a b c d ∷ events) all = spelled_each p events all
spelled_each p (Absorbed s ∷ events) all = spelled_each p events all
spelled_each p (Closing ∷ events) all = spelled_each p events all

-- each operation is one of its process
pub counted_each : (p : ℕ) (events : List Event) → count_by (λ q. eqb q p) (order_of events) ≡ length (done_by p events)
counted_each p [] = refl
counted_each p (Done pid op said ∷ events) = sum_by-cons (λ q. cond (eqb q p) 1 0) pid.0 (order_of events) ∙ go (eqb pid.0 p) (counted_each p events)
  where
    go : (b : Bool) → count_by (λ q. eqb q p) (order_of events) ≡ length (done_by p events) → cond b 1 0 + count_by (λ q. eqb q p) (order_of events) ≡ length (cond b (op ∷ done_by p events) (done_by p events))
    go true rest = omega (arith, rest)
    go false rest = omega (arith, rest)
counted_each p (Ended h a b c d ∷ events) = counted_each p events
counted_each p (Absorbed s ∷ events) = counted_each p events
counted_each p (Closing ∷ events) = counted_each p events

-- and together they are as many as operations are done
pub counted_all : (events : List Event) → length (order_of events) ≡ operation_count events
counted_all [] = refl
counted_all (Done pid op said ∷ events) = let rest = counted_all events in omega (arith, rest)
counted_all (Ended h a b c d ∷ events) = let rest = counted_all events in omega (arith, rest)
counted_all (Absorbed s ∷ events) = let rest = counted_all events in omega (arith, rest)
counted_all (Closing ∷ events) = let rest = counted_all events in omega (arith, rest)

pub order_append : (xs ys : List Event) → order_of (xs ++ ys) ≡ order_of xs ++ order_of ys
order_append [] ys = refl
order_append (Done pid op said ∷ xs) ys = ap (λ ps. pid.0 ∷ ps) (order_append xs ys)
order_append (Ended h a b c d ∷ xs) ys = order_append xs ys
order_append (Absorbed s ∷ xs) ys = order_append xs ys
order_append (Closing ∷ xs) ys = order_append xs ys

module _ (trace : Trace) where
  -- a process that does an exit has ended then
  exit_ends : (st : State) (p : ℕ) (said : Reply) → IsTrue (among p (step trace st (Done (record { 0 = p }) Exit said)).ended)
  unfolding step after_operation first_fault faults effect after_end_of end_process clear_registers keep_shares turn_exits count_done
  exit_ends st p said = list_any-append (λ m. eqb m p) st.ended (p ∷ []) ∙ or_right (among p st.ended) _ (or_left (eqb p p) false (eq-eqb p p refl))

  last_of : (st : State) (pid : Pid) (op : Op) (said : Reply) (p : ℕ) → pid.0 ≡ p → IsTrue (is_exit op) → IsTrue (among p (step trace st (Done pid op said)).ended)
  last_of st pid op said p same exit =
      subst (λ q. IsTrue (among q (step trace st (Done pid op said)).ended)) same
      (subst (λ o. IsTrue (among pid.0 (step trace st (Done pid o said)).ended)) (sym (exit_is op exit)) (exit_ends st pid.0 said))

  -- who has ended does nothing more
  pub done_none : (st : State) (p : ℕ) (events : List Event) → IsTrue (among p st.ended) → IsRun trace st events → done_by p events ≡ []
  done_none st p [] gone run = refl
  done_none st p (Done pid op said ∷ events) gone run = elim (cases_eq pid.0 p) [
    | inl same ↦ absurd (false≢true (sym run.0.lives ∙ ap (λ q. among q st.ended) same ∙ gone))
    | inr apart ↦ ap (λ b. cond b (op ∷ done_by p events) (done_by p events)) (ne_eqb pid.0 p apart) ∙ done_none (step trace st (Done pid op said)) p events (step_ended trace st (Done pid op said) p gone) run.1
  ]
  done_none st p (Ended h a b c d ∷ events) gone run = done_none (step trace st (Ended h a b c d)) p events (step_ended trace st (Ended h a b c d) p gone) run.1
  done_none st p (Absorbed s ∷ events) gone run = done_none (step trace st (Absorbed s)) p events (step_ended trace st (Absorbed s) p gone) run.1
  done_none st p (Closing ∷ events) gone run = done_none (step trace st Closing) p events (step_ended trace st Closing p gone) run.1

  -- so nothing follows an exit
  pub ends_each : (st : State) (p : ℕ) (events : List Event) → IsRun trace st events → EndsWithExit (done_by p events)
  ends_each st p [] run = ends_none
  ends_each st p (Done pid op said ∷ events) run = elim (cases_eq pid.0 p) [
    | inl same ↦
        subst EndsWithExit (sym (ap (λ b. cond b (op ∷ done_by p events) (done_by p events)) (eq-eqb pid.0 p same)))
        (ends_first op (done_by p events) (ends_each (step trace st (Done pid op said)) p events run.1)
        (λ exit. done_none (step trace st (Done pid op said)) p events (last_of st pid op said p same exit) run.1))
    | inr apart ↦
        subst EndsWithExit (sym (ap (λ b. cond b (op ∷ done_by p events) (done_by p events)) (ne_eqb pid.0 p apart))) (ends_each (step trace st (Done pid op said)) p events run.1)
  ]
  ends_each st p (Ended h a b c d ∷ events) run = ends_each (step trace st (Ended h a b c d)) p events run.1
  ends_each st p (Absorbed s ∷ events) run = ends_each (step trace st (Absorbed s)) p events run.1
  ends_each st p (Closing ∷ events) run = ends_each (step trace st Closing) p events run.1

  -- each operation is in range, and of a process of the trace
  pub ranged_each : (st : State) (p : ℕ) (events : List Event) → IsRun trace st events → IsTrue (list_all (in_range trace) (done_by p events))
  ranged_each st p [] run = refl
  ranged_each st p (Done pid op said ∷ events) run = all_with (in_range trace) (eqb pid.0 p) op (done_by p events) run.0.in_range (ranged_each (step trace st (Done pid op said)) p events run.1)
  ranged_each st p (Ended h a b c d ∷ events) run = ranged_each (step trace st (Ended h a b c d)) p events run.1
  ranged_each st p (Absorbed s ∷ events) run = ranged_each (step trace st (Absorbed s)) p events run.1
  ranged_each st p (Closing ∷ events) run = ranged_each (step trace st Closing) p events run.1

  pub order_known : (st : State) (events : List Event) → IsRun trace st events → IsTrue (list_all (λ p. nat_lt p (process_count trace)) (order_of events))
  order_known st [] run = refl
  order_known st (Done pid op said ∷ events) run =
      and_from (nat_lt pid.0 (process_count trace)) (list_all (λ p. nat_lt p (process_count trace)) (order_of events)) (lt-ltb pid.0 (process_count trace) run.0.known) (order_known (step trace st (Done pid op said)) events run.1)
  order_known st (Ended h a b c d ∷ events) run = order_known (step trace st (Ended h a b c d)) events run.1
  order_known st (Absorbed s ∷ events) run = order_known (step trace st (Absorbed s)) events run.1
  order_known st (Closing ∷ events) run = order_known (step trace st Closing) events run.1

  -- a number that is no process does nothing
  pub done_past : (st : State) (p : ℕ) (events : List Event) → process_count trace ≤ p → IsRun trace st events → done_by p events ≡ []
  done_past st p [] past run = refl
  done_past st p (Done pid op said ∷ events) past run =
      let low = run.0.known in
      ap (λ b. cond b (op ∷ done_by p events) (done_by p events)) (ne_eqb pid.0 p (λ same. omega (arith, low, same, past))) ∙ done_past (step trace st (Done pid op said)) p events past run.1
  done_past st p (Ended h a b c d ∷ events) past run = done_past (step trace st (Ended h a b c d)) p events past run.1
  done_past st p (Absorbed s ∷ events) past run = done_past (step trace st (Absorbed s)) p events past run.1
  done_past st p (Closing ∷ events) past run = done_past (step trace st Closing) p events past run.1

  -- a run of the setup is one of the trace
  pub legal_read : (st : State) (events : List Event) → IsRun (setup_of trace) st events → IsRun trace st events
  legal_read st [] run = tt
  legal_read st (event ∷ events) run = (
    possible_read trace st event run.0,
    legal_read (step trace st event) events (subst (λ (after : State). IsRun (setup_of trace) after events) (sym (step_unread trace st event)) run.1),
  )
