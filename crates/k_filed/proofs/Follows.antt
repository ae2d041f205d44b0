-- A machine that does the operations of a trace in the order of the file.
use Rattle.std.proofs.Common.{◌≡◌, ℕ, ap, ap₂, subst, sym, ◌∙◌, List, [], ◌∷◌, ◌++◌, Option, Some, None}
use Rattle.std.proofs.lemmas.List.{append_assoc}
use Rattle.std.specs.List.{AllByRecursion}
use Rattle.k_types.specs.declared.op.Op.{Op}
use Rattle.k_types.specs.declared.event.Event.{Event}
use Rattle.k_types.specs.FileOrder.{events_of, file_order, file_order_from, last_events, next_operation}
use Rattle.k_types.specs.Known.{IsKnownEvent}
use Rattle.k_types.specs.State.{State, opening}
use Rattle.k_types.specs.Steps.{IsRun, run, state_after}
use Rattle.k_types.specs.Trace.{Trace}
use Rattle.k_types.specs.TraceRules.{KeepsRules}
use Rattle.k_laws.proofs.Histories.{legal_front, legal_rest, run_append}
use Rattle.k_laws.proofs.KnownEvents.{history_known}
use Rattle.k_plain.proofs.FileOrders.{file_order_complete, file_order_legal, order_end}
use Rattle.k_state.specs.Machines.{Machine}
use Rattle.k_state.specs.Setups.{setup_of}
use Rattle.k_solo.specs.Runs.{IsFiled}
use Rattle.k_filed.specs.Taken.{HasTaken}
use Rattle.k_solo.proofs.Lines.{setup_rules}
use Rattle.k_solo.proofs.Unread.{events_unread, last_unread, legal_unread, run_unread}

-- the machine has taken these events, the first ones of the file's order, and the order is what is left
pub record Follows (trace : Trace) (m : Machine) (events : List Event) (order : List ℕ) : Type 0 where
  pub setup : m.setup ≡ setup_of trace
  pub after : m.state ≡ state_after trace events
  pub filed : events ++ file_order_from trace m.state order ≡ file_order trace

-- the events of a part, and those that follow them
abbrev followed : Trace → State → List ℕ → List Event → List Event
followed trace st order events = events ++ file_order_from trace (run trace st events) order

order_next : (trace : Trace) (st : State) (p : ℕ) (order : List ℕ) (op : Option Op) → next_operation trace st p ≡ op →
    file_order_from trace st (p ∷ order) ≡ followed trace st order (events_of trace st p op)
unfolding file_order_from
order_next trace st p order op e = ap (λ o. followed trace st order (events_of trace st p o)) e

pub follows_none : (trace : Trace) (m : Machine) (events : List Event) (p : ℕ) (order : List ℕ) → next_operation trace m.state p ≡ None →
    Follows trace m events (p ∷ order) → Follows trace m events order
follows_none trace m events p order e f = record {
  setup = f.setup;
  after = f.after;
  filed = ap (λ rest. events ++ rest) (sym (order_next trace m.state p order None e)) ∙ f.filed;
}

-- what is left of the order is a run of the machine
rest_legal : (trace : Trace) (m : Machine) (events rest : List Event) → KeepsRules trace → m.state ≡ state_after trace events → events ++ rest ≡ file_order trace →
    IsRun trace m.state rest
rest_legal trace m events rest rules after filed =
    subst (λ (st : State). IsRun trace st rest) (sym after)
    (legal_rest trace (opening trace) events rest (subst (IsRun trace (opening trace)) (sym filed) (file_order_legal trace rules.operations)))

-- the next operation's events are one
pub line_legal : (trace : Trace) (m : Machine) (events : List Event) (p : ℕ) (order : List ℕ) (op : Op) → KeepsRules trace → next_operation trace m.state p ≡ Some op →
    Follows trace m events (p ∷ order) → IsRun m.setup m.state (events_of m.setup m.state p (Some op))
line_legal trace m events p order op rules e f =
    let filed = ap (λ rest. events ++ rest) (sym (order_next trace m.state p order (Some op) e)) ∙ f.filed in
    let legal = legal_front trace m.state (events_of trace m.state p (Some op)) (file_order_from trace (run trace m.state (events_of trace m.state p (Some op))) order)
    (rest_legal trace m events (followed trace m.state order (events_of trace m.state p (Some op))) rules f.after filed) in
    subst (λ (t : Trace). IsRun t m.state (events_of t m.state p (Some op))) (sym f.setup)
    (legal_unread trace m.state (events_of (setup_of trace) m.state p (Some op)) (subst (IsRun trace m.state) (events_unread trace m.state p (Some op)) legal))

-- and so are the last events
pub last_legal : (trace : Trace) (m : Machine) (events : List Event) → KeepsRules trace → Follows trace m events [] → IsRun m.setup m.state (last_events m.setup m.state)
last_legal trace m events rules f =
    let filed = ap (λ rest. events ++ rest) (sym (order_end trace m.state)) ∙ f.filed in
    let legal = rest_legal trace m events (last_events trace m.state) rules f.after filed in
    subst (λ (t : Trace). IsRun t m.state (last_events t m.state)) (sym f.setup)
    (legal_unread trace m.state (last_events (setup_of trace) m.state) (subst (IsRun trace m.state) (last_unread trace m.state) legal))

-- the state after events that the machine has taken
taken_after : (trace : Trace) (m after : Machine) (events newer taken : List Event) → m.setup ≡ setup_of trace → m.state ≡ state_after trace events →
    HasTaken m after events newer taken → after.state ≡ state_after trace newer
taken_after trace m after events newer taken setup here t =
    t.state ∙ ap (λ (s : Trace). run s m.state taken) setup ∙ sym (run_unread trace m.state taken) ∙ ap (λ (st : State). run trace st taken) here
    ∙ sym (run_append trace (opening trace) events taken) ∙ ap (state_after trace) (sym t.journal)

pub follows_some : (trace : Trace) (m after : Machine) (events newer : List Event) (p : ℕ) (order : List ℕ) (op : Op) → next_operation trace m.state p ≡ Some op →
    HasTaken m after events newer (events_of m.setup m.state p (Some op)) → Follows trace m events (p ∷ order) → Follows trace after newer order
follows_some trace m after events newer p order op e taken f =
    let own : events_of m.setup m.state p (Some op) ≡ events_of trace m.state p (Some op)
    = ap (λ (s : Trace). events_of s m.state p (Some op)) f.setup ∙ sym (events_unread trace m.state p (Some op)) in
    let t : HasTaken m after events newer (events_of trace m.state p (Some op)) = subst (HasTaken m after events newer) own taken in
    let moved : after.state ≡ run trace m.state (events_of trace m.state p (Some op))
    = t.state ∙ ap (λ (s : Trace). run s m.state (events_of trace m.state p (Some op))) f.setup ∙ sym (run_unread trace m.state (events_of trace m.state p (Some op))) in
    record {
      setup = t.setup ∙ f.setup;
      after = taken_after trace m after events newer (events_of trace m.state p (Some op)) f.setup f.after t;
      filed = ap₂ (λ es (st : State). es ++ file_order_from trace st order) t.journal moved
          ∙ append_assoc events (events_of trace m.state p (Some op)) (file_order_from trace (run trace m.state (events_of trace m.state p (Some op))) order)
          ∙ ap (λ rest. events ++ rest) (sym (order_next trace m.state p order (Some op) e)) ∙ f.filed;
    }

-- all events are those of the file's order, once the last ones are taken
all_taken : (trace : Trace) (m after : Machine) (events newer : List Event) → Follows trace m events [] → HasTaken m after events newer (last_events m.setup m.state) →
    newer ≡ file_order trace
all_taken trace m after events newer f taken =
    taken.journal
    ∙ ap (λ rest. events ++ rest) (ap (λ (s : Trace). last_events s m.state) f.setup ∙ sym (last_unread trace m.state) ∙ sym (order_end trace m.state)) ∙ f.filed

-- they name what the setup declares
pub last_known : (trace : Trace) (m after : Machine) (events newer : List Event) → KeepsRules trace → Follows trace m events [] →
    HasTaken m after events newer (last_events m.setup m.state) → AllByRecursion (IsKnownEvent after.setup) newer
last_known trace m after events newer rules f taken =
    let legal = legal_unread trace (opening trace) (file_order trace) (file_order_legal trace rules.operations) in
    let known : AllByRecursion (IsKnownEvent (setup_of trace)) (file_order trace) = history_known (setup_of trace) (file_order trace) (setup_rules trace rules).limits legal in
    subst (λ (s : Trace). AllByRecursion (IsKnownEvent s) newer) (sym (taken.setup ∙ f.setup))
    (subst (λ (es : List Event). AllByRecursion (IsKnownEvent (setup_of trace)) es) (sym (all_taken trace m after events newer f taken)) known)

-- the run at the end
pub filed_run : (trace : Trace) (m after : Machine) (events newer : List Event) → KeepsRules trace → Follows trace m events [] →
    HasTaken m after events newer (last_events m.setup m.state) → IsFiled trace (record { machine = after; events = newer })
filed_run trace m after events newer rules f taken =
    let own : last_events m.setup m.state ≡ last_events trace m.state
    = ap (λ (s : Trace). last_events s m.state) f.setup ∙ sym (last_unread trace m.state) in
    let t : HasTaken m after events newer (last_events trace m.state) = subst (HasTaken m after events newer) own taken in
    let all = all_taken trace m after events newer f taken in
    record {
      setup = t.setup ∙ f.setup;
      events = all;
      state = taken_after trace m after events newer (last_events trace m.state) f.setup f.after t ∙ ap (state_after trace) all;
      legal = file_order_legal trace rules.operations;
      complete = file_order_complete trace rules.operations;
    }
