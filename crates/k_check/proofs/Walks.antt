-- What a machine that walks along a history is, and how it goes on.
use Rattle.std.proofs.Common.{◌≡◌, ◌∙◌, ℕ, List, [], ◌∷◌, ◌++◌, length, get_or, Bool, true, refl, sym, ap, subst}
use Rattle.std.specs.Prelude.{slice_get}
use Rattle.std.specs.List.{AllByRecursion}
use Rattle.k_types.specs.declared.op.Op.{Op}
use Rattle.k_types.specs.Known.{IsKnownEvent}
use Rattle.k_laws.proofs.KnownLaws.{events_are_known}
use Rattle.k_solo.proofs.Lines.{setup_rules}
use Rattle.k_solo.specs.Runs.{Run}
use Rattle.k_types.specs.declared.event.Event.{Event}
use Rattle.k_types.specs.Effects.{step}
use Rattle.k_types.specs.Complete.{IsComplete}
use Rattle.k_types.specs.State.{State, opening}
use Rattle.k_types.specs.Steps.{IsPossible, done_by, state_after}
use Rattle.k_types.specs.Trace.{Trace, operations_of, process_count}
use Rattle.k_trace.specs.Named.{NamedTrace}
use Rattle.k_trace.specs.Rules.{IsTrace}
use Rattle.k_laws.proofs.Histories.{run_append}
use Rattle.k_laws.proofs.BoundsLaws.{operations_done_are_those_of_the_history}
use Rattle.k_reports.specs.Begun.{IsBegun}
use Rattle.k_state.specs.Machines.{Machine}
use Rattle.k_state.specs.Setups.{setup_of}
use Rattle.k_solo.proofs.Unread.{legal_unread, possible_read, possible_unread, step_unread}
use Rattle.k_check.specs.Walks.{IsWalk, Walked}

-- A machine that was just opened.
pub begins : (t : NamedTrace) (m : Machine) → IsTrace t → m ≡ record { setup = setup_of t.trace; state = opening t.trace } → IsWalk (record { trace = t; history = [] }) m
begins t m is e = record {
  is_trace = is;
  begun = record { legal = tt; in_order = λ p below. (_, refl) };
  setup = ap (λ (n : Machine). n.setup) e;
  state = ap (λ (n : Machine). n.state) e;
}

-- How many operations the machine counts for a process.
pub done_is : (w : Walked) (m : Machine) → IsWalk w m → (p : ℕ) → get_or m.state.done p 0 ≡ length (done_by p w.history)
done_is w m walk p = ap (λ (st : State). get_or st.done p 0) walk.state ∙ operations_done_are_those_of_the_history w.trace.trace p w.history walk.begun.legal

-- What the machine can do is what can come next.
pub possible_here : (w : Walked) (m : Machine) (e : Event) → IsWalk w m → IsPossible m.setup m.state e → IsPossible w.trace.trace (state_after w.trace.trace w.history) e
possible_here w m e walk may =
    subst (λ (st : State). IsPossible w.trace.trace st e) walk.state (possible_read w.trace.trace m.state e (subst (λ (setup : Trace). IsPossible setup m.state e) walk.setup may))

pub possible_there : (w : Walked) (m : Machine) (e : Event) → IsWalk w m → IsPossible w.trace.trace (state_after w.trace.trace w.history) e → IsPossible m.setup m.state e
possible_there w m e walk may =
    subst (λ (setup : Trace). IsPossible setup m.state e) (sym walk.setup) (possible_unread w.trace.trace m.state e (subst (λ (st : State). IsPossible w.trace.trace st e) (sym walk.state) may))

-- The machine after one event more.
pub goes_on : (t : NamedTrace) (history more : List Event) (m n : Machine) (e : Event) → IsWalk (record { trace = t; history = history }) m → IsBegun t.trace (history ++ e ∷ []) → n.setup ≡ m.setup → n.state ≡ step m.setup m.state e
    → more ≡ history ++ e ∷ [] → IsWalk (record { trace = t; history = more }) n
goes_on t history more m n e walk begun setup state is = subst (λ (h : List Event). IsWalk (record { trace = t; history = h }) n) (sym is) (record {
  is_trace = walk.is_trace;
  begun = begun;
  setup = setup ∙ walk.setup;
  state = state ∙ ap (λ (s : Trace). step s m.state e) walk.setup ∙ sym (step_unread t.trace m.state e) ∙ ap (λ (st : State). step t.trace st e) walk.state ∙ sym (run_append t.trace (opening t.trace) history (e ∷ []));
})

-- ---- whether the history is complete

-- What is said of all traces of which the machine tells, is said of the walk's.
pub complete_is : (w : Walked) (m : Machine) (ops : List (List Op)) (events : List Event) (b : Bool) → IsWalk w m → ops ≡ w.trace.trace.operations → events ≡ w.history
    → ((trace : Trace) → setup_of trace ≡ m.setup → trace.operations ≡ ops → state_after trace events ≡ m.state → (b ≡ true → IsComplete trace events) × (IsComplete trace events → b ≡ true))
    → (b ≡ true → IsComplete w.trace.trace w.history) × (IsComplete w.trace.trace w.history → b ≡ true)
complete_is w m ops events b walk same all said =
    subst (λ (es : List Event). (b ≡ true → IsComplete w.trace.trace es) × (IsComplete w.trace.trace es → b ≡ true)) all
    (said w.trace.trace (sym walk.setup) (sym same) (ap (state_after w.trace.trace) all ∙ sym walk.state))

-- ---- processes

-- The operation of a process at the number that it has done.
pub next_found : (w : Walked) (m : Machine) → IsWalk w m → (operations : List (List Op)) → operations ≡ w.trace.trace.operations → (p done : ℕ) → done ≡ get_or m.state.done p 0
    → slice_get (get_or operations p []) done ≡ slice_get (operations_of w.trace.trace p) (length (done_by p w.history))
next_found w m walk operations same p done is =
    ap (λ (ops : List (List Op)). slice_get (get_or ops p []) done) same ∙ ap (slice_get (operations_of w.trace.trace p)) (is ∙ done_is w m walk p)

-- How many processes the machine tells.
pub count_is : (w : Walked) (m : Machine) → IsWalk w m → process_count m.setup ≡ process_count w.trace.trace
count_is w m walk = ap process_count walk.setup

-- ---- what is shown at the end

pub known_here : (w : Walked) (m : Machine) → IsWalk w m → AllByRecursion (IsKnownEvent m.setup) w.history
known_here w m walk =
    subst (λ (setup : Trace). AllByRecursion (IsKnownEvent setup) w.history) (sym walk.setup)
    (events_are_known (setup_of w.trace.trace) w.history (setup_rules w.trace.trace walk.is_trace.rules).limits (legal_unread w.trace.trace (opening w.trace.trace) w.history walk.begun.legal))

pub run_here : (w : Walked) (m : Machine) (end : Run) → IsWalk w m → end ≡ record { machine = m; events = w.history } → end ≡ record { machine = record { setup = setup_of w.trace.trace; state = state_after w.trace.trace w.history }; events = w.history }
run_here w m end walk is = is ∙ ap (λ (setup : Trace). record { machine = record { setup = setup; state = m.state }; events = w.history }) walk.setup
    ∙ ap (λ (st : State). record { machine = record { setup = setup_of w.trace.trace; state = st }; events = w.history }) walk.state
