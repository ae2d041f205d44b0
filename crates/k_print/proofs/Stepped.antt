-- A machine on the way through a journal.
use Rattle.std.proofs.Common.{◌≡◌, ℕ, ◌+◌, ◌≤◌, sym, ap, ◌∙◌, subst, List, [], ◌∷◌, ◌++◌, Some, length, take, drop, arith}
use Rattle.std.specs.Prelude.{slice_get}
use Rattle.std.proofs.lemmas.List.{length-append, take-append-drop, take_more, take_all}
use Rattle.std.proofs.lemmas.Option.{get_or_from_slice_get, slice_get_within}
use Rattle.k_types.specs.declared.event.Event.{Event}
use Rattle.k_types.specs.declared.event.Event.TheVariants.{Closing}
use Rattle.k_types.specs.Effects.{step}
use Rattle.k_types.specs.State.{State, opening}
use Rattle.k_types.specs.Steps.{IsLegalHistory, IsPossible, IsRun, state_after}
use Rattle.k_types.specs.Trace.{Trace}
use Rattle.k_laws.proofs.Histories.{legal_front, legal_rest, state_next}
use Rattle.k_solo.proofs.Rooms.{history_room}
use Rattle.k_solo.proofs.Unread.{possible_unread, step_unread}
use Rattle.k_state.specs.Machines.{Machine}
use Rattle.k_state.specs.Setups.{setup_of}
use Rattle.k_state.specs.Rooms.{HasRoom}

-- what stands for an event past the last
abbrev pub no_event : Event
no_event = Closing

-- the machine has done the events
pub record HasStepped (trace : Trace) (history : List Event) (m : Machine) : Type 0 where
  pub setup : m.setup ≡ setup_of trace
  pub state : m.state ≡ state_after trace history

pub stepped_none : (trace : Trace) (m : Machine) → m ≡ record { setup = setup_of trace; state = opening (setup_of trace) } → HasStepped trace [] m
stepped_none trace m is = record { setup = ap (λ (x : Machine). x.setup) is; state = ap (λ (x : Machine). x.state) is }

module _ (trace : Trace) (events : List Event) (legal : IsLegalHistory trace events) (few : length events ≤ 400066) (i : ℕ) (event : Event) (at : slice_get events i ≡ Some event) (m : Machine) (stepped : HasStepped trace (take i events) m) where
  abbrev before : List Event
  before = take i events

  next_is : take (i + 1) events ≡ before ++ event ∷ []
  next_is = take_more events i event (slice_get_within events i event at) ∙ ap (λ e. before ++ e ∷ []) (get_or_from_slice_get events i event event at)

  front_legal : (n : ℕ) → IsLegalHistory trace (take n events)
  front_legal n = legal_front trace (opening trace) (take n events) (drop n events) (subst (IsRun trace (opening trace)) (sym (take-append-drop n events)) legal)

  may_come : IsPossible trace (state_after trace before) event
  may_come = (legal_rest trace (opening trace) before (event ∷ []) (subst (IsLegalHistory trace) next_is (front_legal (i + 1)))).0

  -- the next event can come
  pub may_be_taken : IsPossible m.setup m.state event
  may_be_taken = subst (λ (s : Trace). IsPossible s m.state event) (sym stepped.setup) (possible_unread trace m.state event (subst (λ (st : State). IsPossible trace st event) (sym stepped.state) may_come))

  -- and there is room for it
  pub room_to_take : HasRoom 1 m.state
  room_to_take =
      let all = ap (λ (es : List Event). length es) (take-append-drop i events) in
      let apart = length-append (take i events) (drop i events) in
      subst (HasRoom 1) (sym stepped.state) (history_room 1 trace before (omega (arith, all, apart, few)))

  -- and is done then
  pub stepped_next : (n : Machine) → n.setup ≡ m.setup → n.state ≡ step m.setup m.state event → HasStepped trace (take (i + 1) events) n
  stepped_next n setup state = subst (λ (es : List Event). HasStepped trace es n) (sym next_is) (record {
    setup = setup ∙ stepped.setup;
    state = state ∙ ap (λ (s : Trace). step s m.state event) stepped.setup ∙ sym (step_unread trace m.state event) ∙ ap (λ (st : State). step trace st event) stepped.state ∙ sym (state_next trace before event);
  })

  pub listed_next : (old new : List Event) → old ≡ before → new ≡ old ++ event ∷ [] → new ≡ take (i + 1) events
  listed_next old new was is = is ∙ ap (λ (es : List Event). es ++ event ∷ []) was ∙ sym next_is

-- all events are done
pub stepped_all : (trace : Trace) (events : List Event) (i : ℕ) (m : Machine) → length events ≤ i → HasStepped trace (take i events) m → HasStepped trace events m
stepped_all trace events i m over stepped = subst (λ (es : List Event). HasStepped trace es m) (take_all i events over) stepped
