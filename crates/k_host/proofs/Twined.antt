-- The machine that takes events one by one has room for the next, and what it takes and refuses.
use Rattle.std.proofs.Common.{◌≡◌, ◌⊎◌, ℕ, ◌+◌, ◌<◌, ◌≤◌, refl, sym, ap, ◌∙◌, subst, [], ◌∷◌, ◌++◌, arith}
use Rattle.std.proofs.lemmas.List.{length-append}
use Rattle.k_types.specs.declared.event.Event.{Event}
use Rattle.k_types.specs.declared.setup.Setup.{Setup}
use Rattle.k_types.specs.Effects.{step}
use Rattle.k_types.specs.State.{opening}
use Rattle.k_types.specs.Steps.{IsPossible, state_after}
use Rattle.k_types.specs.Trace.{trace_of}
use Rattle.k_laws.proofs.Histories.{state_next}
use Rattle.k_state.specs.Machines.{Machine}
use Rattle.k_state.specs.Rooms.{HasRoom}
use Rattle.k_solo.proofs.Rooms.{history_room}
use Rattle.k_host.specs.Twins.{HasTaken, RefusesEvent, TakesEvent, TwinValue}

pub taken_none : (setup : Setup) (m : Machine) → m ≡ record { setup = trace_of setup [] []; state = opening (trace_of setup [] []) } → HasTaken m 0
taken_none setup m is = record {
  history = [];
  state = ap (λ (x : Machine). x.state) is ∙ sym (ap (λ (x : Machine). opening x.setup) is);
  count = refl;
  few = omega arith;
}

pub room_to_take : (m : Machine) (n : ℕ) → HasTaken m n → HasRoom 1 m.state
room_to_take m n h =
    let count = h.count in
    let few = h.few in
    subst (HasRoom 1) (sym h.state) (history_room 1 m.setup h.history (omega (arith, count, few)))

pub taken_more : (m w : Machine) (n : ℕ) (event : Event) → HasTaken m n → n < 1000000 → w.setup ≡ m.setup → w.state ≡ step m.setup m.state event → HasTaken w (n + 1)
taken_more m w n event h few same stepped = record {
  history = h.history ++ event ∷ [];
  state =
      stepped ∙ ap (λ st. step m.setup st event) h.state ∙ sym (state_next m.setup h.history event)
      ∙ ap (λ setup. state_after setup (h.history ++ event ∷ [])) (sym same);
  count = length-append h.history (event ∷ []) ∙ ap (λ k. k + 1) h.count;
  few = omega (arith, few);
}

pub taken_still : (m w : Machine) (n : ℕ) → HasTaken m n → w ≡ m → HasTaken w n
taken_still m w n h is = subst (λ x. HasTaken x n) (sym is) h

-- the twin of that machine
abbrev pub twin_of : Machine → ℕ → TwinValue
twin_of m n = record { machine = m; taken = n }

pub takes_event : (m w : Machine) (n : ℕ) (event : Event) → IsPossible m.setup m.state event → w.setup ≡ m.setup → w.state ≡ step m.setup m.state event → TakesEvent (twin_of m n) (twin_of w (n + 1)) event
takes_event m w n event possible same stepped = record { possible = possible; setup = same; stepped = stepped; taken = refl }

pub refuses_event : (m w : Machine) (n : ℕ) (event : Event) → w ≡ m → (¬ (IsPossible m.setup m.state event)) ⊎ (1000000 ≤ n) → RefusesEvent (twin_of m n) (twin_of w n) event
refuses_event m w n event is cause = record { same = ap (λ (x : Machine). twin_of x n) is; cause = cause }
