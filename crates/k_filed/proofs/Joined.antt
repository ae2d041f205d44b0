-- Events taken one after the other.
use Rattle.std.proofs.Common.{◌≡◌, ℕ, ◌+◌, ◌≤◌, sym, ap, ap₂, subst, ◌∙◌, List, ◌++◌, length, Result, Ok, Err}
use Rattle.std.specs.Prelude.{OnOk}
use Rattle.std.proofs.lemmas.List.{append_assoc}
use Rattle.k_types.specs.declared.event.Event.{Event}
use Rattle.k_types.specs.State.{State}
use Rattle.k_types.specs.Steps.{IsRun, run}
use Rattle.k_types.specs.Trace.{Trace}
use Rattle.k_laws.proofs.Histories.{legal_rest, run_append}
use Rattle.k_state.specs.Machines.{Machine}
use Rattle.k_state.specs.Rooms.{HasRoom}
use Rattle.k_filed.specs.Taken.{HasTaken}
use Rattle.k_solo.proofs.Rooms.{less_room, run_room}

-- both in turn
pub taken_both : (before now after : Machine) (old new newer xs ys : List Event) → HasTaken before now old new xs → HasTaken now after new newer ys →
    HasTaken before after old newer (xs ++ ys)
taken_both before now after old new newer xs ys first second = record {
  setup = second.setup ∙ first.setup;
  state = second.state ∙ ap₂ (λ (t : Trace) (st : State). run t st ys) first.setup first.state ∙ sym (run_append before.setup before.state xs ys);
  journal = second.journal ∙ ap (λ es. es ++ ys) first.journal ∙ append_assoc old xs ys;
}

-- both in turn, where the second may want memory
pub then_taken : {A E : Type 0} (result : Result A E) (before now after : Machine) (old new newer xs ys all : List Event) → xs ++ ys ≡ all →
    HasTaken before now old new xs → OnOk result (HasTaken now after new newer ys) → OnOk result (HasTaken before after old newer all)
then_taken (Ok a) before now after old new newer xs ys all is first second = subst (HasTaken before after old newer) is (taken_both before now after old new newer xs ys first second)
then_taken (Err e) before now after old new newer xs ys all is first second = tt

-- what follows events that were taken, where they and it are a run
pub tail_legal : (before now : Machine) (old new xs : List Event) (tail : Trace → State → List Event) → HasTaken before now old new xs →
    IsRun before.setup before.state (xs ++ tail before.setup (run before.setup before.state xs)) → IsRun now.setup now.state (tail now.setup now.state)
tail_legal before now old new xs tail taken legal =
    subst (λ (t : Trace). IsRun t now.state (tail t now.state)) (sym taken.setup)
    (subst (λ (st : State). IsRun before.setup st (tail before.setup st)) (sym taken.state)
    (legal_rest before.setup before.state xs (tail before.setup (run before.setup before.state xs)) legal))

-- such events, taken too
pub tail_taken : {A E : Type 0} (result : Result A E) (before now after : Machine) (old new newer xs : List Event) (tail : Trace → State → List Event) →
    HasTaken before now old new xs → OnOk result (HasTaken now after new newer (tail now.setup now.state)) →
    OnOk result (HasTaken before after old newer (xs ++ tail before.setup (run before.setup before.state xs)))
tail_taken result before now after old new newer xs tail first second =
    then_taken result before now after old new newer xs (tail now.setup now.state) (xs ++ tail before.setup (run before.setup before.state xs))
    (ap (λ es. xs ++ es) (ap₂ tail first.setup first.state)) first second

-- room after events that were taken
pub taken_room : (m n : ℕ) (before now : Machine) (old new xs : List Event) → length xs + n ≤ m → HasTaken before now old new xs → HasRoom m before.state → HasRoom n now.state
taken_room m n before now old new xs le taken room =
    subst (HasRoom n) (sym taken.state) (run_room n before.setup before.state xs (less_room (length xs + n) m before.state le room))
