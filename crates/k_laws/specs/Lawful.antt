-- What the laws of the machine say of an event behind a history.
use Rattle.std.specs.Prelude.{◌≡◌, ◌+◌, ◌<◌, ◌⊎◌, ◌++◌, ℕ, IsFalse, IsTrue, List, [], ◌∷◌, Some}
use Rattle.k_types.specs.declared.event.Event.{Event}
use Rattle.k_types.specs.declared.event.Event.TheVariants.{Done, Ended}
use Rattle.k_types.specs.declared.event.Fault.{Fault}
use Rattle.k_types.specs.declared.event.Fault.TheVariants.{KernelFull, LimitFull, NotPopulating}
use Rattle.k_types.specs.declared.event.Reply.TheVariants.{Refused}
use Rattle.k_types.specs.declared.names.Heap.{Heap}
use Rattle.k_types.specs.declared.names.Heap.TheVariants.{Kernel}
use Rattle.k_types.specs.declared.names.LimitId.{LimitId}
use Rattle.k_types.specs.declared.names.Name.{Name}
use Rattle.k_types.specs.declared.names.Pid.{Pid}
use Rattle.k_types.specs.declared.names.Reg.{Reg}
use Rattle.k_types.specs.declared.names.SharedId.{SharedId}
use Rattle.k_types.specs.declared.names.TypeId.{TypeId}
use Rattle.k_types.specs.declared.op.Op.{Op}
use Rattle.k_types.specs.declared.op.Op.TheVariants.{KNew, New, SNew, Store}
use Rattle.k_types.specs.Cells.{Cell, part, touches}
use Rattle.k_types.specs.Limits.{full_limit}
use Rattle.k_types.specs.Owners.{bytes_of, phase_of}
use Rattle.k_types.specs.Reach.{live_everywhere}
use Rattle.k_types.specs.Replies.{is_populating}
use Rattle.k_types.specs.Sound.{IsSound}
use Rattle.k_types.specs.State.{State, has}
use Rattle.k_types.specs.Steps.{IsLegalHistory, IsPossible, state_after}
use Rattle.k_types.specs.Trace.{Trace, limit_of, size_of_type}
use Rattle.k_types.specs.Updates.{count_done}
use Rattle.k_laws.specs.Refusals.{is_fault_of_store}
use Rattle.k_laws.specs.Same.{SameToEvent}
use Rattle.k_laws.specs.Follows.{LeavesSameBook, LeavesSameCells}

-- the state that the event finds
abbrev pub state_found : Trace → List Event → State
state_found trace history = state_after trace history

-- the state that the event leaves
abbrev pub state_left : Trace → List Event → Event → State
state_left trace history event = state_after trace (history ++ event ∷ [])

-- the limit on the path of the process's own that so many bytes more do not fit is full, and the fault names it
abbrev pub IsForTheLimit : Trace → State → Pid → TypeId → Fault → Type 0
IsForTheLimit trace st pid ty fault = (m : LimitId) × (full_limit trace st (limit_of trace pid.0) (size_of_type trace ty) ≡ Some m.0) × (fault ≡ LimitFull m)

-- a store is refused for its base, its field, a frozen heap or the barrier alone, so never for a limit. An allocation is refused only
-- where a limit is full, in the kernel's heap only by the ceiling, and in a shared heap also where the process does not populate it
pub record IsRefusedByName (trace : Trace) (st : State) (event : Event) : Type 0 where
  pub store : (pid : Pid) (base value : Reg) (field : ℕ) (fault : Fault) → event ≡ Done pid (Store base field value) (Refused fault) →
      IsTrue (is_fault_of_store fault)
  pub new : (pid : Pid) (r : Reg) (ty : TypeId) (fault : Fault) → event ≡ Done pid (New r ty) (Refused fault) → IsForTheLimit trace st pid ty fault
  pub in_kernel : (pid : Pid) (r : Reg) (ty : TypeId) (fault : Fault) → event ≡ Done pid (KNew r ty) (Refused fault) →
      (trace.ceiling < bytes_of trace st Kernel + size_of_type trace ty) × (fault ≡ KernelFull)
  pub in_shared : (pid : Pid) (r : Reg) (s : SharedId) (ty : TypeId) (fault : Fault) → event ≡ Done pid (SNew r s ty) (Refused fault) →
      (IsFalse (is_populating (phase_of st.phases s.0) pid.0) × (fault ≡ NotPopulating s)) ⊎ IsForTheLimit trace st pid ty fault

-- in the state after another legal history, where the cells that the event touches have the same parts and the book too, the event is
-- possible with the same reply or the same numbers, and leaves these cells and the book the same parts
pub record GoesByTheParts (trace : Trace) (history other : List Event) (event : Event) : Type 0 where
  pub possible : IsPossible trace (state_found trace other) event
  pub cells : LeavesSameCells trace (state_found trace history) (state_found trace other) event
  pub book : LeavesSameBook trace (state_found trace history) (state_found trace other) event

-- the state after the event is sound, in all points. A refused operation counts as done and changes nothing else, and is refused by
-- name. The end of a collection frees nothing that can still be used, whoever owns it. And whether the event is possible, its reply,
-- and what it leaves of the cells that it touches and of the book are told by their parts
pub record IsLawful (trace : Trace) (history : List Event) (event : Event) : Type 0 where
  pub sound : IsSound trace (state_left trace history event)
  pub refused : (pid : Pid) (op : Op) (fault : Fault) → event ≡ Done pid op (Refused fault) →
      state_left trace history event ≡ count_done pid.0 (state_found trace history)
  pub by_name : IsRefusedByName trace (state_found trace history) event
  pub elsewhere : (cell : Cell) → IsFalse (touches trace (state_found trace history) event cell) →
      part trace (state_left trace history event) cell ≡ part trace (state_found trace history) cell
  pub live : (h : Heap) (objects bytes exits shares : ℕ) → event ≡ Ended h objects bytes exits shares → (n : Name) →
      IsTrue (has (live_everywhere trace (state_found trace history)) n) → IsTrue (has (state_left trace history event).objects n)
  pub local : (other : List Event) → IsLegalHistory trace other → SameToEvent trace (state_found trace history) (state_found trace other) event →
      GoesByTheParts trace history other event
