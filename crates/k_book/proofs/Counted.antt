-- What is counted of the objects goes on with each event.
use Rattle.std.proofs.Common.{◌≡◌, ℕ, ◌+◌, ◌≤◌, refl, ap, ◌∙◌, List, [], ◌∷◌, ◌++◌, length, zero-le, arith, IsTrue, Option, Some, None}
use Rattle.std.proofs.lemmas.Bool.{false≢true}
use Rattle.k_types.specs.declared.event.Event.{Event}
use Rattle.k_types.specs.declared.event.Event.TheVariants.{Absorbed, Closing, Done, Ended}
use Rattle.k_types.specs.declared.event.Fault.{Fault}
use Rattle.k_types.specs.declared.event.Reply.{Reply}
use Rattle.k_types.specs.declared.event.Reply.TheVariants.{Done as DoneReply, Loaded, Made, Refused, Value}
use Rattle.k_types.specs.declared.op.Op.{Op}
use Rattle.k_types.specs.declared.op.Op.TheVariants.{KNew, New, SNew}
use Rattle.k_types.specs.Effects.{step}
use Rattle.k_types.specs.Local.{AreLocal, is_local}
use Rattle.k_types.specs.Replies.{answer, faults, first_fault, refused_or, reply_to}
use Rattle.k_types.specs.State.{State}
use Rattle.k_types.specs.Steps.{IsRun}
use Rattle.k_types.specs.Trace.{Trace}
use Rattle.k_book.specs.Objects.{made_by, made_by_reply, objects_by, objects_from, objects_told}

pub made_low : (event : Event) → made_by event ≤ 1
made_low (Done pid op DoneReply) = zero-le
made_low (Done pid op (Made m)) = omega arith
made_low (Done pid op (Loaded m)) = zero-le
made_low (Done pid op (Value m)) = zero-le
made_low (Done pid op (Refused fault)) = zero-le
made_low (Ended h objects bytes exits shares) = zero-le
made_low (Absorbed s) = zero-le
made_low Closing = zero-le

pub from_append_all : (objects : ℕ) (events more : List Event) → objects_from objects (events ++ more) ≡ objects_from (objects_from objects events) more
from_append_all objects [] more = refl
from_append_all objects (first ∷ events) more = from_append_all (objects_by objects first) events more

pub from_append : (objects : ℕ) (events : List Event) (event : Event) → objects_from objects (events ++ event ∷ []) ≡ objects_by (objects_from objects events) event
from_append objects events event = from_append_all objects events (event ∷ [])

from_low : (objects : ℕ) (events : List Event) → objects_from objects events ≤ objects + length events
from_low objects [] = omega arith
from_low objects (first ∷ events) = let rest = from_low (objects_by objects first) events in let low = made_low first in omega (arith, rest, low)

pub told_append : (events : List Event) (event : Event) → objects_told (events ++ event ∷ []) ≡ objects_by (objects_told events) event
told_append events event = from_append 1 events event

pub told_append_all : (events more : List Event) → objects_told (events ++ more) ≡ objects_from (objects_told events) more
told_append_all events more = from_append_all 1 events more

pub told_low : (events : List Event) → objects_told events ≤ 1 + length events
told_low events = from_low 1 events

-- an operation whose answer names no new object makes none, refused or not
pub none_made : (trace : Trace) (st : State) (p : ℕ) (op : Op) (said : Reply) → made_by_reply (answer trace st p op) ≡ 0 → said ≡ reply_to trace st p op → made_by_reply said ≡ 0
unfolding reply_to
none_made trace st p op said none is = ap made_by_reply is ∙ go (first_fault (faults trace st p op))
  where
    go : (f : Option Fault) → made_by_reply (refused_or f (answer trace st p op)) ≡ 0
    go None = none
    go (Some fault) = refl

module _ (trace : Trace) (p : ℕ) where
  local_answer : (st su : State) (q : ℕ) (op : Op) → IsTrue (is_local st p op) → made_by_reply (answer trace su q op) ≡ 0
  unfolding answer is_local
  local_answer st su q (New r ty) local = absurd (false≢true local)
  local_answer st su q (KNew r ty) local = absurd (false≢true local)
  local_answer st su q (SNew r s ty) local = absurd (false≢true local)
  local_answer st su q _ local = refl

  -- the events of a process inside its heap, each local where it was done, make and free no object wherever they are possible
  pub local_objects : (st su : State) (events : List Event) → AreLocal trace p st events → IsRun trace su events → (objects : ℕ) → objects_from objects events ≡ objects
  local_objects st su [] local runs objects = refl
  local_objects st su (Done pid op said ∷ events) local runs objects =
      let none = none_made trace su pid.0 op said (local_answer st su pid.0 op local.1) runs.0.replied in
      let same : objects_by objects (Done pid op said) ≡ objects = omega (arith, none) in
      local_objects (step trace st (Done pid op said)) (step trace su (Done pid op said)) events local.2 runs.1 (objects_by objects (Done pid op said)) ∙ same
  local_objects st su (Ended h freed bytes exits shares ∷ events) local runs objects = absurd local
  local_objects st su (Absorbed s ∷ events) local runs objects = absurd local
  local_objects st su (Closing ∷ events) local runs objects = absurd local
