-- How many objects the machine has, and how many there are by what the events of a journal say.
use Rattle.std.specs.Prelude.{ℕ, ◌+◌, ◌-◌, List, [], ◌∷◌, length}
use Rattle.k_types.specs.declared.event.Event.{Event}
use Rattle.k_types.specs.declared.event.Event.TheVariants.{Absorbed, Closing, Done, Ended}
use Rattle.k_types.specs.declared.event.Reply.{Reply}
use Rattle.k_types.specs.declared.event.Reply.TheVariants.{Done as DoneReply, Loaded, Made, Refused, Value}
use Rattle.k_types.specs.Steps.{state_after}
use Rattle.k_types.specs.Trace.{Trace}

-- how many objects the machine has after the history
abbrev pub objects_after : Trace → List Event → ℕ
objects_after trace history = length (state_after trace history).objects

-- 1 where the reply names a new object
abbrev pub made_by_reply : Reply → ℕ
made_by_reply DoneReply = 0
made_by_reply (Made n) = 1
made_by_reply (Loaded n) = 0
made_by_reply (Value n) = 0
made_by_reply (Refused fault) = 0

-- how many objects the event makes
abbrev pub made_by : Event → ℕ
made_by (Done pid op said) = made_by_reply said
made_by (Ended h objects bytes exits shares) = 0
made_by (Absorbed s) = 0
made_by Closing = 0

-- how many go with the event
abbrev pub gone_by : Event → ℕ
gone_by (Done pid op said) = 0
gone_by (Ended h objects bytes exits shares) = objects
gone_by (Absorbed s) = 0
gone_by Closing = 0

-- how many there are after the event, where there were so many before it
abbrev pub objects_by : ℕ → Event → ℕ
objects_by objects event = (objects - gone_by event) + made_by event

-- and after all these events
abbrev pub objects_from : ℕ → List Event → ℕ
objects_from objects [] = objects
objects_from objects (event ∷ events) = objects_from (objects_by objects event) events

-- the directory is there before the first event
abbrev pub objects_told : List Event → ℕ
objects_told events = objects_from 1 events
