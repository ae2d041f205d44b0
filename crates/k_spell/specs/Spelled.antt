-- Events whose operations a line of a trace can have.
use Rattle.std.specs.Prelude.{Bool, true, IsTrue, List}
use Rattle.std.specs.List.{list_all}
use Rattle.k_types.specs.declared.event.Event.{Event}
use Rattle.k_types.specs.declared.event.Event.TheVariants.{Done, Ended, Absorbed, Closing}
use Rattle.k_types.specs.TraceRules.{is_spelled}

-- the event does no operation, or one that a line of a trace can have
abbrev pub is_spelled_event : Event → Bool
is_spelled_event (Done pid op said) = is_spelled op
is_spelled_event (Ended h objects bytes exits shares) = true
is_spelled_event (Absorbed s) = true
is_spelled_event Closing = true

-- a line of a trace can have each operation of the events
abbrev pub AreSpelled : List Event → Type 0
AreSpelled events = IsTrue (list_all is_spelled_event events)
