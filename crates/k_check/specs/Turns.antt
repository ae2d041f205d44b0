-- What is asked of an event beside that it is possible: the order of operations.
use Rattle.std.specs.Prelude.{◌<◌, List, [], ◌∷◌, ◌++◌}
use Rattle.k_types.specs.declared.event.Event.{Event}
use Rattle.k_types.specs.declared.event.Event.TheVariants.{Done, Ended, Absorbed, Closing}
use Rattle.k_types.specs.Trace.{Trace, process_count, operations_of}
use Rattle.k_types.specs.Steps.{done_by}
use Rattle.k_types.specs.Complete.{IsPrefixOf}

-- The event, if it does an operation, does the next one of a process of the trace.
abbrev pub IsInTurn : Trace → List Event → Event → Type 0
IsInTurn trace history (Done pid op said) = (pid.0 < process_count trace) × IsPrefixOf (done_by pid.0 history ++ op ∷ []) (operations_of trace pid.0)
IsInTurn trace history (Ended h objects bytes exits shares) = Unit {0}
IsInTurn trace history (Absorbed s) = Unit {0}
IsInTurn trace history Closing = Unit {0}
