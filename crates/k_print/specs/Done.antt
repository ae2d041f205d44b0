-- The trace of what a history has done.
use Rattle.std.specs.Prelude.{ℕ, List, [], ◌∷◌, map}
use Rattle.k_types.specs.declared.event.Event.{Event}
use Rattle.k_types.specs.declared.event.Event.TheVariants.{Done, Ended, Absorbed, Closing}
use Rattle.k_types.specs.Numbers.{numbers_below}
use Rattle.k_types.specs.Steps.{done_by}
use Rattle.k_types.specs.Trace.{Trace, process_count}
use Rattle.k_words.specs.Words.{Text}
use Rattle.k_trace.specs.Named.{DeclaredNames}
use Rattle.k_trace.specs.Spelling.{line_words}

-- the process of each operation that the history has done, in its order
abbrev pub order_of : List Event → List ℕ
order_of [] = []
order_of (Done pid op said ∷ events) = pid.0 ∷ order_of events
order_of (Ended h objects bytes exits shares ∷ events) = order_of events
order_of (Absorbed s ∷ events) = order_of events
order_of (Closing ∷ events) = order_of events

-- the trace that declares the same and has exactly the operations of the history, in its order
abbrev pub trace_done : Trace → List Event → Trace
trace_done trace history = record trace { operations = map (λ p. done_by p history) (numbers_below (process_count trace)); order = order_of history }

-- the line of the event's operation, where it does one
abbrev pub line_done : DeclaredNames → Event → List (List Text)
line_done names (Done pid op said) = line_words names pid.0 op ∷ []
line_done names (Ended h objects bytes exits shares) = []
line_done names (Absorbed s) = []
line_done names Closing = []
