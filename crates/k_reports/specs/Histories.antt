-- The history that the bytes of a report are.
use Rattle.std.specs.Prelude.{ℕ, ◌+◌, List, [], ◌∷◌, Option, Some, None, Result, Ok, Err, if◌then◌else◌, codes}
use Rattle.std.specs.Str.{bytes_eq}
use Rattle.k_types.specs.declared.event.Event.{Event}
use Rattle.k_words.specs.Words.{Text, lines_of, words_of}
use Rattle.k_trace.specs.Named.{DeclaredNames}
use Rattle.k_reports.specs.Reading.{event_of}

-- The event before those that follow it.
abbrev pub onto : Event → Result (List Event) ℕ → Result (List Event) ℕ
onto event (Ok events) = Ok (event ∷ events)
onto event (Err line) = Err line

-- The event that a line is, before those of the lines after it, or the line's number where it is none.
abbrev pub then_events : ℕ → Option Event → Result (List Event) ℕ → Result (List Event) ℕ
then_events line None rest = Err line
then_events line (Some event) rest = onto event rest

-- The events of the lines up to the line `graph`, where the first of them has this number; or the number of the first that
-- is no event's, or, where there is no line `graph`, the number that the next line would have.
unfoldable pub events_of_lines : DeclaredNames → ℕ → List Text → Result (List Event) ℕ
events_of_lines names line [] = Err line
events_of_lines names line (l ∷ ls) =
    if bytes_eq l (codes "graph") then Ok [] else then_events line (event_of names (words_of l)) (events_of_lines names (line + 1) ls)

-- The same after the first line, which is `report 1`.
abbrev pub events_behind : DeclaredNames → List Text → Result (List Event) ℕ
events_behind names [] = Err 1
events_behind names (l ∷ ls) = if bytes_eq l (codes "report 1") then events_of_lines names 2 ls else Err 1

-- The history that a report's bytes are, or the number of the first line up to the line `graph` that is not in the grammar.
unfoldable pub history_of : DeclaredNames → Text → Result (List Event) ℕ
history_of names bytes = events_behind names (lines_of bytes)
