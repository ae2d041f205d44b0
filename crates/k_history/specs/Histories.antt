-- What the call that reads a history answers.
use Rattle.std.specs.Prelude.{◌≡◌, ℕ, List, Result, Ok, Err}
use Rattle.std.specs.Global.{Vec}
use Rattle.k_types.specs.declared.event.Event.{Event}
use Rattle.k_history.specs.declared.errors.HistoryError.{HistoryError}
use Rattle.k_history.specs.declared.errors.HistoryError.TheVariants.{Bad, NoMemory}

-- The call answered the history, or the number of the line, or found no memory.
abbrev pub ReadsHistory : Result (Vec Event) HistoryError → Result (List Event) ℕ → Type 0
ReadsHistory (Ok events) history = history ≡ Ok events.items
ReadsHistory (Err (Bad line)) history = history ≡ Err line
ReadsHistory (Err (NoMemory e)) history = Unit {0}
