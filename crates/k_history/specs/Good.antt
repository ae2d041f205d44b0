-- Which reports are good, and where one that isn't is refused.
use Rattle.std.specs.Prelude.{◌≡◌, ◌≢◌, ℕ, ◌+◌, List, [], ◌∷◌, ◌++◌, map, length, Some, codes}
use Rattle.std.specs.List.{AllByRecursion}
use Rattle.k_types.specs.declared.event.Event.{Event}
use Rattle.k_types.specs.Steps.{IsLegalHistory}
use Rattle.k_types.specs.Complete.{IsComplete}
use Rattle.k_words.specs.Words.{Text, lines_of, word_at}
use Rattle.k_trace.specs.Named.{NamedTrace}
use Rattle.k_text.specs.Report.{report_text}
use Rattle.k_reports.specs.Spelled.{IsSpelledEvent}
use Rattle.k_reports.specs.Begun.{IsBegun, event_line}
use Rattle.k_history.specs.Difference.{difference}

-- The report is that of a history which is legal and complete for the trace.
pub record IsGoodReport (t : NamedTrace) (report : Text) : Type 0 where
  pub history : List Event
  pub legal : IsLegalHistory t.trace history
  pub complete : IsComplete t.trace history
  pub text : report ≡ report_text t.names t.trace history

-- The report's first line is `report 1`; then come the lines of a history that is begun, and then those that are left.
pub record IsReadUpTo (t : NamedTrace) (report : Text) (history : List Event) (left : List Text) : Type 0 where
  pub lines : lines_of report ≡ codes "report 1" ∷ map (event_line t.names) history ++ left
  pub spelled : AllByRecursion (IsSpelledEvent t.names) history
  pub begun : IsBegun t.trace history

-- No event has this line and can come next.
abbrev pub IsNoNextEvent : NamedTrace → List Event → Text → Type 0
IsNoNextEvent t history line = (e : Event) → IsSpelledEvent t.names e → event_line t.names e ≡ line → ¬ IsBegun t.trace (history ++ e ∷ [])

-- The first line is not `report 1`.
pub record IsWrongFirst (report : Text) (n : ℕ) : Type 0 where
  pub line : word_at (lines_of report) 0 ≢ codes "report 1"
  pub number : n ≡ 1

-- The line is no event that can come next, and not the line `graph`.
pub record IsWrongEvent (t : NamedTrace) (report : Text) (n : ℕ) : Type 0 where
  pub history : List Event
  pub line : Text
  pub behind : List Text
  pub read : IsReadUpTo t report history (line ∷ behind)
  pub not_graph : line ≢ codes "graph"
  pub none : IsNoNextEvent t history line
  pub number : n ≡ length history + 2

-- There is no line `graph`.
pub record IsWithoutGraph (t : NamedTrace) (report : Text) (n : ℕ) : Type 0 where
  pub history : List Event
  pub read : IsReadUpTo t report history []
  pub number : n ≡ length (lines_of report) + 1

-- At the line `graph` the history is not complete.
pub record IsIncomplete (t : NamedTrace) (report : Text) (n : ℕ) : Type 0 where
  pub history : List Event
  pub behind : List Text
  pub read : IsReadUpTo t report history (codes "graph" ∷ behind)
  pub not_complete : ¬ IsComplete t.trace history
  pub number : n ≡ length history + 2

-- The line is the first that differs from the report of the history.
pub record IsOtherReport (t : NamedTrace) (report : Text) (n : ℕ) : Type 0 where
  pub history : List Event
  pub behind : List Text
  pub read : IsReadUpTo t report history (codes "graph" ∷ behind)
  pub complete : IsComplete t.trace history
  pub differs : difference (report_text t.names t.trace history) report ≡ Some n

-- The line of that number, counted from 1, is the first wrong one of the report, by the first of these rules that applies.
pub data IsRefusedAt (t : NamedTrace) (report : Text) (n : ℕ) : Type 0 where
  OfFirst : IsWrongFirst report n → IsRefusedAt t report n
  OfEvent : IsWrongEvent t report n → IsRefusedAt t report n
  OfEnd : IsWithoutGraph t report n → IsRefusedAt t report n
  OfGraph : IsIncomplete t report n → IsRefusedAt t report n
  OfReport : IsOtherReport t report n → IsRefusedAt t report n
