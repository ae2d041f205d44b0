-- Which texts are reports of a trace.
use Rattle.std.specs.Prelude.{◌≡◌, ℕ, List, ◌∷◌, ◌++◌, IsTrue, Ok}
use Rattle.k_types.specs.declared.event.Event.{Event}
use Rattle.k_types.specs.declared.event.Event.TheVariants.{Ended}
use Rattle.k_types.specs.declared.names.Heap.{Heap}
use Rattle.k_types.specs.declared.names.Name.{Name}
use Rattle.k_types.specs.Complete.{IsComplete, all_ended}
use Rattle.k_types.specs.Effects.{step}
use Rattle.k_types.specs.FileOrder.{file_order}
use Rattle.k_types.specs.Reach.{live_everywhere}
use Rattle.k_types.specs.State.{has}
use Rattle.k_types.specs.Steps.{IsLegalHistory, state_after}
use Rattle.k_types.specs.Trace.{Trace}
use Rattle.k_laws.specs.Reclaimed.{IsReclaimed}
use Rattle.k_words.specs.Words.{Text}
use Rattle.k_trace.specs.Named.{NamedTrace}
use Rattle.k_text.specs.Report.{report_text}
use Rattle.k_reports.specs.Histories.{history_of}

-- No end of a collection in the history frees an object that a living process's register, the directory or a live shared heap
-- reaches just before it.
abbrev pub FreesNothingLive : Trace → List Event → Type 0
FreesNothingLive trace history =
    (before rest : List Event) (h : Heap) (objects bytes exits shares : ℕ) → history ≡ before ++ Ended h objects bytes exits shares ∷ rest
    → (n : Name) → IsTrue (has (live_everywhere trace (state_after trace before)) n)
    → IsTrue (has (step trace (state_after trace before) (Ended h objects bytes exits shares)).objects n)

-- The text is the report of the history, which can be read back from it, is legal and complete, and frees nothing live. Where every
-- process has ended in it, all memory is reclaimed.
pub record IsReportOf (t : NamedTrace) (history : List Event) (text : Text) : Type 0 where
  pub whole : text ≡ report_text t.names t.trace history
  pub read_back : history_of t.names text ≡ Ok history
  pub legal : IsLegalHistory t.trace history
  pub complete : IsComplete t.trace history
  pub safe : FreesNothingLive t.trace history
  pub reclaimed : IsTrue (all_ended t.trace (state_after t.trace history)) → IsReclaimed t.trace (state_after t.trace history)

-- The text is the report of some history of the trace.
abbrev pub IsSomeReport : NamedTrace → Text → Type 0
IsSomeReport t text = (history : List Event) × IsReportOf t history text

-- The text is the report of the history of the trace in the order of the file.
abbrev pub IsFileReport : NamedTrace → Text → Type 0
IsFileReport t text = IsReportOf t (file_order t.trace) text
