-- Which texts are summaries of the workload, and which are a report with more behind it, or a snapshot.
use Rattle.std.specs.Prelude.{◌≡◌, ℕ, ◌+◌, List, ◌++◌, length}
use Rattle.k_types.specs.declared.event.Event.{Event}
use Rattle.k_types.specs.Complete.{IsComplete}
use Rattle.k_types.specs.FileOrder.{file_order}
use Rattle.k_types.specs.Steps.{IsLegalHistory, state_after}
use Rattle.k_words.specs.Words.{Text}
use Rattle.k_trace.specs.Named.{NamedTrace}
use Rattle.k_status.specs.Reports.{IsReportOf}
use Rattle.k_big.specs.Summary.{summary_text}
use Rattle.k_big.specs.Workload.{big_trace}
use Rattle.k_watch.specs.declared.sample.Sample.{Sample}
use Rattle.k_watch.specs.Numbers.{numbers_after}
use Rattle.k_watch.specs.Samples.{IsLast, IsRising}
use Rattle.k_watch.specs.Shown.{AllTellOf}
use Rattle.k_state.specs.Setups.{setup_of}
use Rattle.k_audit.specs.Snapshots.{snapshot_text}
use Rattle.k_audit.specs.Verdicts.{IsVerdict}
use Rattle.k_audit.specs.declared.verdicts.Verdict.TheVariants.{Sound}
use Rattle.k_work.specs.Lines.{work_text}
use Rattle.k_work.specs.Tables.{work_of}
use Rattle.k_answers.specs.Samples.{samples_text}

-- The text is the summary of a history of the trace where each process makes so many objects, and the history is legal and complete.
pub record IsSummaryOf (objects : ℕ) (text : Text) : Type 0 where
  pub history : List Event
  pub legal : IsLegalHistory (big_trace objects).trace history
  pub complete : IsComplete (big_trace objects).trace history
  pub says : text ≡ summary_text objects history

-- The text is the report of some history of the trace, and then the lines of so many samples and one more. Each sample is the number of
-- events, the use of the root limit and the number of living processes of the machine after the first events of this history, as many as it
-- says; these never fall, and the last sample has all of them.
pub record IsWatchedReport (count : ℕ) (t : NamedTrace) (text : Text) : Type 0 where
  pub history : List Event
  pub report : Text
  pub is_report : IsReportOf t history report
  pub samples : List Sample
  pub taken : length samples ≡ count + 1
  pub each : AllTellOf t.trace history samples
  pub rising : IsRising samples
  pub last : IsLast (numbers_after t.trace history) samples
  pub says : text ≡ report ++ samples_text samples

-- The text is the report of some history of the trace, and then the lines of its work: for each process and for the closing how many ends of
-- a collection in the history are credited to it, and their work.
pub record IsWorkReport (t : NamedTrace) (text : Text) : Type 0 where
  pub history : List Event
  pub report : Text
  pub is_report : IsReportOf t history report
  pub says : text ≡ report ++ work_text t.names (work_of t.trace history)

-- The text is the snapshot of the state after the history of the trace in the order of the file, which is legal and complete, and over the
-- header it deserves the verdict that it is sound.
pub record IsFileSnapshot (t : NamedTrace) (text : Text) : Type 0 where
  pub legal : IsLegalHistory t.trace (file_order t.trace)
  pub complete : IsComplete t.trace (file_order t.trace)
  pub says : text ≡ snapshot_text t.names t.trace (state_after t.trace (file_order t.trace))
  pub sound : IsVerdict t.names (setup_of t.trace) text Sound
