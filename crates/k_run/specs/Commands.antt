-- The run of the trace that the source gave, and what is told of it, or of why there is none.
use Rattle.std.specs.Prelude.{◌≡◌, [], Result, Ok, Err}
use Rattle.k_types.specs.FileOrder.{file_order}
use Rattle.k_words.specs.Words.{Text}
use Rattle.k_trace.specs.Named.{NamedTrace}
use Rattle.k_text.specs.Named.{AreNamed}
use Rattle.k_text.specs.Report.{text_over}
use Rattle.k_opening.specs.k_outcome.Ends.{EndValue, journal_of, last_state}
use Rattle.k_run.specs.Runs.{IsRunOf}
use Rattle.k_status.specs.declared.run_error.RunError.{RunError}
use Rattle.k_status.specs.declared.run_error.RunError.TheVariants.{NoMemory, Unread, Bad}
use Rattle.k_status.specs.declared.status.Status.{Status}
use Rattle.k_status.specs.declared.status.Status.TheVariants.{Good, BadTrace, WantOfMemory, ReadFault}
use Rattle.k_status.specs.Ends.{Input}
use Rattle.k_status.specs.Readings.{GaveTrace}
use Rattle.k_status.specs.Texts.{bad_trace_text}

-- The source gave a trace, and this is the end of a run of it.
pub record HasRun (input : Input) (end : EndValue) : Type 0 where
  pub trace : NamedTrace
  pub gave : GaveTrace input trace
  pub run : IsRunOf trace end

-- The source gave a trace, and this is the end of a run of it in the order of the file.
pub record HasReplayed (input : Input) (end : EndValue) : Type 0 where
  pub trace : NamedTrace
  pub gave : GaveTrace input trace
  pub run : IsRunOf trace end
  pub in_order : journal_of end ≡ file_order trace.trace

-- All that the end shows has a name.
abbrev pub IsNamedEnd : EndValue → Type 0
IsNamedEnd end = AreNamed end.names end.setup

-- The status that is told of a run that is over, or of why there is none.
abbrev pub status_of : Result EndValue RunError → Status
status_of (Ok end) = Good
status_of (Err (NoMemory refused)) = WantOfMemory
status_of (Err Unread) = ReadFault
status_of (Err (Bad line reason)) = BadTrace

-- The text that is written of it.
abbrev pub text_of : Result EndValue RunError → Text
text_of (Ok end) = text_over end.names end.setup (journal_of end) (last_state end)
text_of (Err (NoMemory refused)) = []
text_of (Err Unread) = []
text_of (Err (Bad line reason)) = bad_trace_text line reason
