-- What is told of a run of the trace that the source gave, or of why there is none.
use Rattle.std.proofs.Common.{◌≡◌, List, Result, Ok, Err, refl, subst, sym}
use Rattle.std.specs.Prelude.{IfOk, IfErr}
use Rattle.k_types.specs.declared.event.Event.{Event}
use Rattle.k_types.specs.Bounds.{most_trace_bytes}
use Rattle.k_opening.specs.k_outcome.Ends.{EndValue, journal_of}
use Rattle.k_trace.specs.Named.{NamedTrace}
use Rattle.k_words.specs.Words.{Text}
use Rattle.k_status.specs.declared.run_error.RunError.{RunError}
use Rattle.k_status.specs.declared.run_error.RunError.TheVariants.{NoMemory, Unread, Bad}
use Rattle.k_status.specs.declared.status.Status.{Status}
use Rattle.k_status.specs.declared.status.Status.TheVariants.{Good}
use Rattle.k_status.specs.Ends.{Input, Output}
use Rattle.k_status.specs.Telling.{IsWritten, TellsOfBytes, TellsOfSource}
use Rattle.k_status.specs.Reports.{IsFileReport, IsReportOf, IsSomeReport}
use Rattle.k_status.specs.Readings.{HasCause}
use Rattle.k_run.specs.Commands.{HasReplayed, HasRun, IsNamedEnd, status_of, text_of}
use Rattle.k_run.proofs.Reports.{named_in_run, report_by_run}

-- What the end of a run shows has a name.
pub run_named : (input : Input) (r : Result EndValue RunError) → IfOk r (HasRun input) → IfOk r IsNamedEnd
run_named input (Ok end) h = named_in_run h.trace end h.gave.spelled.is_trace h.run
run_named input (Err error) h = h

pub replay_named : (input : Input) (r : Result EndValue RunError) → IfOk r (HasReplayed input) → IfOk r IsNamedEnd
replay_named input (Ok end) h = named_in_run h.trace end h.gave.spelled.is_trace h.run
replay_named input (Err error) h = h

-- What is told of an error is what the source is the cause of.
pub error_told : (reports : NamedTrace → Text → Type 0) (input : Input) (error : RunError) → HasCause input error
    → TellsOfSource most_trace_bytes (TellsOfBytes reports) input (status_of (Err error)) (text_of (Err error))
error_told reports input (NoMemory refused) e = refl
error_told reports input Unread e = (e, refl)
error_told reports input (Bad line reason) e = (e.bytes, e.read, (line, reason, e.bad, refl))

-- What is told of a run is the report of some history of the trace.
pub run_told : (input : Input) (r : Result EndValue RunError) → IfOk r (HasRun input) → IfErr r (HasCause input)
    → TellsOfSource most_trace_bytes (TellsOfBytes IsSomeReport) input (status_of r) (text_of r)
run_told input (Ok end) h e = (h.gave.bytes, h.gave.read, (h.trace, h.gave.spelled, (journal_of end, report_by_run h.trace end h.gave.spelled.is_trace h.run)))
run_told input (Err error) h e = error_told IsSomeReport input error e

-- What is told of a run in the order of the file is the report of that order.
pub replay_told : (input : Input) (r : Result EndValue RunError) → IfOk r (HasReplayed input) → IfErr r (HasCause input)
    → TellsOfSource most_trace_bytes (TellsOfBytes IsFileReport) input (status_of r) (text_of r)
replay_told input (Ok end) h e =
    let report = subst (λ (history : List Event). IsReportOf h.trace history (text_of (Ok end))) h.in_order (report_by_run h.trace end h.gave.spelled.is_trace h.run) in
    (h.gave.bytes, h.gave.read, (h.trace, h.gave.spelled, report))
replay_told input (Err error) h e = error_told IsFileReport input error e

-- The report of a run that is over was handed to the sink.
pub end_written : (output : Output) (r : Result EndValue RunError) (end : EndValue) (answer : Status) → r ≡ Ok end → IsWritten output Good (text_of (Ok end)) answer
    → IsWritten output (status_of r) (text_of r) answer
end_written output r end answer is w = subst (λ (ended : Result EndValue RunError). IsWritten output (status_of ended) (text_of ended) answer) (sym is) w
