-- What is told of a run of the translation of the script that the source gave, or of why there is none.
use Rattle.std.proofs.Common.{List, Result, Ok, Err, refl, subst}
use Rattle.std.specs.Prelude.{IfOk, IfErr}
use Rattle.k_types.specs.declared.event.Event.{Event}
use Rattle.k_types.specs.Bounds.{most_trace_bytes}
use Rattle.k_run.specs.k_outcome.Ends.{EndValue}
use Rattle.k_trace.specs.Named.{NamedTrace}
use Rattle.k_status.specs.declared.run_error.RunError.{RunError}
use Rattle.k_status.specs.declared.run_error.RunError.TheVariants.{NoMemory, Unread, Bad}
use Rattle.k_status.specs.Ends.{Input}
use Rattle.k_answers.specs.Parts.{TellsOfScript}
use Rattle.k_status.specs.Telling.{TellsOfSource}
use Rattle.k_status.specs.Reports.{IsFileReport, IsReportOf}
use Rattle.k_run.specs.Commands.{IsNamedEnd, status_of, text_of}
use Rattle.k_answers.specs.Scripts.{HasCause}
use Rattle.k_top.specs.Scripts.{HasReplayed}
use Rattle.k_run.proofs.Reports.{named_in_run, report_by_run}

-- What the end of a run shows has a name.
pub script_named : (input : Input) (r : Result EndValue RunError) → IfOk r (HasReplayed input) → IfOk r IsNamedEnd
script_named input (Ok end) h = named_in_run h.trace end h.gave.is_trace h.run
script_named input (Err error) h = h

-- What is told of a run is the report of the translation in the order of the file; of an error, what the source is the cause of.
pub script_told : (input : Input) (r : Result EndValue RunError) → IfOk r (HasReplayed input) → IfErr r (HasCause input)
    → TellsOfSource most_trace_bytes TellsOfScript input (status_of r) (text_of r)
script_told input (Ok end) h e =
    let report = subst (λ (history : List Event). IsReportOf h.trace history (text_of (Ok end))) h.in_order (report_by_run h.trace end h.gave.is_trace h.run) in
    (h.gave.bytes, h.gave.read, (h.gave.script, h.gave.judged, subst (λ (t : NamedTrace). IsFileReport t (text_of (Ok end))) h.gave.translated report))
script_told input (Err (NoMemory refused)) h e = refl
script_told input (Err Unread) h e = (e, refl)
script_told input (Err (Bad line reason)) h e = (e.bytes, e.read, (line, reason, e.bad, refl))
