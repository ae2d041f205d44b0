-- What is told of a run beside a watcher.
use Rattle.std.proofs.Common.{◌≡◌, ℕ, List, ◌++◌, Ok, refl, subst, sym}
use Rattle.k_types.specs.Bounds.{most_trace_bytes}
use Rattle.k_run.specs.k_outcome.Ends.{EndValue, journal_of}
use Rattle.k_status.specs.declared.status.Status.TheVariants.{Good}
use Rattle.k_status.specs.Ends.{Input}
use Rattle.k_status.specs.Telling.{TellsOfBytes, TellsOfSource}
use Rattle.k_answers.specs.Reports.{IsWatchedReport}
use Rattle.k_answers.specs.Samples.{samples_text}
use Rattle.k_run.specs.k_watch.declared.sample.Sample.{Sample}
use Rattle.k_run.specs.Commands.{IsNamedEnd, text_of}
use Rattle.k_top.specs.Runs.{HasWatchedRun}
use Rattle.k_run.proofs.Reports.{named_in_run, report_by_run}

-- What the end of a run beside a watcher shows has a name.
pub watch_named : (input : Input) (count : ℕ) (end : EndValue) (samples : List Sample) → HasWatchedRun input count end samples → IsNamedEnd end
watch_named input count end samples h = named_in_run h.trace end h.gave.spelled.is_trace h.watched.run

-- What is told of a run beside a watcher is the report of its journal, and then the samples.
pub watch_told : (input : Input) (count : ℕ) (end : EndValue) (samples : List Sample) → HasWatchedRun input count end samples
    → TellsOfSource most_trace_bytes (TellsOfBytes (IsWatchedReport count)) input Good (text_of (Ok end) ++ samples_text samples)
watch_told input count end samples h = (
  h.gave.bytes,
  h.gave.read,
  (
    h.trace,
    h.gave.spelled,
    record {
      history = journal_of end;
      report = text_of (Ok end);
      is_report = report_by_run h.trace end h.gave.spelled.is_trace h.watched.run;
      samples = samples;
      taken = h.watched.taken;
      each = h.watched.each;
      rising = h.watched.rising;
      last = h.watched.last;
      says = refl;
    },
  ),
)

-- The same of samples that are shown as a list of their own.
pub watch_told_as : (input : Input) (count : ℕ) (end : EndValue) (samples shown : List Sample) → shown ≡ samples → HasWatchedRun input count end samples
    → TellsOfSource most_trace_bytes (TellsOfBytes (IsWatchedReport count)) input Good (text_of (Ok end) ++ samples_text shown)
watch_told_as input count end samples shown same h =
    subst (λ (ss : List Sample). TellsOfSource most_trace_bytes (TellsOfBytes (IsWatchedReport count)) input Good (text_of (Ok end) ++ samples_text ss)) (sym same) (watch_told input count end samples h)
