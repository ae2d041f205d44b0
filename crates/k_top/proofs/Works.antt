-- What is told of a run and of its work.
use Rattle.std.proofs.Common.{◌≡◌, ◌∙◌, ◌<◌, ◌^◌, ◌++◌, Ok, length, subst, sym, ap, ap₂, arith}
use Rattle.k_types.specs.Bounds.{most_trace_bytes}
use Rattle.k_types.specs.Steps.{IsLegalHistory}
use Rattle.k_types.specs.Trace.{Trace}
use Rattle.k_trace.specs.Named.{DeclaredNames, NamedTrace}
use Rattle.k_trace.specs.Rules.{IsTrace}
use Rattle.k_answers.specs.Begun.{IsBegun}
use Rattle.k_answers.proofs.Rooms.{few_events}
use Rattle.k_run.specs.k_outcome.Ends.{EndValue, IsEnd, journal_of}
use Rattle.k_run.specs.Runs.{IsRunOf}
use Rattle.k_answers.specs.Setups.{AreSetupRules}
use Rattle.k_answers.specs.k_work.Crediting.{AreSmall}
use Rattle.k_answers.specs.k_work.Lines.{work_text}
use Rattle.k_answers.specs.k_work.Tables.{Work, work_of}
use Rattle.k_answers.proofs.WorkNumbers.{below_length}
use Rattle.k_answers.proofs.Unread.{work_unread}
use Rattle.k_status.specs.declared.status.Status.TheVariants.{Good}
use Rattle.k_status.specs.Ends.{Input}
use Rattle.k_status.specs.Telling.{TellsOfBytes, TellsOfSource}
use Rattle.k_answers.specs.Reports.{IsWorkReport}
use Rattle.k_status.specs.Readings.{GaveTrace}
use Rattle.k_run.specs.Commands.{text_of}
use Rattle.k_top.specs.Runs.{CanBeWritten, HasWorkedRun}
use Rattle.k_run.proofs.Reports.{named_in_run, report_by_run}

-- The journal of a run has fewer events than a table of its work has room for.
pub run_few : (t : NamedTrace) (end : EndValue) → IsTrace t → IsRunOf t end → length (journal_of end) < 2 ^ 29
run_few t end is run =
    let begun : IsBegun t.trace (journal_of end) = record { legal = run.legal; in_order = run.complete.in_order } in
    omega (arith, few_events t.trace (journal_of end) is.rules begun)

-- The setup that a run shows keeps the rules, and the journal is legal for it.
pub setup_ruled : (end : EndValue) (setup : Trace) → setup ≡ end.setup → IsEnd end → AreSetupRules setup
setup_ruled end setup same is = subst AreSetupRules (sym same) is.rules

pub setup_legal : (end : EndValue) (setup : Trace) → setup ≡ end.setup → IsEnd end → IsLegalHistory setup (journal_of end)
setup_legal end setup same is = subst (λ (s : Trace). IsLegalHistory s (journal_of end)) (sym same) is.legal

-- The work over the setup of a run is that of its trace.
pub work_of_run : (t : NamedTrace) (end : EndValue) → IsRunOf t end → work_of end.setup (journal_of end) ≡ work_of t.trace (journal_of end)
work_of_run t end run = ap (λ (setup : Trace). work_of setup (journal_of end)) run.setup ∙ work_unread t.trace (journal_of end)

-- The table of the work of a run.
pub worked_run : (input : Input) (t : NamedTrace) (end : EndValue) (setup : Trace) (table : Work) → GaveTrace input t → IsRunOf t end → setup ≡ end.setup → table ≡ work_of setup (journal_of end) → AreSmall table →
    HasWorkedRun input end table
worked_run input t end setup table gave run same is small =
    record { trace = t; gave = gave; run = run; work = is ∙ ap (λ (s : Trace). work_of s (journal_of end)) same ∙ work_of_run t end run; small = small }

-- There are few rows, and each has a name.
pub can_be_written : (input : Input) (end : EndValue) (table : Work) → HasWorkedRun input end table → CanBeWritten end table
can_be_written input end table h =
    let is = h.gave.spelled.is_trace in
    let rows : length table.procs ≡ length h.trace.trace.procs = ap (λ (w : Work). length w.procs) h.work ∙ below_length _ (length h.trace.trace.procs) in
    record {
      named = named_in_run h.trace end is h.run;
      rows = rows ∙ sym is.procs_named ∙ sym (ap (λ (names : DeclaredNames). length names.procs) h.run.names);
      few = omega (arith, rows, is.rules.processes);
      small = h.small;
    }

-- What is told of a run is the report of its journal, and then the lines of its work.
pub work_told : (input : Input) (end : EndValue) (table : Work) → HasWorkedRun input end table
    → TellsOfSource most_trace_bytes (TellsOfBytes IsWorkReport) input Good (text_of (Ok end) ++ work_text end.names table)
work_told input end table h = (
  h.gave.bytes,
  h.gave.read,
  (
    h.trace,
    h.gave.spelled,
    record {
      history = journal_of end;
      report = text_of (Ok end);
      is_report = report_by_run h.trace end h.gave.spelled.is_trace h.run;
      says = ap₂ (λ (names : DeclaredNames) (w : Work). text_of (Ok end) ++ work_text names w) h.run.names h.work;
    },
  ),
)
