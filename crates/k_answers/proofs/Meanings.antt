-- What each status means, from what a command tells of its source.
use Rattle.std.proofs.Common.{◌≡◌, ℕ, List, Some, inl, inr, refl, subst, sym}
use Rattle.k_types.specs.Bounds.{most_trace_bytes, most_check_bytes}
use Rattle.k_types.specs.declared.event.Event.{Event}
use Rattle.k_types.specs.FileOrder.{file_order}
use Rattle.k_words.specs.Words.{Text}
use Rattle.k_trace.specs.Judgement.{IsBad}
use Rattle.k_trace.specs.Named.{NamedTrace}
use Rattle.k_trace.specs.Rules.{IsTrace}
use Rattle.k_history.specs.Good.{IsGoodReport}
use Rattle.k_spawn.proofs.ScriptsAgree.{judged_agrees}
use Rattle.k_answers.specs.declared.commands.Command.{Command}
use Rattle.k_answers.specs.declared.commands.Command.TheVariants.{Run, Replay, Check, Big, Watch, Work, Snap, Audit, Tree}
use Rattle.k_status.specs.declared.status.Status.{Status}
use Rattle.k_status.specs.declared.status.Status.TheVariants.{Good, BadTrace, Usage, WantOfMemory, ReadFault, WriteFault, Refused}
use Rattle.k_answers.specs.Answers.{IsChecked, IsDone}
use Rattle.k_status.specs.Readings.{WasRead}
use Rattle.k_answers.specs.Commands.{command_of, ReadsSource, RunsTrace}
use Rattle.k_status.specs.Ends.{Input}
use Rattle.k_answers.specs.Inputs.{most_bytes, IsBadFor}
use Rattle.k_answers.specs.Parts.{Means, TellsOfAudit, TellsOfBig, TellsOfCheck, TellsOfScript}
use Rattle.k_status.specs.Telling.{TellsOfBytes, TellsOfSource}
use Rattle.k_status.specs.Reports.{IsFileReport, IsReportOf, IsSomeReport}
use Rattle.k_answers.specs.Reports.{IsFileSnapshot, IsWatchedReport, IsWorkReport}
use Rattle.k_status.proofs.ReadBack.{report_is}

-- ---- the commands that run a trace

-- Such a command reads at most a trace.
read_for : (command : Command) (input : Input) (bytes : Text) → RunsTrace command → WasRead most_trace_bytes input bytes → WasRead (most_bytes command) input bytes
read_for Run input bytes runs read = read
read_for Replay input bytes runs read = read
read_for Check input bytes runs read = absurd runs
read_for (Big objects) input bytes runs read = absurd runs
read_for (Watch count) input bytes runs read = absurd runs
read_for Work input bytes runs read = absurd runs
read_for Snap input bytes runs read = absurd runs
read_for Audit input bytes runs read = absurd runs
read_for Tree input bytes runs read = absurd runs

reads : (command : Command) → RunsTrace command → ReadsSource command
reads Run runs = tt
reads Replay runs = tt
reads Check runs = absurd runs
reads (Big objects) runs = absurd runs
reads (Watch count) runs = absurd runs
reads Work runs = absurd runs
reads Snap runs = absurd runs
reads Audit runs = absurd runs
reads Tree runs = absurd runs

bad_for : (command : Command) (bytes : Text) (line reason : ℕ) → RunsTrace command → IsBad bytes line reason → IsBadFor command bytes line reason
bad_for Run bytes line reason runs bad = bad
bad_for Replay bytes line reason runs bad = bad
bad_for Check bytes line reason runs bad = absurd runs
bad_for (Big objects) bytes line reason runs bad = absurd runs
bad_for (Watch count) bytes line reason runs bad = absurd runs
bad_for Work bytes line reason runs bad = absurd runs
bad_for Snap bytes line reason runs bad = absurd runs
bad_for Audit bytes line reason runs bad = absurd runs
bad_for Tree bytes line reason runs bad = absurd runs

-- Which texts such a command writes of a trace: by `replay` the report of the order of the file, else that of some history.
abbrev pub reports_of : Command → NamedTrace → Text → Type 0
reports_of Replay = IsFileReport
reports_of _ = IsSomeReport

-- A history of which the command wrote the report; by `replay` it is the one in the order of the file.
record IsTold (command : Command) (t : NamedTrace) (text : Text) : Type 0 where
  history : List Event
  report : IsReportOf t history text
  in_order : command ≡ Replay → history ≡ file_order t.trace

told_history : (command : Command) (t : NamedTrace) (text : Text) → RunsTrace command → reports_of command t text → IsTold command t text
told_history Run t text runs h = record { history = h.0; report = h.1; in_order = λ (clash : Run ≡ Replay). absurd cc }
told_history Replay t text runs h = record { history = file_order t.trace; report = h; in_order = λ same. refl }
told_history Check t text runs h = absurd runs
told_history (Big objects) t text runs h = absurd runs
told_history (Watch count) t text runs h = absurd runs
told_history Work t text runs h = absurd runs
told_history Snap t text runs h = absurd runs
told_history Audit t text runs h = absurd runs
told_history Tree t text runs h = absurd runs

done_by_run : (words : List Text) (input : Input) (command : Command) (text : Text) → command_of words ≡ Some command → RunsTrace command → TellsOfSource most_trace_bytes (TellsOfBytes (reports_of command)) input Good text → IsDone words input text
done_by_run words input command text said runs h =
    let told = told_history command h.2.0 text runs h.2.2 in
    record {
      command = command;
      said = said;
      runs = runs;
      bytes = h.0;
      read = read_for command input h.0 runs h.1;
      trace = h.2.0;
      spelled = h.2.1;
      history = told.history;
      report = told.report;
      in_order = told.in_order;
    }

pub run_means : (words : List Text) (input : Input) (command : Command) → command_of words ≡ Some command → RunsTrace command
    → (status : Status) (text : Text) → TellsOfSource most_trace_bytes (TellsOfBytes (reports_of command)) input status text → Means words input status text
run_means words input command said runs Good text h = inl (done_by_run words input command text said runs h)
run_means words input command said runs BadTrace text h =
    record { command = command; said = said; bytes = h.0; read = read_for command input h.0 runs h.1; line = h.2.0; reason = h.2.1; bad = bad_for command h.0 h.2.0 h.2.1 runs h.2.2; says = h.2.3 }
run_means words input command said runs WantOfMemory text h = ((command, said), h)
run_means words input command said runs ReadFault text h = ((command, said, reads command runs), h.0, h.1)
run_means words input command said runs Usage text h = absurd h.2
run_means words input command said runs WriteFault text h = absurd h.2
run_means words input command said runs Refused text h = absurd h.2

-- ---- the command that checks a report

-- A good report is the report of its history, which can be read back from it and frees nothing live.
good_is : (t : NamedTrace) (report : Text) (good : IsGoodReport t report) → IsTrace t → IsReportOf t good.history report
good_is t report good is = subst (IsReportOf t good.history) (sym good.text) (report_is t good.history is good.legal good.complete)

checked_by_check : (words : List Text) (input : Input) (text : Text) → command_of words ≡ Some Check → TellsOfSource most_check_bytes TellsOfCheck input Good text → IsChecked words input text
checked_by_check words input text said h = record {
  said = said;
  bytes = h.0;
  read = h.1;
  trace = h.2.0;
  report = h.2.1;
  parts = h.2.2;
  history = h.2.3.0.good.history;
  good = good_is h.2.0 h.2.1 h.2.3.0.good h.2.2.spelled.is_trace;
  nowhere_refused = h.2.3.0.not_refused;
  says = h.2.3.1;
}

pub check_means : (words : List Text) (input : Input) → command_of words ≡ Some Check
    → (status : Status) (text : Text) → TellsOfSource most_check_bytes TellsOfCheck input status text → Means words input status text
check_means words input said Good text h = inr (inl (checked_by_check words input text said h))
check_means words input said Refused text h =
    inl (record { said = said; bytes = h.0; read = h.1; trace = h.2.0; report = h.2.1; parts = h.2.2; line = h.2.3.0; refused = h.2.3.1; says = h.2.3.2 })
check_means words input said BadTrace text h = record { command = Check; said = said; bytes = h.0; read = h.1; line = h.2.0; reason = h.2.1; bad = h.2.2; says = h.2.3 }
check_means words input said WantOfMemory text h = ((Check, said), h)
check_means words input said ReadFault text h = ((Check, said, tt), h.0, h.1)
check_means words input said Usage text h = absurd h.2
check_means words input said WriteFault text h = absurd h.2

-- ---- the command that runs the workload

pub big_means : (words : List Text) (input : Input) (objects : ℕ) → command_of words ≡ Some (Big objects) → (status : Status) (text : Text) → TellsOfBig objects status text → Means words input status text
big_means words input objects said Good text h = inr (inr (inl (record { objects = objects; said = said; summary = h })))
big_means words input objects said WantOfMemory text h = ((Big objects, said), h)
big_means words input objects said BadTrace text h = absurd h
big_means words input objects said Usage text h = absurd h
big_means words input objects said ReadFault text h = absurd h
big_means words input objects said WriteFault text h = absurd h
big_means words input objects said Refused text h = absurd h

-- ---- the command that runs a trace beside a watcher

pub watch_means : (words : List Text) (input : Input) (count : ℕ) → command_of words ≡ Some (Watch count)
    → (status : Status) (text : Text) → TellsOfSource most_trace_bytes (TellsOfBytes (IsWatchedReport count)) input status text → Means words input status text
watch_means words input count said Good text h = inr (inr (inr (inl (record { count = count; said = said; bytes = h.0; read = h.1; trace = h.2.0; spelled = h.2.1; watched = h.2.2 }))))
watch_means words input count said BadTrace text h = record { command = Watch count; said = said; bytes = h.0; read = h.1; line = h.2.0; reason = h.2.1; bad = h.2.2; says = h.2.3 }
watch_means words input count said WantOfMemory text h = ((Watch count, said), h)
watch_means words input count said ReadFault text h = ((Watch count, said, tt), h.0, h.1)
watch_means words input count said Usage text h = absurd h.2
watch_means words input count said WriteFault text h = absurd h.2
watch_means words input count said Refused text h = absurd h.2

-- ---- the command that runs a trace and tells the work of its collections

pub work_means : (words : List Text) (input : Input) → command_of words ≡ Some Work
    → (status : Status) (text : Text) → TellsOfSource most_trace_bytes (TellsOfBytes IsWorkReport) input status text → Means words input status text
work_means words input said Good text h = inr (inr (inr (inr (inl (record { said = said; bytes = h.0; read = h.1; trace = h.2.0; spelled = h.2.1; worked = h.2.2 })))))
work_means words input said BadTrace text h = record { command = Work; said = said; bytes = h.0; read = h.1; line = h.2.0; reason = h.2.1; bad = h.2.2; says = h.2.3 }
work_means words input said WantOfMemory text h = ((Work, said), h)
work_means words input said ReadFault text h = ((Work, said, tt), h.0, h.1)
work_means words input said Usage text h = absurd h.2
work_means words input said WriteFault text h = absurd h.2
work_means words input said Refused text h = absurd h.2

-- ---- the command that writes the snapshot of what a trace leaves

pub snap_means : (words : List Text) (input : Input) → command_of words ≡ Some Snap
    → (status : Status) (text : Text) → TellsOfSource most_trace_bytes (TellsOfBytes IsFileSnapshot) input status text → Means words input status text
snap_means words input said Good text h = inr (inr (inr (inr (inr (inl (record { said = said; bytes = h.0; read = h.1; trace = h.2.0; spelled = h.2.1; snapshot = h.2.2 }))))))
snap_means words input said BadTrace text h = record { command = Snap; said = said; bytes = h.0; read = h.1; line = h.2.0; reason = h.2.1; bad = h.2.2; says = h.2.3 }
snap_means words input said WantOfMemory text h = ((Snap, said), h)
snap_means words input said ReadFault text h = ((Snap, said, tt), h.0, h.1)
snap_means words input said Usage text h = absurd h.2
snap_means words input said WriteFault text h = absurd h.2
snap_means words input said Refused text h = absurd h.2

-- ---- the command that audits a snapshot

pub audit_means : (words : List Text) (input : Input) → command_of words ≡ Some Audit
    → (status : Status) (text : Text) → TellsOfSource most_check_bytes TellsOfAudit input status text → Means words input status text
audit_means words input said Good text h =
    inr (inr (inr (inr (inr (inr (inl (record { said = said; bytes = h.0; read = h.1; trace = h.2.0; snapshot = h.2.1; parts = h.2.2; deserved = h.2.3.0; says = h.2.3.1 })))))))
audit_means words input said Refused text h =
    inr (record {
      verdict = h.2.3.0;
      not_sound = h.2.3.2;
      audited = record { said = said; bytes = h.0; read = h.1; trace = h.2.0; snapshot = h.2.1; parts = h.2.2; deserved = h.2.3.1; says = h.2.3.3 };
    })
audit_means words input said BadTrace text h = record { command = Audit; said = said; bytes = h.0; read = h.1; line = h.2.0; reason = h.2.1; bad = h.2.2; says = h.2.3 }
audit_means words input said WantOfMemory text h = ((Audit, said), h)
audit_means words input said ReadFault text h = ((Audit, said, tt), h.0, h.1)
audit_means words input said Usage text h = absurd h.2
audit_means words input said WriteFault text h = absurd h.2

-- ---- the command that does the operations of a script

pub tree_means : (words : List Text) (input : Input) → command_of words ≡ Some Tree
    → (status : Status) (text : Text) → TellsOfSource most_trace_bytes TellsOfScript input status text → Means words input status text
tree_means words input said Good text h = inr (inr (inr (inr (inr (inr (inr (record { said = said; bytes = h.0; read = h.1; script = h.2.0; judged = h.2.1; report = h.2.2; agrees = (judged_agrees h.0 h.2.0 h.2.1).1 })))))))
tree_means words input said BadTrace text h = record { command = Tree; said = said; bytes = h.0; read = h.1; line = h.2.0; reason = h.2.1; bad = h.2.2; says = h.2.3 }
tree_means words input said WantOfMemory text h = ((Tree, said), h)
tree_means words input said ReadFault text h = ((Tree, said, tt), h.0, h.1)
tree_means words input said Usage text h = absurd h.2
tree_means words input said WriteFault text h = absurd h.2
tree_means words input said Refused text h = absurd h.2
