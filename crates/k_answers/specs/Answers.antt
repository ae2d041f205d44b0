-- What the program answers: the contract of its top call, a field for each status.
use Rattle.std.specs.Prelude.{◌≡◌, ◌≢◌, ◌⊎◌, ℕ, List, Some, Ok}
use Rattle.k_types.specs.declared.event.Event.{Event}
use Rattle.k_types.specs.FileOrder.{file_order}
use Rattle.k_words.specs.Words.{Text}
use Rattle.k_trace.specs.Named.{NamedTrace}
use Rattle.k_trace.specs.Rules.{Spells}
use Rattle.k_history.specs.Good.{IsGoodReport, IsRefusedAt}
use Rattle.k_history.specs.Verdicts.{IsRefused}
use Rattle.k_state.specs.Setups.{setup_of}
use Rattle.k_audit.specs.Verdicts.{IsVerdict}
use Rattle.k_audit.specs.declared.verdicts.Verdict.{Verdict}
use Rattle.k_audit.specs.declared.verdicts.Verdict.TheVariants.{Sound}
use Rattle.k_spawn.specs.Agreement.{AgreesWithTree}
use Rattle.k_spawn.specs.Judgement.{judgement}
use Rattle.k_spawn.specs.Scripts.{Script}
use Rattle.k_spawn.specs.Translation.{translation}
use Rattle.k_answers.specs.declared.commands.Command.{Command}
use Rattle.k_answers.specs.declared.commands.Command.TheVariants.{Replay, Check, Big, Watch, Work, Snap, Audit, Tree}
use Rattle.k_status.specs.declared.status.Status.{Status}
use Rattle.k_status.specs.declared.status.Status.TheVariants.{Good, BadTrace, Usage, WantOfMemory, ReadFault, WriteFault, Refused}
use Rattle.k_answers.specs.Commands.{command_of, IsCommand, IsNoCommand, IsReading, ReadsTrace, RunsTrace}
use Rattle.k_status.specs.Ends.{Input, Output, SourceFailed, SinkFailed, Took, TookFront, TookNothing}
use Rattle.k_answers.specs.Inputs.{most_bytes, AreTraceAndReport, AreTraceAndSnapshot, IsBadFor}
use Rattle.k_status.specs.Readings.{WasRead}
use Rattle.k_status.specs.Reports.{IsFileReport, IsReportOf}
use Rattle.k_answers.specs.Reports.{IsFileSnapshot, IsSummaryOf, IsWatchedReport, IsWorkReport}
use Rattle.k_answers.specs.Texts.{usage_text, good_text, refused_text, verdict_text}
use Rattle.k_status.specs.Texts.{bad_trace_text}

-- A trace was read and run, and the text is the report of a history of it. By `replay` that is the one in the order of the file.
pub record IsDone (words : List Text) (input : Input) (text : Text) : Type 0 where
  pub command : Command
  pub said : command_of words ≡ Some command
  pub runs : RunsTrace command
  pub bytes : Text
  pub read : WasRead (most_bytes command) input bytes
  pub trace : NamedTrace
  pub spelled : Spells bytes trace
  pub history : List Event
  pub report : IsReportOf trace history text
  pub in_order : command ≡ Replay → history ≡ file_order trace.trace

-- By `check` a trace and a report were read, the report is that of a history of the trace, and the text says that it is good.
pub record IsChecked (words : List Text) (input : Input) (text : Text) : Type 0 where
  pub said : command_of words ≡ Some Check
  pub bytes : Text
  pub read : WasRead (most_bytes Check) input bytes
  pub trace : NamedTrace
  pub report : Text
  pub parts : AreTraceAndReport bytes trace report
  pub history : List Event
  pub good : IsReportOf trace history report
  pub nowhere_refused : (n : ℕ) → ¬ IsRefusedAt trace report n
  pub says : text ≡ good_text

-- By `big` the text is the summary of a run of the trace where each process makes so many objects.
pub record IsSummed (words : List Text) (text : Text) : Type 0 where
  pub objects : ℕ
  pub said : command_of words ≡ Some (Big objects)
  pub summary : IsSummaryOf objects text

-- By `watch` a trace was read and run beside a watcher, and the text is the report of a history of it and the samples that were taken.
pub record IsSampled (words : List Text) (input : Input) (text : Text) : Type 0 where
  pub count : ℕ
  pub said : command_of words ≡ Some (Watch count)
  pub bytes : Text
  pub read : WasRead (most_bytes (Watch count)) input bytes
  pub trace : NamedTrace
  pub spelled : Spells bytes trace
  pub watched : IsWatchedReport count trace text

-- By `work` a trace was read and run, and the text is the report of a history of it and the lines of its work.
pub record IsWorked (words : List Text) (input : Input) (text : Text) : Type 0 where
  pub said : command_of words ≡ Some Work
  pub bytes : Text
  pub read : WasRead (most_bytes Work) input bytes
  pub trace : NamedTrace
  pub spelled : Spells bytes trace
  pub worked : IsWorkReport trace text

-- By `snap` a trace was read and its operations were done in the order of the file, and the text is the snapshot of the state that they left.
pub record IsSnapped (words : List Text) (input : Input) (text : Text) : Type 0 where
  pub said : command_of words ≡ Some Snap
  pub bytes : Text
  pub read : WasRead (most_bytes Snap) input bytes
  pub trace : NamedTrace
  pub spelled : Spells bytes trace
  pub snapshot : IsFileSnapshot trace text

-- By `check` a trace and a report were read, the report is refused, and the text tells its first wrong line.
pub record IsRefusedReport (words : List Text) (input : Input) (text : Text) : Type 0 where
  pub said : command_of words ≡ Some Check
  pub bytes : Text
  pub read : WasRead (most_bytes Check) input bytes
  pub trace : NamedTrace
  pub report : Text
  pub parts : AreTraceAndReport bytes trace report
  pub line : ℕ
  pub refused : IsRefused trace report line
  pub says : text ≡ refused_text line

-- By `audit` a trace and a snapshot were read, and that is the verdict that the snapshot deserves over the trace's header, which the text
-- tells.
pub record IsAudited (words : List Text) (input : Input) (verdict : Verdict) (text : Text) : Type 0 where
  pub said : command_of words ≡ Some Audit
  pub bytes : Text
  pub read : WasRead (most_bytes Audit) input bytes
  pub trace : NamedTrace
  pub snapshot : Text
  pub parts : AreTraceAndSnapshot bytes trace snapshot
  pub deserved : IsVerdict trace.names (setup_of trace.trace) snapshot verdict
  pub says : text ≡ verdict_text verdict

-- By `audit` a snapshot was found not to be sound.
pub record IsFaulted (words : List Text) (input : Input) (text : Text) : Type 0 where
  pub verdict : Verdict
  pub not_sound : verdict ≢ Sound
  pub audited : IsAudited words input verdict text

-- By `tree` a script was read and the operations of its translation were done in the order of the file, and the text is their report. The
-- machine on the translation agrees with the tree machine, in which children and their limits come and go.
pub record IsTranslated (words : List Text) (input : Input) (text : Text) : Type 0 where
  pub said : command_of words ≡ Some Tree
  pub bytes : Text
  pub read : WasRead (most_bytes Tree) input bytes
  pub script : Script
  pub judged : judgement bytes ≡ Ok script
  pub report : IsFileReport (translation script) text
  pub agrees : AgreesWithTree script

-- What was read, or the trace part of it, is no trace, or by `tree` no script, and the text tells the first bad line and its lowest reason.
pub record IsBadInput (words : List Text) (input : Input) (text : Text) : Type 0 where
  pub command : Command
  pub said : command_of words ≡ Some command
  pub bytes : Text
  pub read : WasRead (most_bytes command) input bytes
  pub line : ℕ
  pub reason : ℕ
  pub bad : IsBadFor command bytes line reason
  pub says : text ≡ bad_trace_text line reason

-- The words are no command, and the text is the usage line.
pub record IsMisused (words : List Text) (text : Text) : Type 0 where
  pub no_command : IsNoCommand words
  pub says : text ≡ usage_text

-- The command was done, and that is its text.
abbrev pub IsAccomplished : List Text → Input → Text → Type 0
IsAccomplished words input text =
    IsDone words input text ⊎ IsChecked words input text ⊎ IsSummed words text ⊎ IsSampled words input text ⊎ IsWorked words input text ⊎ IsSnapped words input text ⊎ IsAudited words input Sound text
    ⊎ IsTranslated words input text

-- A report or a snapshot was refused, or a snapshot is not sound, and that is the text of it.
abbrev pub IsFoundWrong : List Text → Input → Text → Type 0
IsFoundWrong words input text = IsRefusedReport words input text ⊎ IsFaulted words input text

-- The text is what a call without a fault of the sink would have written.
abbrev pub IsDue : List Text → Input → Text → Type 0
IsDue words input text = IsAccomplished words input text ⊎ IsFoundWrong words input text ⊎ IsBadInput words input text ⊎ IsMisused words text

-- Where neither source nor sink fails, the words and the bytes decide the answer, up to want of memory. `big` and words that are no command
-- do not go by the source.
pub record IsDecided (words : List Text) (input : Input) (output : Output) (answer : Status) : Type 0 where
  pub of_no_command : IsNoCommand words → ¬ SinkFailed output → answer ≡ Usage
  pub of_trace : (command : Command) (bytes : Text) (t : NamedTrace) → command_of words ≡ Some command → ReadsTrace command → input.left ≡ Some bytes → Spells bytes t
      → ¬ SourceFailed input → ¬ SinkFailed output → (answer ≡ Good) ⊎ (answer ≡ WantOfMemory)
  pub of_script : (bytes : Text) (s : Script) → command_of words ≡ Some Tree → input.left ≡ Some bytes → judgement bytes ≡ Ok s
      → ¬ SourceFailed input → ¬ SinkFailed output → (answer ≡ Good) ⊎ (answer ≡ WantOfMemory)
  pub of_big : (objects : ℕ) → command_of words ≡ Some (Big objects) → ¬ SinkFailed output → (answer ≡ Good) ⊎ (answer ≡ WantOfMemory)
  pub of_good_report : (bytes : Text) (t : NamedTrace) (report : Text) → command_of words ≡ Some Check → input.left ≡ Some bytes → AreTraceAndReport bytes t report → IsGoodReport t report
      → ¬ SourceFailed input → ¬ SinkFailed output → (answer ≡ Good) ⊎ (answer ≡ WantOfMemory)
  pub of_wrong_report : (bytes : Text) (t : NamedTrace) (report : Text) (n : ℕ) → command_of words ≡ Some Check → input.left ≡ Some bytes → AreTraceAndReport bytes t report → IsRefusedAt t report n
      → ¬ SourceFailed input → ¬ SinkFailed output → (answer ≡ Refused) ⊎ (answer ≡ WantOfMemory)
  pub of_sound_snapshot : (bytes : Text) (t : NamedTrace) (snapshot : Text) → command_of words ≡ Some Audit → input.left ≡ Some bytes → AreTraceAndSnapshot bytes t snapshot
      → IsVerdict t.names (setup_of t.trace) snapshot Sound → ¬ SourceFailed input → ¬ SinkFailed output → (answer ≡ Good) ⊎ (answer ≡ WantOfMemory)
  pub of_faulty_snapshot : (bytes : Text) (t : NamedTrace) (snapshot : Text) (verdict : Verdict) → command_of words ≡ Some Audit → input.left ≡ Some bytes → AreTraceAndSnapshot bytes t snapshot
      → IsVerdict t.names (setup_of t.trace) snapshot verdict → verdict ≢ Sound → ¬ SourceFailed input → ¬ SinkFailed output → (answer ≡ Refused) ⊎ (answer ≡ WantOfMemory)
  pub of_bad_input : (command : Command) (bytes : Text) (line reason : ℕ) → command_of words ≡ Some command → input.left ≡ Some bytes → IsBadFor command bytes line reason
      → ¬ SourceFailed input → ¬ SinkFailed output → (answer ≡ BadTrace) ⊎ (answer ≡ WantOfMemory)

-- What each status means where it is the answer, and which answer comes.
pub record IsAnswered (words : List Text) (input : Input) (output : Output) (answer : Status) : Type 0 where
  pub good : answer ≡ Good → (text : Text) × IsAccomplished words input text × Took output text
  pub bad_trace : answer ≡ BadTrace → (text : Text) × IsBadInput words input text × Took output text
  pub usage : answer ≡ Usage → IsNoCommand words × Took output usage_text
  pub want_of_memory : answer ≡ WantOfMemory → IsCommand words × TookNothing output
  pub read_fault : answer ≡ ReadFault → IsReading words × SourceFailed input × TookNothing output
  pub write_fault : answer ≡ WriteFault → (text : Text) × IsDue words input text × TookFront output text
  pub refused : answer ≡ Refused → (text : Text) × IsFoundWrong words input text × Took output text
  pub complete : IsDecided words input output answer
