-- What the parts of a call tell: the run of the workload, the check of a report, the audit of a snapshot, the judgement of a script.
use Rattle.std.specs.Prelude.{◌≡◌, ◌≢◌, ℕ, List, [], Ok}
use Rattle.k_words.specs.Words.{Text}
use Rattle.k_trace.specs.Named.{NamedTrace}
use Rattle.k_history.specs.Verdicts.{IsAccepted, IsRefused}
use Rattle.k_state.specs.Setups.{setup_of}
use Rattle.k_audit.specs.Verdicts.{IsVerdict}
use Rattle.k_audit.specs.declared.verdicts.Verdict.{Verdict}
use Rattle.k_audit.specs.declared.verdicts.Verdict.TheVariants.{Sound}
use Rattle.k_spawn.specs.Judgement.{judgement, IsBad as IsBadScript}
use Rattle.k_spawn.specs.Scripts.{Script}
use Rattle.k_spawn.specs.Translation.{translation}
use Rattle.k_answers.specs.declared.commands.Command.TheVariants.{Check, Audit}
use Rattle.k_status.specs.declared.status.Status.{Status}
use Rattle.k_status.specs.declared.status.Status.TheVariants.{Good, BadTrace, Usage, WantOfMemory, ReadFault, WriteFault, Refused}
use Rattle.k_answers.specs.Answers.{IsAccomplished, IsBadInput, IsFoundWrong, IsMisused}
use Rattle.k_answers.specs.Commands.{IsCommand, IsReading}
use Rattle.k_status.specs.Ends.{Input, SourceFailed}
use Rattle.k_answers.specs.Inputs.{AreTraceAndReport, AreTraceAndSnapshot, IsBadFor}
use Rattle.k_status.specs.Reports.{IsFileReport}
use Rattle.k_answers.specs.Reports.{IsSummaryOf}
use Rattle.k_status.specs.Texts.{bad_trace_text}
use Rattle.k_answers.specs.Texts.{good_text, refused_text, verdict_text}

-- What each status tells of a report that is checked against its trace, and of the text to be written.
abbrev pub TellsOfReport : NamedTrace → Text → Status → Text → Type 0
TellsOfReport t report Good text = IsAccepted t report × (text ≡ good_text)
TellsOfReport t report Refused text = (line : ℕ) × IsRefused t report line × (text ≡ refused_text line)
TellsOfReport t report WantOfMemory text = text ≡ []
TellsOfReport t report _ text = ⊥

-- What each status tells of the bytes that were read as a trace and a report, and of the text to be written.
abbrev pub TellsOfCheck : Text → Status → Text → Type 0
TellsOfCheck bytes Good text = (t : NamedTrace) × (report : Text) × AreTraceAndReport bytes t report × TellsOfReport t report Good text
TellsOfCheck bytes Refused text = (t : NamedTrace) × (report : Text) × AreTraceAndReport bytes t report × TellsOfReport t report Refused text
TellsOfCheck bytes BadTrace text = (line : ℕ) × (reason : ℕ) × IsBadFor Check bytes line reason × (text ≡ bad_trace_text line reason)
TellsOfCheck bytes WantOfMemory text = text ≡ []
TellsOfCheck bytes _ text = ⊥

-- What each status tells of the bytes that were read as a script, and of the text to be written.
abbrev pub TellsOfScript : Text → Status → Text → Type 0
TellsOfScript bytes Good text = (s : Script) × (judgement bytes ≡ Ok s) × IsFileReport (translation s) text
TellsOfScript bytes BadTrace text = (line : ℕ) × (reason : ℕ) × IsBadScript bytes line reason × (text ≡ bad_trace_text line reason)
TellsOfScript bytes WantOfMemory text = text ≡ []
TellsOfScript bytes _ text = ⊥

-- What each status tells of a snapshot that is audited over the header of a trace, and of the text to be written.
abbrev pub TellsOfSnapshot : NamedTrace → Text → Status → Text → Type 0
TellsOfSnapshot t snapshot Good text = IsVerdict t.names (setup_of t.trace) snapshot Sound × (text ≡ verdict_text Sound)
TellsOfSnapshot t snapshot Refused text = (verdict : Verdict) × IsVerdict t.names (setup_of t.trace) snapshot verdict × (verdict ≢ Sound) × (text ≡ verdict_text verdict)
TellsOfSnapshot t snapshot WantOfMemory text = text ≡ []
TellsOfSnapshot t snapshot _ text = ⊥

-- What each status tells of the bytes that were read as a trace and a snapshot, and of the text to be written.
abbrev pub TellsOfAudit : Text → Status → Text → Type 0
TellsOfAudit bytes Good text = (t : NamedTrace) × (snapshot : Text) × AreTraceAndSnapshot bytes t snapshot × TellsOfSnapshot t snapshot Good text
TellsOfAudit bytes Refused text = (t : NamedTrace) × (snapshot : Text) × AreTraceAndSnapshot bytes t snapshot × TellsOfSnapshot t snapshot Refused text
TellsOfAudit bytes BadTrace text = (line : ℕ) × (reason : ℕ) × IsBadFor Audit bytes line reason × (text ≡ bad_trace_text line reason)
TellsOfAudit bytes WantOfMemory text = text ≡ []
TellsOfAudit bytes _ text = ⊥

-- What each status tells of the workload, where each process makes so many objects, and of the text to be written.
abbrev pub TellsOfBig : ℕ → Status → Text → Type 0
TellsOfBig objects Good text = IsSummaryOf objects text
TellsOfBig objects WantOfMemory text = text ≡ []
TellsOfBig objects _ text = ⊥

-- What each status means of the words and the source, and of the text to be written.
abbrev pub Means : List Text → Input → Status → Text → Type 0
Means words input Good text = IsAccomplished words input text
Means words input BadTrace text = IsBadInput words input text
Means words input Usage text = IsMisused words text
Means words input WantOfMemory text = IsCommand words × (text ≡ [])
Means words input ReadFault text = IsReading words × SourceFailed input × (text ≡ [])
Means words input WriteFault text = ⊥
Means words input Refused text = IsFoundWrong words input text
