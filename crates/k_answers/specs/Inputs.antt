-- What the commands read.
use Rattle.std.specs.Prelude.{◌≡◌, ◌⊎◌, ℕ, ◌<◌, ◌≤◌, length, codes}
use Rattle.k_types.specs.Bounds.{most_trace_bytes, most_check_bytes}
use Rattle.k_words.specs.Words.{Text, IsSplitAt}
use Rattle.k_trace.specs.declared.errors.TraceError.{TraceError}
use Rattle.k_trace.specs.declared.errors.TraceError.TheVariants.{NoMemory, Bad}
use Rattle.k_trace.specs.declared.reasons.Reason.TheVariants.{TooManyBytes}
use Rattle.k_trace.specs.Judgement.{IsBad}
use Rattle.k_trace.specs.Named.{NamedTrace}
use Rattle.k_trace.specs.Reasons.{reason_number}
use Rattle.k_trace.specs.Rules.{Spells}
use Rattle.k_spawn.specs.Judgement.{IsBad as IsBadScript}
use Rattle.k_answers.specs.declared.commands.Command.{Command}
use Rattle.k_answers.specs.declared.commands.Command.TheVariants.{Big, Check, Audit, Tree}

-- The most bytes of the command's input. It reads at most one byte more, but for `big`, which reads nothing.
abbrev pub most_bytes : Command → ℕ
most_bytes Check = most_check_bytes
most_bytes Audit = most_check_bytes
most_bytes (Big objects) = 0
most_bytes _ = most_trace_bytes

-- The bytes are few enough for `check` and `audit`, and are the trace part and what stands behind it, which begins at the first line
-- that is the opening one; where there is no such line nothing stands behind it.
pub record AreParts (opening bytes front behind : Text) : Type 0 where
  pub few : length bytes ≤ most_check_bytes
  pub split : IsSplitAt opening bytes front behind

-- The bytes are these parts, and the trace part spells the trace.
pub record AreTraceAnd (opening bytes : Text) (t : NamedTrace) (behind : Text) : Type 0 where
  pub front : Text
  pub parts : AreParts opening bytes front behind
  pub spelled : Spells front t

-- The bytes are a trace and a report.
abbrev pub AreTraceAndReport : Text → NamedTrace → Text → Type 0
AreTraceAndReport bytes t report = AreTraceAnd (codes "report 1") bytes t report

-- The bytes are a trace and a snapshot.
abbrev pub AreTraceAndSnapshot : Text → NamedTrace → Text → Type 0
AreTraceAndSnapshot bytes t snapshot = AreTraceAnd (codes "snapshot 1") bytes t snapshot

-- The bytes are too many for `check` and `audit`, which is said of line 0.
pub record AreTooMany (bytes : Text) (line reason : ℕ) : Type 0 where
  pub many : most_check_bytes < length bytes
  pub at : line ≡ 0
  pub why : reason ≡ reason_number TooManyBytes

-- The line is the first bad one of the trace part, and that is the lowest reason that applies to it.
pub record IsBadFront (opening bytes : Text) (line reason : ℕ) : Type 0 where
  pub front : Text
  pub behind : Text
  pub parts : AreParts opening bytes front behind
  pub bad : IsBad front line reason

-- The bytes are too many, or their trace part is bad at this line, for this reason.
abbrev pub IsBadPart : Text → Text → ℕ → ℕ → Type 0
IsBadPart opening bytes line reason = AreTooMany bytes line reason ⊎ IsBadFront opening bytes line reason

-- Memory ran out, or the bytes are bad as the error says.
abbrev pub AreBadParts : Text → Text → TraceError → Type 0
AreBadParts opening bytes (NoMemory refused) = Unit {0}
AreBadParts opening bytes (Bad line reason) = IsBadPart opening bytes line reason

-- The command's input is bad, and that is its first bad line and the lowest reason that applies to it. `big` has no input.
abbrev pub IsBadFor : Command → Text → ℕ → ℕ → Type 0
IsBadFor Check bytes line reason = IsBadPart (codes "report 1") bytes line reason
IsBadFor Audit bytes line reason = IsBadPart (codes "snapshot 1") bytes line reason
IsBadFor Tree bytes line reason = IsBadScript bytes line reason
IsBadFor (Big objects) bytes line reason = ⊥
IsBadFor _ bytes line reason = IsBad bytes line reason
