-- What a call that can run out of memory answers.
use Rattle.std.specs.Prelude.{◌≡◌, ℕ, ◌≤◌, List, length, None, Result, Ok, Err}
use Rattle.k_io.specs.k_types.declared.no_memory.NoMemory.{NoMemory}
use Rattle.k_limits.specs.k_types.declared.names.Field.{Field}
use Rattle.k_limits.specs.k_types.declared.setup.LimitRow.{LimitRow}
use Rattle.k_limits.specs.k_types.Types.{HaveFewFields}
use Rattle.k_limits.specs.Rows.{AreRows, first_refused}
use Rattle.k_trace.specs.declared.errors.LineError.{LineError}
use Rattle.k_trace.specs.declared.errors.LineError.TheVariants as line
use Rattle.k_trace.specs.declared.trace.Trace.{Trace}
use Rattle.k_trace.specs.Named.{NamedTrace}
use Rattle.k_trace.specs.Meaning.{meaning_of}
use Rattle.k_trace.specs.Judgement.{SoFar, Judged}

-- each limit stands behind its parent, and none is refused what it reserves
pub record AreReserved (rows : List LimitRow) : Type 0 where
  pub ordered : AreRows rows
  pub none_refused : first_refused rows ≡ None

-- what is kept beside what the lines say: few fields for each type, limits whose reservations fit, each with a name, and a
-- list of operations for each process
pub record IsReader (types : List (List Field)) (rows : List LimitRow) (limits procs operations : ℕ) : Type 0 where
  pub few_fields : HaveFewFields types
  pub reserved : AreReserved rows
  pub named : limits ≡ length rows
  pub listed : procs ≤ operations

-- memory ran out, or the line is bad by that reason
abbrev pub RefusesLine : LineError → Judged → Type 0
RefusesLine (line.NoMemory refused) judged = Unit {0}
RefusesLine (line.Bad reason) judged = judged ≡ Err reason

-- the line was taken, which leads to after, or it is refused
abbrev pub IsJudged : Result (Unit {0}) LineError → SoFar → Judged → Type 0
IsJudged (Ok done) after judged = judged ≡ Ok after
IsJudged (Err e) after judged = RefusesLine e judged

-- the trace that was said, where there was memory for it
abbrev pub Finishes : Result Trace NoMemory → NamedTrace → Type 0
Finishes (Ok t) said = meaning_of t ≡ said
Finishes (Err e) said = Unit {0}
