-- What a source gave that was read as a trace, and why no trace was run.
use Rattle.std.specs.Prelude.{ℕ, ◌+◌, ◌≤◌, length}
use Rattle.std.specs.Io.KnownBytes.{Consumes, IsAtEnd}
use Rattle.k_types.specs.Bounds.{most_trace_bytes}
use Rattle.k_words.specs.Words.{Text}
use Rattle.k_trace.specs.Judgement.{IsBad}
use Rattle.k_trace.specs.Named.{NamedTrace}
use Rattle.k_trace.specs.Rules.{Spells}
use Rattle.k_status.specs.declared.run_error.RunError.{RunError}
use Rattle.k_status.specs.declared.run_error.RunError.TheVariants.{NoMemory, Unread, Bad}
use Rattle.k_status.specs.Ends.{Input, SourceFailed}

-- The source gave these bytes: all to the end of input, or one more than the limit where there are more.
pub record WasRead (limit : ℕ) (input : Input) (bytes : Text) : Type 0 where
  pub given : Consumes input.left input.rest bytes
  pub few : length bytes ≤ limit + 1
  pub ended : length bytes ≤ limit → IsAtEnd input.rest

-- The source gave bytes that spell the trace.
pub record GaveTrace (input : Input) (t : NamedTrace) : Type 0 where
  pub bytes : Text
  pub read : WasRead most_trace_bytes input bytes
  pub spelled : Spells bytes t

-- The source gave bytes of which that line is the first bad one, with that lowest reason.
pub record GaveBad (input : Input) (line reason : ℕ) : Type 0 where
  pub bytes : Text
  pub read : WasRead most_trace_bytes input bytes
  pub bad : IsBad bytes line reason

-- The source is the cause of the error, but for want of memory.
abbrev pub HasCause : Input → RunError → Type 0
HasCause input (NoMemory refused) = Unit {0}
HasCause input Unread = SourceFailed input
HasCause input (Bad line reason) = GaveBad input line reason
