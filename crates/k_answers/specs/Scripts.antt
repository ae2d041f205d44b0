-- What a source gave that was read as a script, and why it was not done.
use Rattle.std.specs.Prelude.{◌≡◌, ℕ, Ok}
use Rattle.k_types.specs.Bounds.{most_trace_bytes}
use Rattle.k_words.specs.Words.{Text}
use Rattle.k_trace.specs.Named.{NamedTrace}
use Rattle.k_trace.specs.Rules.{IsTrace}
use Rattle.k_spawn.specs.Judgement.{judgement, IsBad}
use Rattle.k_spawn.specs.Scripts.{Script}
use Rattle.k_spawn.specs.Translation.{translation}
use Rattle.k_status.specs.declared.run_error.RunError.{RunError}
use Rattle.k_status.specs.declared.run_error.RunError.TheVariants.{NoMemory, Unread, Bad}
use Rattle.k_status.specs.Readings.{WasRead}
use Rattle.k_status.specs.Ends.{Input, SourceFailed}

-- The source gave bytes that are a script of which this is the translation.
pub record GaveScript (input : Input) (t : NamedTrace) : Type 0 where
  pub bytes : Text
  pub read : WasRead most_trace_bytes input bytes
  pub script : Script
  pub judged : judgement bytes ≡ Ok script
  pub translated : t ≡ translation script
  pub is_trace : IsTrace t

-- The source gave bytes of which that line is the first bad one of a script, with that lowest reason.
pub record GaveBad (input : Input) (line reason : ℕ) : Type 0 where
  pub bytes : Text
  pub read : WasRead most_trace_bytes input bytes
  pub bad : IsBad bytes line reason

-- The source is the cause of the error, but for want of memory.
abbrev pub HasCause : Input → RunError → Type 0
HasCause input (NoMemory refused) = Unit {0}
HasCause input Unread = SourceFailed input
HasCause input (Bad line reason) = GaveBad input line reason
